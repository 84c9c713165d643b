use Rattle.std.proofs.Common.{◌+◌, ◌*◌, ◌/◌, ◌%◌, ◌<◌, ℕ, List, length, refl, subst, sym, ap, ◌∙◌, arith}
use Rattle.std.proofs.lemmas.Nat.{mod_below}
use Rattle.tc_mat.specs.Matrix.{words_a_row}
use Rattle.tc_mat.specs.Product.{HasBits, Leads}
use Rattle.tc_mat.proofs.Rows.{LedBefore, led_zero, led_zeros, led_more, led_all, unit_rows, told_low, row_low, some_width}
use Rattle.tc_mat.proofs.products.multiply.Goals.{then-word-ne0, else-word-ne0}
use Rattle.tc_mat.proofs.products.multiply.Goals as goal
use borrow.Author.Count.{falls}

pub returns-then-is_identity : goal.returns-then-is_identity
returns-then-is_identity c =
    let n = c.args.n in
    let a = c.args.a.now in
    let b = c.args.b.now in
    subst (λ (ws : List ℕ). HasBits n ws (λ x w p. (k : ℕ) × (k < words_a_row n) × Leads n a b k x w p)) (sym c.copy_from_slice.ensures.after) (unit_rows n a b (c.if-is_identity.ensures refl))

pub add_rows-requires-clause-told : goal.add_rows-requires-clause-told
add_rows-requires-clause-told c = λ t bit.
    let at = c.loop-at.at in
    let (below, low) = told_low c.args.n c.args.a.now at c.requires.padded c.loop-at-test.true c.requires.left t bit in
    (below, subst (λ v. 64 * (at % v) + t < c.args.n) (sym c.words_in_row-width.ensures) low)

pub add_rows-requires-clause-by : goal.add_rows-requires-clause-by
add_rows-requires-clause-by c =
    let at = c.loop-at.at in
    let wide = some_width c.args.n at (length c.args.a.now) c.loop-at-test.true c.requires.left in
    omega (arith, mod_below at (words_a_row c.args.n) wide, ap (λ v. at % v) c.words_in_row-width.ensures)

pub loop-at-preserved : goal.loop-at-preserved
loop-at-preserved c =
    let n = c.args.n in
    let a = c.args.a.now in
    let b = c.args.b.now in
    let at = c.loop-at.at in
    let width = c.words_in_row-width.result in
    let P : List ℕ → Type 0 = λ ws. HasBits n ws (LedBefore n a b (at + 1)) in
    elim c.if-word-ne0.branch [
      | then-word-ne0 w ↦ subst P (sym w.out-is) (led_more n a b at width c.loop-at-test.true c.requires.left c.words_in_row-width.ensures c.loop-at.out w.add_rows.new.out c.loop-at.invariant w.add_rows.ensures)
      | else-word-ne0 w ↦ subst P (sym w.out-is) (led_zero n a b at c.loop-at.out w.if-word-ne0.false c.loop-at.invariant)
    ]

pub returns : goal.returns
returns c = led_all c.args.n c.args.a.now c.args.b.now c.loop-at.at c.loop-at.out (omega (arith, c.loop-at-test.false, c.requires.left)) c.loop-at.invariant

pub is_identity-requires : goal.is_identity-requires
is_identity-requires c = record { left = c.requires.left }

pub copy_from_slice-requires : goal.copy_from_slice-requires
copy_from_slice-requires c = c.requires.room ∙ sym c.requires.right

pub bounds-a-at : goal.bounds-a-at
bounds-a-at c = c.loop-at-test.true

pub nonzero_rem-at : goal.nonzero_rem-at
nonzero_rem-at c = subst (λ v. 0 < v) (sym c.words_in_row-width.ensures) (some_width c.args.n c.loop-at.at (length c.args.a.now) c.loop-at-test.true c.requires.left)

pub nonzero_div-at : goal.nonzero_div-at
nonzero_div-at c = subst (λ v. 0 < v) (sym c.words_in_row-width.ensures) (some_width c.args.n c.loop-at.at (length c.args.a.now) c.loop-at-test.true c.requires.left)

pub loop-at-smaller : goal.loop-at-smaller
loop-at-smaller c = falls _ c.loop-at.at c.loop-at-test.true

pub loop-at-init : goal.loop-at-init
loop-at-init c = led_zeros c.args.n c.args.a.now c.args.b.now _ c.fill.new.self (c.fill.ensures.after (λ y e. e))

pub add_rows-requires-clause-target : goal.add_rows-requires-clause-target
add_rows-requires-clause-target c =
    let at = c.loop-at.at in
    record {
      right = c.requires.right;
      room = c.loop-at.auto.out ∙ (c.fill.auto.self ∙ c.requires.room);
      row = omega (arith, row_low c.args.n at (length c.args.a.now) c.loop-at-test.true c.requires.left, ap (λ v. at / v) c.words_in_row-width.ensures);
    }
