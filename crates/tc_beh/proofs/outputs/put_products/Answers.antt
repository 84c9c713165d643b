use Rattle.std.proofs.Common.{◌≡◌, ◌<◌, inl, inr, ◌+◌, ◌∙◌, ℕ, sym, get_or, subst, arith, length}
use Rattle.tc_mat.specs.Held.{Held}
use Rattle.tc_beh.specs.Rooms.{output_at}
use Rattle.tc_beh.specs.Held.{set_at, IsNew, AreProducts}
use Rattle.tc_beh.proofs.Holding.{extends_count, grows_step, on_err, new_before, pairs_step, products_found}
use Rattle.tc_beh.proofs.Passing.{if_some_map}
use Rattle.tc_beh.proofs.Remembering.{nothing_on}
use Rattle.tc_beh.proofs.Steps.{not_done}
use Rattle.tc_beh.proofs.Refusing.{no_error, refuse_err, refuse_then}
use Rattle.tc_beh.proofs.outputs.put_products.Goals as goal

pub returns-in_err-number-clause-err : goal.returns-in_err-number-clause-err
returns-in_err-number-clause-err c =
    let old = c.args.outputs.now in
    let mid = c.loop-place.outputs in
    let i = c.loop-place.place in
    let here : i < length c.args.first.now = let t = c.loop-place-test.true in let n = c.requires.first_count in omega (arith, t, n) in
    let there : i < length c.args.second.now = let n = c.requires.second_count in let m = c.requires.first_count in omega (arith, here, n, m) in
    let a = get_or c.args.first.now i 0 in
    let b = get_or c.args.second.now i 0 in
    let err = c.in_err-number.ensures.err in
    let is : IsNew mid (set_at old a) (set_at old b) = new_before old mid c.loop-place.invariant.grows.held a b (c.requires.first i here) (c.requires.second i there) err.1 in
    on_err c.from_residual.result _ (i, c.loop-place-test.true, subst (λ (h : Held). IsNew h (set_at old a) (set_at old b)) (sym err.0) is)

pub returns-in_err-number-clause-partly : goal.returns-in_err-number-clause-partly
returns-in_err-number-clause-partly c =
    let old = c.args.outputs.now in
    let mid = c.loop-place.outputs in
    let i = c.loop-place.place in
    let first : ℕ → ℕ = λ n. get_or c.args.first.now n 0 in
    let second : ℕ → ℕ = λ n. get_or c.args.second.now n 0 in
    let low = c.loop-place-test.true in
    let so_far = c.loop-place.invariant in
    let here : AreProducts old mid first second c.args.out.now.entries =
    products_found old mid (output_at c.args.out.now.flags c.loop-place.out.numbers.items) first second i c.args.out.now.entries (omega (arith, low)) so_far.grows so_far.pairs
    in
    on_err c.from_residual.result _ (subst (λ (h : Held). AreProducts old h first second c.args.out.now.entries) (sym c.in_err-number.ensures.err.0) here)

pub loop-place-preserved : goal.loop-place-preserved
loop-place-preserved c =
    let old = c.args.outputs.now in
    let mid = c.loop-place.outputs in
    let new = c.keep_product.new.outputs in
    let i = c.loop-place.place in
    let k = c.in_ok-number.number in
    let before = output_at c.args.out.now.flags c.loop-place.out.numbers.items in
    let after = output_at c.args.out.now.flags c.set_output.new.self.numbers.items in
    let so_far = c.loop-place.invariant in
    let now = c.in_ok-number.ensures in
    let put = c.set_output.ensures in
    let flags = so_far.beside.flags in
    let low = c.loop-place-test.true in
    let first_low : i < length c.args.first.now = let n = c.requires.first_count in omega (arith, low, n) in
    let second_low : i < length c.args.second.now = let n = c.requires.second_count in omega (arith, low, n) in
    let a = get_or c.args.first.now i 0 in
    let b = get_or c.args.second.now i 0 in
    let stays : (p : ℕ) → p < i → after p ≡ before p = λ p l. put.others (2 + c.args.out.now.flags + p) (λ e. absurd (omega (arith, e, l, flags))) in
    let here : after i ≡ k = subst (λ n. get_or c.set_output.new.self.numbers.items (2 + n + i) 0 ≡ k) flags put.output in
    record {
      set = now.set ∙ so_far.set;
      beside = record { flags = put.beside.flags ∙ flags; entries = put.beside.entries ∙ so_far.beside.entries; count = put.beside.count ∙ so_far.beside.count };
      others = λ n h. put.others n (λ e. elim h [ inl l ↦ absurd (omega (arith, e, l, flags)) | inr l ↦ absurd (omega (arith, e, l, flags, low)) ]) ∙ so_far.others n h;
      grows = grows_step old mid new before after i k so_far.grows stays here now.held now.pairs.0 now.grows;
      pairs = pairs_step old mid new before after i k (λ n. get_or c.args.first.now n 0) (λ n. get_or c.args.second.now n 0) so_far.grows stays here now.held (c.requires.first i first_low) (c.requires.second i second_low) now.pairs.1 so_far.pairs;
      fixed = λ e. now.refusals.fixed e ∙ so_far.fixed e;
    }

pub keep_product-requires-clause-first : goal.keep_product-requires-clause-first
keep_product-requires-clause-first c =
    let here : c.loop-place.place < length c.args.first.now = let t = c.loop-place-test.true in let n = c.requires.first_count in omega (arith, t, n) in
    let low = c.requires.first c.loop-place.place here in
    let more = extends_count c.args.outputs.now c.loop-place.outputs c.loop-place.invariant.grows.held in
    omega (arith, low, more)

pub keep_product-requires-clause-second : goal.keep_product-requires-clause-second
keep_product-requires-clause-second c =
    let here : c.loop-place.place < length c.args.second.now = let t = c.loop-place-test.true in let n = c.requires.second_count in omega (arith, t, n) in
    let low = c.requires.second c.loop-place.place here in
    let more = extends_count c.args.outputs.now c.loop-place.outputs c.loop-place.invariant.grows.held in
    omega (arith, low, more)

pub keep_product-requires-clause-nothing : goal.keep_product-requires-clause-nothing
keep_product-requires-clause-nothing c =
    let old = c.args.outputs.now in
    let mid = c.loop-place.outputs in
    if_some_map c.nothing-nothing.result _ _ (λ k is. nothing_on old mid c.loop-place.invariant.grows.held k is) c.nothing-nothing.ensures

pub keep_product-requires-clause-set : goal.keep_product-requires-clause-set
keep_product-requires-clause-set c = c.loop-place.invariant.set ∙ (c.requires.set ∙ sym c.loop-place.invariant.grows.held.size)

pub returns-in_err-number-clause-grows : goal.returns-in_err-number-clause-grows
returns-in_err-number-clause-grows c = not_done c.from_residual.result _ _ c.from_residual.ensures.1

pub returns-in_err-number-clause-pairs : goal.returns-in_err-number-clause-pairs
returns-in_err-number-clause-pairs c = not_done c.from_residual.result _ _ c.from_residual.ensures.1

pub returns-clause-partly : goal.returns-clause-partly
returns-clause-partly c = tt

pub returns-clause-err : goal.returns-clause-err
returns-clause-err c = tt

pub returns-clause-refusals : goal.returns-clause-refusals
returns-clause-refusals c = record { fixed = c.loop-place.invariant.fixed; full = λ e. no_error _ _ e; fresh = λ e. no_error _ _ e; memory = λ e. no_error _ _ e }

pub returns-in_err-number-clause-refusals : goal.returns-in_err-number-clause-refusals
returns-in_err-number-clause-refusals c =
    refuse_then c.args.is_fixed c.args.outputs.now c.loop-place.outputs c.keep_product.new.outputs c.from_residual.result c.loop-place.invariant.fixed
    (refuse_err c.args.is_fixed c.loop-place.outputs c.keep_product.new.outputs c.from_residual.result c.keep_product.result _ c.from_residual.ensures.1 c.in_err-number.was c.keep_product.ensures.refusals)
