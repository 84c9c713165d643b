use Rattle.std.proofs.Common.{◌≡◌, ◌+◌, ◌*◌, ℕ, subst, sym, get_or, set, bit_or, arith}
use Rattle.tc_mat.specs.Matrix.{words_a_row}
use Rattle.tc_mat.proofs.Rows.{IsAddedUpTo, added_more, added_whole}
use Rattle.tc_mat.proofs.products.add_row.Goals as goal

pub loop-word-preserved : goal.loop-word-preserved
loop-word-preserved c =
    let out = c.loop-word.out in
    let k = c.loop-word.word in
    let width = c.words_in_row-width.ensures in
    let P : ℕ → Type 0 = λ w. IsAddedUpTo c.args.n c.args.b.now c.args.from c.args.row (k + 1) c.args.out.now
    (set out (c.args.row * w + k) (bit_or (get_or out (c.args.row * w + k) 0) (get_or c.args.b.now (c.args.from * w + k) 0))) in (
      width,
      subst P (sym width)
          (added_more c.args.n c.args.b.now c.args.from c.args.row c.args.out.now out c.requires.target.row k c.loop-word.invariant.1 (omega (arith, c.requires.target.room)) (omega arith)),
    )

pub returns : goal.returns
returns c =
    let P : ℕ → Type 0 = λ k. IsAddedUpTo c.args.n c.args.b.now c.args.from c.args.row k c.args.out.now c.loop-word.out in
    let end : c.loop-word.word ≡ words_a_row c.args.n = omega (arith, c.words_in_row-width.ensures) in
    added_whole c.args.n c.args.b.now c.args.from c.args.row c.args.out.now c.loop-word.out c.requires.target.row (subst P end c.loop-word.invariant.1)
