use Rattle.std.proofs.Common.{◌≡◌, ◌+◌, ◌*◌, ◌/◌, inl, inr, subst, ap, arith}
use Rattle.tc_mat.specs.Matrix.{words_a_row}
use Rattle.tc_beh.specs.Listing.{LeadsNowhere}
use Rattle.tc_beh.proofs.RowBits.{IsStart, next_in, nowhere_in}
use Rattle.tc_beh.proofs.lists.next_of.Goals.{then-word-first, else-word-first}
use Rattle.tc_beh.proofs.lists.next_of.Goals as goal

pub returns-in-Some-clause-next : goal.returns-in-Some-clause-next
returns-in-Some-clause-next c =
    let m = c.args.set.now in
    let word = c.loop-word.word in
    let first = c.loop-word.auto.word in
    let is : IsStart c.args.start word c.if-word-first.place = elim c.if-word-first.branch [
      | then-word-first w ↦ inl (w.if-word-first.true, w.place-is)
      | else-word-first w ↦ let not : word ≡ c.args.start / 64 → ⊥ = w.if-word-first.false in inr (grind (arith, first, not), w.place-is)
    ] in
    let wide : (c.size.result + 63) / 64 ≡ words_a_row m.size = ap (λ n. (n + 63) / 64) c.size.ensures.size in
    next_in m c.args.from c.requires ((c.size.result + 63) / 64) c.words.result.now c.args.start word c.if-word-first.place wide c.words.ensures.words is c.loop-word.invariant c.in-Some.bit c.size.ensures.matrix
    (omega (arith, wide, c.loop-word-test.true)) c.in-Some.ensures

pub loop-word-preserved : goal.loop-word-preserved
loop-word-preserved c =
    let m = c.args.set.now in
    let word = c.loop-word.word in
    let first = c.loop-word.auto.word in
    let is : IsStart c.args.start word c.if-word-first.place = elim c.if-word-first.branch [
      | then-word-first w ↦ inl (w.if-word-first.true, w.place-is)
      | else-word-first w ↦ let not : word ≡ c.args.start / 64 → ⊥ = w.if-word-first.false in inr (grind (arith, first, not), w.place-is)
    ] in
    let wide : (c.size.result + 63) / 64 ≡ words_a_row m.size = ap (λ n. (n + 63) / 64) c.size.ensures.size in
    let end : 64 * word + 64 ≡ 64 * (word + 1) = omega arith in
    subst (LeadsNowhere m c.args.from c.args.start) end
    (nowhere_in m c.args.from c.requires ((c.size.result + 63) / 64) c.words.result.now c.args.start word c.if-word-first.place wide c.words.ensures.words is c.loop-word.invariant 64 (omega arith) c.in_default.ensures)
