use Rattle.std.proofs.Common.{◌≡◌, ◌<◌, ◌∙◌, ◌+◌, ap, subst, sym, bit_or, refl, true, false, arith}
use Rattle.tc_beh.proofs.Bundling.{AreFirstBits, no_bits, with_bit, without_bit}
use Rattle.tc_beh.proofs.bundles.word_of.Goals.{then-is_set, else-is_set}
use Rattle.tc_beh.proofs.bundles.word_of.Goals as goal

pub loop-place-init : goal.loop-place-init
loop-place-init c = no_bits c.args.flags.now c.args.word

pub loop-place-preserved : goal.loop-place-preserved
loop-place-preserved c =
    let flags = c.args.flags.now in
    let word = c.args.word in
    let n = c.loop-place.place in
    let old = c.loop-place.bits in
    elim c.if-is_set.branch [
      | then-is_set w ↦ with_bit flags word n old c.if-is_set.bits (w.if-is_set.ensures.0 refl) (w.bits-is ∙ ap (bit_or old) w.bit_of-bits.ensures) c.loop-place.invariant
      | else-is_set w ↦ subst (AreFirstBits flags word (n + 1)) (sym w.bits-is) (without_bit flags word n old (λ h. let f : false ≡ true = w.if-is_set.ensures.1 h in absurd (cc)) c.loop-place.invariant)
    ]

pub returns : goal.returns
returns c = λ p low.
    let past = c.loop-place-test.false in
    (λ h. ((c.loop-place.invariant p).0 h).1, λ h. (c.loop-place.invariant p).1 (omega (arith, past, low), h))
