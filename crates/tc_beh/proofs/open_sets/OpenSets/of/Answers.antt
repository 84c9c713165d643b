use Rattle.std.proofs.Common.{◌∙◌, subst, sym, arith}
use Rattle.tc_beh.specs.Opening.{IsLow}
use Rattle.tc_beh.proofs.open_sets.OpenSets.of.Goals as goal

pub invariant_of-result : goal.invariant_of-result
invariant_of-result c =
    let held = c.in_ok-met.met.held in
    let of = c.in_ok-met.ensures.size in
    let count = c.in_ok-places.ensures.count in (
      omega (arith, count),
      λ k d l. (let (number, size) = c.in_ok-places.ensures.sets k d l in record { low = subst (IsLow held) (sym number) c.nothing-nothing.ensures.low; size = size ∙ (c.size.ensures.size ∙ sym of) }),
      c.in_ok-led.ensures.size ∙ (c.size-2.ensures.size ∙ sym of),
      c.in_ok-room.ensures.size ∙ (c.size-3.ensures.size ∙ sym of),
      c.nothing-nothing.ensures.matrices,
    )
