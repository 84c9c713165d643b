use Rattle.std.proofs.Common.{◌∙◌}
use Rattle.tc_beh.proofs.Lining.{places_with, places_without}
use Rattle.tc_beh.proofs.lines.places_of.Goals.{then-flags-place-eq1+in_ok-push_number, else-flags-place-eq1}
use Rattle.tc_beh.proofs.Steps.{no_value}
use Rattle.tc_beh.proofs.lines.places_of.Goals as goal

pub loop-place-preserved : goal.loop-place-preserved
loop-place-preserved c =
    let n = c.loop-place.place in
    elim c.if-flags-place-eq1.branch [
      | then-flags-place-eq1+in_ok-push_number w ↦
          places_with c.args.first n c.args.flags.now c.loop-place.list c.if-flags-place-eq1.list c.loop-place-test.true w.if-flags-place-eq1.true c.loop-place.invariant (w.list-is ∙ w.in_ok-push_number.ensures)
      | else-flags-place-eq1 w ↦ w.list-is ∙ places_without c.args.first n c.args.flags.now c.loop-place.list c.loop-place-test.true w.if-flags-place-eq1.false c.loop-place.invariant
    ]

pub returns-in_err-push_number : goal.returns-in_err-push_number
returns-in_err-push_number c = no_value c.from_residual.result _ _ c.from_residual.ensures.1
