use Rattle.std.proofs.Common.{◌≡◌, ◌++◌, drop}
use Rattle.tc_rules.specs.Words as w
use Rattle.tc_model.specs.Views as see
use Rattle.tc_model.specs.PathStates as p
use Rattle.tc_rules.specs.Steps as v
use Rattle.tc_rules.proofs.rows.write_first.Given as goal

abbrev pub invariant-loop-step : goal.invariant-loop-step
invariant-loop-step l =
    w.IsWritten l.written
    × (w.bits_of l.initial.written ++ p.first_items (see.steps l.steps) ≡ w.bits_of l.written ++ v.items_left l.first (see.steps (drop l._step-index l.steps)))
