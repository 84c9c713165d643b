use Rattle.std.proofs.Common.{◌≡◌, ◌++◌, drop}
use Rattle.tc_rules.specs.Words as w
use Rattle.tc_model.specs.Views as see
use Rattle.tc_model.specs.PathStates as p
use Rattle.tc_rules.proofs.Writing.{flat}
use Rattle.tc_rules.proofs.rows.first_row.Given as goal

abbrev pub invariant-loop-steps : goal.invariant-loop-steps
invariant-loop-steps l =
    w.IsWritten l.written
    × (flat (p.first_state (see.alternatives l.path)) ≡ w.bits_of l.written ++ flat (p.first_state (see.alternatives (drop l.steps-index l.path))))
