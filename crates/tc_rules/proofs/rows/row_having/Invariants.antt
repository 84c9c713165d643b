use Rattle.std.proofs.Common.{◌≡◌, ◌++◌, drop}
use Rattle.tc_rules.specs.Words as w
use Rattle.tc_model.specs.Views as see
use Rattle.tc_rules.specs.Steps as v
use Rattle.tc_rules.proofs.Writing.{flat}
use Rattle.tc_rules.proofs.rows.row_having.Given as goal

abbrev pub invariant-loop-steps : goal.invariant-loop-steps
invariant-loop-steps l =
    w.IsWritten l.written
    × (flat (v.path_having l.numbered (see.alternatives l.path) l.sought) ≡ w.bits_of l.written ++ flat (v.path_having l.numbered (see.alternatives (drop l.steps-index l.path)) l.sought))
