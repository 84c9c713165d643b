use Rattle.std.proofs.Common.{◌≡◌, ◌++◌, drop}
use Rattle.tc_rules.specs.Words as w
use Rattle.tc_model.specs.Views as see
use Rattle.tc_rules.specs.Steps as v
use Rattle.tc_rules.proofs.rows.write_having.Given as goal

abbrev pub invariant-loop-k : goal.invariant-loop-k
invariant-loop-k l =
    w.IsWritten l.written
    × (w.bits_of l.initial.written ++ v.steps_having l.numbered (see.steps l.steps) l.sought ≡ w.bits_of l.written ++ v.steps_having l.numbered (see.steps (drop l.k l.steps)) l.sought)
