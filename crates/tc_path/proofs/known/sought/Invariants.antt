use Rattle.std.proofs.Common.{List}
use Rattle.tc_model.specs.RawTrees.{Bound}
use Rattle.tc_path.specs.Known.{AreRightBefore}
use Rattle.tc_path.proofs.known.sought.Given as goal

abbrev pub invariant-loop-token : goal.invariant-loop-token
invariant-loop-token l = (scope : List Bound) → AreRightBefore scope scope l.known
