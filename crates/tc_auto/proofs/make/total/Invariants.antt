use Rattle.std.proofs.Common.{◌≡◌, suc, min}
use Rattle.tc_model.specs.Views as see
use Rattle.tc_model.specs.States.{first_state}
use Rattle.tc_auto.specs.Stands.{side_of}
use Rattle.tc_auto.proofs.make.total.Given as goal

abbrev pub invariant-loop-element : goal.invariant-loop-element
invariant-loop-element l = l.total ≡ min (first_state (see.grammar l.grammar) (side_of l.with_start) (suc l.element-index)) 18446744073709551615
