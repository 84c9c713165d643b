use Rattle.std.proofs.Common.{suc}
use Rattle.tc_model.specs.Views as see
use Rattle.tc_auto.specs.Stands.{Built, side_of}
use Rattle.tc_auto.proofs.make.built.Given as goal

abbrev pub invariant-loop-element : goal.invariant-loop-element
invariant-loop-element l = Built (see.grammar l.grammar) (side_of l.with_start) (suc l.element-index) l.firsts.items l.rows.items
