use Rattle.std.proofs.Common.{map, drop}
use Rattle.tc_model.specs.Views.{bound}
use Rattle.tc_path.specs.Known.{AreRightBefore}
use Rattle.tc_path.proofs.known.find_all.Given as goal

abbrev pub invariant-loop-binding : goal.invariant-loop-binding
invariant-loop-binding l = AreRightBefore (map bound l.bindings) (map bound (drop l.binding-index l.bindings)) l.known
