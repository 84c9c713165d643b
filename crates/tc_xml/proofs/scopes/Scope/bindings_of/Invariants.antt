use Rattle.std.proofs.Common.{◌≡◌, map}
use Rattle.std.specs.Map.Iter.{deref_pair}
use Rattle.tc_model.specs.Views.{bound}
use Rattle.tc_xml.specs.Bounds.{bounds}
use Rattle.tc_xml.proofs.scopes.Scope.bindings_of.Given as goal

abbrev pub invariant-loop-prefix : goal.invariant-loop-prefix
invariant-loop-prefix l = map bound l.bindings.items ≡ bounds (map deref_pair l.yielded)
