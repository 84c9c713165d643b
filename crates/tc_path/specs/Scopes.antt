-- What is in scope.
use Rattle.std.specs.Prelude.{List, map}
use Rattle.tc_model.specs.RawTrees.{Bound}
use Rattle.tc_model.specs.Views.{bound}
use Rattle.tc_path.specs.declared.scopes.Scope.{Scope}

abbrev pub in_scope : Scope → List Bound
in_scope s = map bound s.bindings.now
