-- What is in scope, the last that was bound first.
use Rattle.std.specs.Prelude.{List, []}
use Rattle.tc_model.specs.RawTrees.{Bound}
use Rattle.tc_rnc.specs.Bindings.{scope_before}
use Rattle.tc_rnc.specs.declared.scopes.Scope.{Scope}

abbrev pub scope_of : Scope → List Bound
scope_of s = scope_before [] s.bindings.items
