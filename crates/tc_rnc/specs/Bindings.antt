-- Bindings of prefixes as what is in scope.
use Rattle.std.specs.Borrow.{Bor}
use Rattle.std.specs.BTreeMap.{BTreeMap, get_by}
use Rattle.std.specs.Cmp.Lexicographic.{slice_cmp}
use Rattle.std.specs.Ordering.{nat_cmp}
use Rattle.std.specs.Prelude.{ℕ, List, [], ◌∷◌, Option}
use Rattle.tc_model.specs.RawTrees.{Bound}
use Rattle.tc_model.specs.Views.{bound}
use Rattle.tc_model.specs.declared.tree.Binding.{Binding}

-- the bindings, the last first, before what was in scope
abbrev pub scope_before : List Bound → List Binding → List Bound
scope_before scope [] = scope
scope_before scope (b ∷ bs) = scope_before (bound b ∷ scope) bs

-- the namespace name of a prefix
abbrev pub uri_in : BTreeMap (Bor (List ℕ)) (Bor (List ℕ)) → List ℕ → Option (Bor (List ℕ))
uri_in uris prefix = get_by (λ k. slice_cmp nat_cmp prefix k.now) uris
