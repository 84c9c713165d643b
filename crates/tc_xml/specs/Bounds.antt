-- Prefixes with the namespace names to which they are bound.
use Rattle.std.specs.Prelude.{ℕ, List, map}
use Rattle.std.specs.Borrow.{Bor}
use Rattle.indexmap.specs.IndexMap.{IndexMap}
use Rattle.tc_model.specs.RawTrees.{Bound}

abbrev pub bound_to : List ℕ → List ℕ → Bound
bound_to prefix uri = record { prefix = prefix; uri = uri }

abbrev pub bounds : List (Bor (List ℕ) × Bor (List ℕ)) → List Bound
bounds es = map (λ e. bound_to e.0.now e.1.now) es

-- the bindings of a map from prefixes to namespace names
abbrev pub named : {S : Type 0} → IndexMap (Bor (List ℕ)) (Bor (List ℕ)) S → List Bound
named m = bounds m.entries
