-- The rows of one part among those of a schema.
use Rattle.std.specs.Prelude.{◌≡◌, ◌<◌, ◌↔◌, ℕ, ◌+◌, List, length, IsTrue, Some, slice_get}
use Rattle.std.specs.List.{Contains}
use Rattle.tc_model.specs.States as s
use Rattle.tc_model.specs.States.{Automaton}
use Rattle.tc_auto.specs.Steps.{leaf, edges_from}
use Rattle.tc_auto.specs.declared.auto.Edge.{Edge}
use Rattle.tc_auto.specs.declared.nfa.Nfa.{Nfa}
use Rattle.tc_auto.specs.declared.rows.Row.{Row}

-- the row of a state of a part whose first state has the number base
pub record IsRowOf (part : Nfa) (base i : ℕ) (row : Row) : Type 0 where
  pub edges : row.edges.items ≡ edges_from base i part.steps.items
  pub accepting : IsTrue row.accepting ↔ Contains part.accepting.items i

-- the first rows of a part
pub record AreRowsOf (part : Nfa) (base count : ℕ) (rows : List Row) : Type 0 where
  pub counted : length rows ≡ count
  pub row : (i : ℕ) (r : Row) → slice_get rows i ≡ Some r → IsRowOf part base i r

-- the rows of an automaton whose first state has the number base
pub record AreRowsFor (a : Automaton) (base : ℕ) (rows : List Row) : Type 0 where
  pub counted : length rows ≡ a.count
  pub edge : (i : ℕ) (r : Row) → slice_get rows i ≡ Some r → (e : Edge) → Contains r.edges.items e ↔ ((y : ℕ) × (e.to ≡ base + y) × a.edge i (leaf e.leaf) y)
  pub accepting : (i : ℕ) (r : Row) → slice_get rows i ≡ Some r → IsTrue r.accepting ↔ a.accepting i
