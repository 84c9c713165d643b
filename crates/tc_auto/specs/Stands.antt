-- What an automaton holds of a schema.
use Rattle.std.specs.Prelude.{◌≡◌, ◌<◌, ◌↔◌, ℕ, suc, ◌+◌, List, map, length, Bool, true, false, IsTrue, Some, slice_get, slice_index}
use Rattle.std.specs.List.{Contains}
use Rattle.tc_model.specs.Trees.{Trees}
use Rattle.tc_model.specs.Grammars.{Grammar, Pattern}
use Rattle.tc_model.specs.Matching.{Matches}
use Rattle.tc_model.specs.Views as see
use Rattle.tc_model.specs.States as s
use Rattle.tc_model.specs.States.{Automaton, Side, input, output, IsPart, first_state, IsEdge, IsAccepting, IsAccepted}
use Rattle.tc_auto.specs.Steps.{leaf}
use Rattle.tc_auto.specs.Arrows.{AreArrows}
use Rattle.tc_auto.specs.declared.auto.Edge.{Edge}
use Rattle.tc_auto.specs.declared.rows.Row.{Row}
use Rattle.tc_auto.specs.declared.auto.Auto.{Auto}

-- the side of a schema whose start's states are numbered too, or not
abbrev pub side_of : Bool → Side
side_of true = output
side_of false = input

-- how many states an automaton has, and how many element patterns its schema
abbrev pub states : Auto → ℕ
states a = length a.rows.items

abbrev pub patterns : Auto → ℕ
patterns a = length a.elements.now

-- the edges of a state, and whether it accepts
pub record IsRow (g : Grammar) (side : Side) (i : ℕ) (row : Row) : Type 0 where
  pub edge : (e : Edge) → Contains row.edges.items e ↔ IsEdge g side i (leaf e.leaf) e.to
  pub accepting : IsTrue row.accepting ↔ IsAccepting g side i

-- the first state of each of the first parts, and a row for each of their states
pub record Built (g : Grammar) (side : Side) (parts : ℕ) (firsts : List ℕ) (rows : List Row) : Type 0 where
  pub begun : length firsts ≡ parts
  pub first : (k : ℕ) → k < parts → slice_index firsts k ≡ first_state g side k
  pub counted : length rows ≡ first_state g side parts
  pub row : (i : ℕ) (r : Row) → slice_get rows i ≡ Some r → IsRow g side i r

-- the automaton is that of this side of the schema; its edges are told by their states and by what they take
pub record Stands (side : Side) (g : Grammar) (a : Auto) : Type 0 where
  pub start : see.pattern a.start ≡ g.start
  pub elements : map see.element_pattern a.elements.now ≡ g.elements
  pub built : Built g side (suc (length g.elements)) a.firsts.items a.rows.items
  pub arrows : AreArrows a.rows.items a.arrows.items

-- a run from the first state of a part to an accepting one exists exactly where the trees match the part
abbrev pub RunsExactly : Grammar → Side → Type 0
RunsExactly g side = (k : ℕ) (q : Pattern) (h : Trees) → IsPart g side k q → IsAccepted g side k h ↔ Matches g.elements h q
