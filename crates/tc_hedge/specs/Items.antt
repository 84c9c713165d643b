-- What takes an element, and which automata a hedge may be made of.
use Rattle.std.specs.Prelude.{◌≡◌, ℕ, ◌-◌, List, Bool, true, Some, slice_get}
use Rattle.tc_mat.specs.Matrix.{Matrix}
use Rattle.tc_model.specs.Grammars.{Grammar, ElementPattern, element_at}
use Rattle.tc_model.specs.States.{Side, ref_leaf, IsEdge}
use Rattle.tc_auto.specs.Stands as a
use Rattle.tc_auto.specs.declared.auto.Auto.{Auto}
use Rattle.tc_hedge.specs.Leading.{IsTaken}

-- the automaton is that of some schema
abbrev pub IsOfSomeSchema : Auto → Type 0
IsOfSomeSchema x = (side : Side) × (g : Grammar) × a.Stands side g x

-- an element whose name is in the classes that are told, around what the set inside it says, is taken by an element pattern
abbrev pub IsTakenAround : Grammar → Side → List Bool → Matrix → ℕ → Type 0
IsTakenAround g side allowed inner k = (e : ElementPattern) × (element_at g.elements k ≡ Some e) × (slice_get allowed (k - 1) ≡ Some true) × IsTaken g side inner k e

-- an edge that takes the element leads from one state to another
abbrev pub IsAround : Grammar → Side → List Bool → Matrix → ℕ → ℕ → Type 0
IsAround g side allowed inner i j = (k : ℕ) × IsTakenAround g side allowed inner k × IsEdge g side i (ref_leaf k) j
