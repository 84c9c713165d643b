-- What trees lead from one state to another, as the sets of pairs of matrices; and what is proved of it.
use Rattle.std.specs.Prelude.{◌≡◌, ◌<◌, ◌↔◌, ℕ, ◌+◌, Some}
use Rattle.tc_mat.specs.Matrix.{Matrix, HasPair, IsComposition}
use Rattle.tc_model.specs.Names.{ExpandedName}
use Rattle.tc_model.specs.Trees.{Trees, none, element, beside, normal_form}
use Rattle.tc_model.specs.Grammars.{Grammar, Pattern, ElementPattern, element_at, InClass}
use Rattle.tc_model.specs.Matching.{Matches}
use Rattle.tc_model.specs.Validity.{IsValidOutput}
use Rattle.tc_model.specs.States.{Side, output, text_leaf, ref_leaf, automaton, IsPart, first_state, state_count, IsEdge, Leads}

-- exactly the pairs of states that trees lead from the one to the other
abbrev pub ArePairsOf : Grammar → Side → Trees → Matrix → Type 0
ArePairsOf g side h m = (i j : ℕ) → HasPair m i j ↔ ((i < state_count g side) × Leads g side i h j)

-- exactly the pairs of a text that isn't white space alone
abbrev pub ArePairsOfText : Grammar → Side → Matrix → Type 0
ArePairsOfText g side m = (i j : ℕ) → HasPair m i j ↔ IsEdge g side i text_leaf j

-- a set of pairs leads the first state of a content to an accepting state of that content
abbrev pub IsTaken : Grammar → Side → Matrix → ℕ → ElementPattern → Type 0
IsTaken g side inner k e = (y : ℕ) × HasPair inner (first_state g side k) (first_state g side k + y) × (automaton e.content).accepting y

-- exactly the pairs of an element of this name around what the set inside it says
abbrev pub ArePairsAround : Grammar → Side → ExpandedName → Matrix → Matrix → Type 0
ArePairsAround g side n inner m =
    (i j : ℕ) → HasPair m i j
    ↔ ((k : ℕ) × (e : ElementPattern) × (element_at g.elements k ≡ Some e) × InClass e.names n × IsTaken g side inner k e × IsEdge g side i (ref_leaf k) j)

-- trees lead the first state of a part to an accepting one exactly where their normal form matches the part: texts side by side and texts of white space alone change nothing
abbrev pub LeadsExactly : Type 0
LeadsExactly =
    (g : Grammar) (side : Side) (k : ℕ) (q : Pattern) (h : Trees) → IsPart g side k q
    → Matches g.elements (normal_form h) q ↔ ((y : ℕ) × Leads g side (first_state g side k) h (first_state g side k + y) × (automaton q).accepting y)

-- trees are valid for an output schema exactly where they lead its state 0 to an accepting state of its start
abbrev pub OutputsLeadExactly : Type 0
OutputsLeadExactly = (g : Grammar) (h : Trees) → IsValidOutput g h ↔ ((y : ℕ) × Leads g output 0 h y × (automaton g.start).accepting y)

-- the pairs of trees side by side are the composition of the pairs of both
abbrev pub PairsCompose : Type 0
PairsCompose =
    (g : Grammar) (side : Side) (h k : Trees) (a b m : Matrix)
    → ArePairsOf g side h a → ArePairsOf g side k b → IsComposition a b m → ArePairsOf g side (beside h k) m

-- the pairs of an element are those around the pairs of its children
abbrev pub PairsSurround : Type 0
PairsSurround =
    (g : Grammar) (side : Side) (n : ExpandedName) (c : Trees) (inner m : Matrix)
    → ArePairsOf g side c inner → ArePairsAround g side n inner m → ArePairsOf g side (element n c none) m
