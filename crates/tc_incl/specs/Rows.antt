-- Cover rows: all that can matter of a tree and of a list of trees for two schemas.
-- They are states of a product of determinised automata.
use Rattle.std.specs.Prelude.{◌≡◌, ◌<◌, ◌≤◌, ◌↔◌, ℕ, List, length, Bool, All}
use Rattle.std.specs.List.{Contains}
use Rattle.std.specs.List.Sorted.{IsStrictlySortedBy}
use Rattle.std.specs.Ordering.{nat_cmp}
use Rattle.tc_model.specs.Trees.{Trees}
use Rattle.tc_model.specs.Chains.{Tree, an_element, a_text}
use Rattle.tc_model.specs.TreesApart.{is_text, ends_in_text}
use Rattle.tc_model.specs.Grammars.{Grammar}
use Rattle.tc_model.specs.States.{input, state_count, first_state, IsElementOf, Leads}
use Rattle.tc_incl.specs.Schemas.{Schemas}

-- of a list of trees
pub record HedgeRow : Type 0 where
  -- the last tree is a text
  pub ends : Bool
  -- the states of each schema to which it leads from the first state of their content
  pub first : List ℕ
  pub second : List ℕ

-- of a tree
pub record TreeRow : Type 0 where
  pub is_text : Bool
  -- the element patterns of each schema that it matches
  pub first : List ℕ
  pub second : List ℕ

module _ (g : Grammar) where
  -- lists ascend strictly, and hold numbers of the schema alone
  pub record AreStates (states : List ℕ) : Type 0 where
    pub ascend : IsStrictlySortedBy nat_cmp states
    pub within : All (λ j. j < state_count g input) states

  pub record ArePatterns (patterns : List ℕ) : Type 0 where
    pub ascend : IsStrictlySortedBy nat_cmp patterns
    pub within : All (λ k. (1 ≤ k) × (k ≤ length g.elements)) patterns

  -- a content's first state is led to the state
  abbrev pub IsLedTo : Trees → ℕ → Type 0
  IsLedTo h j = (k : ℕ) × (1 ≤ k) × (k ≤ length g.elements) × Leads g input (first_state g input k) h j

  -- the element patterns of an element; a text has none
  abbrev pub IsPatternOf : Tree → ℕ → Type 0
  IsPatternOf (an_element n kids) k = IsElementOf g.elements k n kids
  IsPatternOf (a_text s) k = ⊥

  abbrev pub AreStatesOf : Trees → List ℕ → Type 0
  AreStatesOf h states = (j : ℕ) → Contains states j ↔ IsLedTo h j

  abbrev pub ArePatternsOf : Tree → List ℕ → Type 0
  ArePatternsOf t patterns = (k : ℕ) → Contains patterns k ↔ IsPatternOf t k

module _ (x : Schemas) where
  pub record IsHedgeRow (r : HedgeRow) : Type 0 where
    pub first : AreStates x.first r.first
    pub second : AreStates x.second r.second

  pub record IsTreeRow (r : TreeRow) : Type 0 where
    pub first : ArePatterns x.first r.first
    pub second : ArePatterns x.second r.second

  pub record IsRowOfHedge (h : Trees) (r : HedgeRow) : Type 0 where
    pub row : IsHedgeRow r
    pub ends : r.ends ≡ ends_in_text h
    pub first : AreStatesOf x.first h r.first
    pub second : AreStatesOf x.second h r.second

  pub record IsRowOfTree (t : Tree) (r : TreeRow) : Type 0 where
    pub row : IsTreeRow r
    pub is_text : r.is_text ≡ is_text t
    pub first : ArePatternsOf x.first t r.first
    pub second : ArePatternsOf x.second t r.second
