-- Row arithmetic: the rows of no tree, of a text, of trees with one more behind them, and of an element around trees, worked out from rows alone, also from rows of no tree.
use Rattle.std.specs.Prelude.{◌≡◌, ◌≤◌, ◌↔◌, ◌⊎◌, ◌+◌, ℕ, List, [], length, Bool, true, false, ◌&&◌, Some, IsTrue}
use Rattle.std.specs.List.{Contains, list_any}
use Rattle.tc_model.specs.Grammars.{Grammar, ElementPattern, element_at, InClass, some_content_has_text}
use Rattle.tc_model.specs.States.{input, text_leaf, ref_leaf, automaton, first_state, IsEdge, is_alternative}
use Rattle.tc_model.specs.Symbols.{Mention, fresh_name}
use Rattle.tc_incl.specs.Schemas.{Schemas}
use Rattle.tc_incl.specs.Rows.{HedgeRow, TreeRow, IsHedgeRow, IsTreeRow}

module _ (g : Grammar) where
  -- a tree leads a state to another: a text by text alone, an element by the patterns that it matches
  abbrev pub TreeLeads : Bool → List ℕ → ℕ → ℕ → Type 0
  TreeLeads is_text patterns i j =
      ((is_text ≡ true) × IsEdge g input i text_leaf j) ⊎ ((is_text ≡ false) × ((k : ℕ) × Contains patterns k × IsEdge g input i (ref_leaf k) j))

  -- the first states of the contents
  abbrev pub AreBegun : List ℕ → Type 0
  AreBegun states = (j : ℕ) → Contains states j ↔ ((k : ℕ) × (1 ≤ k) × (k ≤ length g.elements) × (j ≡ first_state g input k))

  -- the states to which a tree leads from states
  abbrev pub AreNext : List ℕ → Bool → List ℕ → List ℕ → Type 0
  AreNext states is_text patterns next = (j : ℕ) → Contains next j ↔ ((i : ℕ) × Contains states i × TreeLeads is_text patterns i j)

  module _ (symbols : List Mention) where
    -- the class of an element pattern holds the symbol, and its content accepts
    abbrev pub IsPatternAround : ℕ → List ℕ → ℕ → Type 0
    IsPatternAround a states k =
        (e : ElementPattern) × (element_at g.elements k ≡ Some e) × InClass e.names (fresh_name symbols a)
        × ((y : ℕ) × Contains states (first_state g input k + y) × (automaton e.content).accepting y)

    abbrev pub AreAround : ℕ → List ℕ → List ℕ → Type 0
    AreAround a states patterns = (k : ℕ) → Contains patterns k ↔ IsPatternAround a states k

  -- one of the element patterns is an alternative of the start
  abbrev pub is_start : List ℕ → Bool
  is_start patterns = list_any (λ k. is_alternative k g.start) patterns

module _ (x : Schemas) where
  -- no tree
  pub record IsEmptyRow (u : HedgeRow) : Type 0 where
    pub row : IsHedgeRow x u
    pub ends : u.ends ≡ false
    pub first : AreBegun x.first u.first
    pub second : AreBegun x.second u.second

  -- a text that isn't white space alone
  pub record IsTextRow (u : TreeRow) : Type 0 where
    pub row : IsTreeRow x u
    pub is_text : u.is_text ≡ true
    pub first : u.first ≡ []
    pub second : u.second ≡ []

  abbrev pub IsTextLive : Type 0
  IsTextLive = some_content_has_text x.first.elements ≡ true

  -- trees with one more behind them
  pub record IsAppend (h : HedgeRow) (t : TreeRow) (u : HedgeRow) : Type 0 where
    pub row : IsHedgeRow x u
    pub ends : u.ends ≡ t.is_text
    pub first : AreNext x.first h.first t.is_text t.first u.first
    pub second : AreNext x.second h.second t.is_text t.second u.second

  -- no two texts stand side by side, and there is a state of the first schema
  abbrev pub IsLiveAppend : HedgeRow → TreeRow → Type 0
  IsLiveAppend h t = ((h.ends && t.is_text) ≡ false) × ((i : ℕ) × (j : ℕ) × Contains h.first i × TreeLeads x.first t.is_text t.first i j)

  -- an element of a symbol around trees
  pub record IsWrap (a : ℕ) (h : HedgeRow) (u : TreeRow) : Type 0 where
    pub row : IsTreeRow x u
    pub is_text : u.is_text ≡ false
    pub first : AreAround x.first x.symbols a h.first u.first
    pub second : AreAround x.second x.symbols a h.second u.second

  -- it matches an element pattern of the first schema
  abbrev pub IsLiveWrap : ℕ → HedgeRow → Type 0
  IsLiveWrap a h = (k : ℕ) × IsPatternAround x.first x.symbols a h.first k

  -- the row of a document that is valid for the first schema and not for the second
  abbrev pub IsFailing : TreeRow → Type 0
  IsFailing t = IsTrue (is_start x.first t.first) × (is_start x.second t.second ≡ false)
