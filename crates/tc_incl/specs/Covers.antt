-- Rows that are held by their numbers, over schemas, and what is made of them.
use Rattle.std.specs.Prelude.{◌≡◌, ◌<◌, ℕ, List, [], length, get_or, map, false, All}
use Rattle.tc_auto.specs.Stands as a
use Rattle.tc_auto.specs.declared.auto.Auto.{Auto}
use Rattle.tc_model.specs.States.{input}
use Rattle.tc_model.specs.Symbols.{Mention, symbol_count}
use Rattle.tc_rows.specs.Counts.{AreDifferent}
use Rattle.tc_settle.specs.Held.{Held}
use Rattle.tc_incl.specs.declared.rows.Row.{Row}
use Rattle.tc_incl.specs.declared.both.Both.{Both}
use Rattle.tc_incl.specs.Schemas.{Schemas, AreSchemas}
use Rattle.tc_incl.specs.Rows.{HedgeRow, TreeRow}
use Rattle.tc_incl.specs.Arithmetic.{IsEmptyRow, IsTextRow, IsTextLive, IsAppend, IsLiveAppend, IsWrap, IsLiveWrap, IsFailing}
use Rattle.tc_incl.specs.Held.{hedge_row, tree_row, AreTold, IsHedgeFit, IsTreeFit}

-- the automata of the contents of two schemas, and their symbols
pub record AreOf (one other : Auto) (mentions : List Mention) (x : Schemas) : Type 0 where
  pub are : AreSchemas x
  pub first : a.Stands input x.first one
  pub second : a.Stands input x.second other
  pub symbols : mentions ≡ x.symbols

pub record State : Type 0 where
  -- how many symbols there are
  pub symbols : ℕ
  pub hedges : List HedgeRow
  pub trees : List TreeRow

abbrev pub no_hedge : HedgeRow
no_hedge = record { ends = false; first = []; second = [] }

abbrev pub no_tree : TreeRow
no_tree = record { is_text = false; first = []; second = [] }

abbrev pub hedge_at : State → ℕ → HedgeRow
hedge_at s u = get_or s.hedges u no_hedge

abbrev pub tree_at : State → ℕ → TreeRow
tree_at s u = get_or s.trees u no_tree

-- what holds for each of these schemas
abbrev pub Each : (Schemas → Type 0) → (Schemas → Type 0) → Type 0
Each IsOf P = (x : Schemas) → IsOf x → P x

module _ (IsOf : Schemas → Type 0) (s : State) where
  -- what is made of which
  abbrev pub held_of : Held
  held_of = record {
    trees = length s.trees;
    hedges = length s.hedges;
    symbols = s.symbols;
    is_none = λ u. Each IsOf (λ x. IsEmptyRow x (hedge_at s u));
    is_text = λ u. Each IsOf (λ x. IsTextLive x × IsTextRow x (tree_at s u));
    no_text = Each IsOf (λ x. ¬ IsTextLive x);
    is_append = λ h t u. Each IsOf (λ x. IsLiveAppend x (hedge_at s h) (tree_at s t) × IsAppend x (hedge_at s h) (tree_at s t) (hedge_at s u));
    no_append = λ h t. Each IsOf (λ x. ¬ IsLiveAppend x (hedge_at s h) (tree_at s t));
    is_wrap = λ a h u. Each IsOf (λ x. IsLiveWrap x a (hedge_at s h) × IsWrap x a (hedge_at s h) (tree_at s u));
    no_wrap = λ a h. Each IsOf (λ x. ¬ IsLiveWrap x a (hedge_at s h));
    fails = λ t. Each IsOf (λ x. IsFailing x (tree_at s t));
    passes = λ t. Each IsOf (λ x. ¬ IsFailing x (tree_at s t));
  }

  -- there are such schemas, and no two rows are the same
  pub record Known : Type 0 where
    pub some : (x : Schemas) × IsOf x
    pub are : Each IsOf AreSchemas
    pub symbols : Each IsOf (λ x. s.symbols ≡ symbol_count x.symbols)
    pub hedges : AreDifferent s.hedges
    pub trees : AreDifferent s.trees

-- the rows that are meant by those that code holds
abbrev pub state_of : Both → List Row → List Row → State
state_of b hedges trees = record { symbols = b.symbols; hedges = map hedge_row hedges; trees = map tree_row trees }

-- over each of these schemas, of which there are some
pub record AreHeld (IsOf : Schemas → Type 0) (b : Both) (hedges trees : List Row) : Type 0 where
  pub some : (x : Schemas) × IsOf x
  pub are : Each IsOf AreSchemas
  pub told : Each IsOf (AreTold b)
  pub hedges_fit : All (IsHedgeFit b) hedges
  pub trees_fit : All (IsTreeFit b) trees
  pub hedges_differ : AreDifferent hedges
  pub trees_differ : AreDifferent trees

module _ (s : Held) where
  -- of the first so many trees none fails
  abbrev pub PassBefore : ℕ → Type 0
  PassBefore n = (t : ℕ) → t < n → s.passes t

  -- the first tree that fails
  pub record IsFirstFailing (k : ℕ) : Type 0 where
    pub held : k < s.trees
    pub fails : s.fails k
    pub before : PassBefore k
