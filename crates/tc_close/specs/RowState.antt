-- Rows that are held by their numbers: what the numbers stand for over triples, and what is made of them.
use Rattle.std.specs.Prelude.{◌≡◌, ◌<◌, ◌≤◌, ◌⊎◌, ◌++◌, ℕ, List, [], length, get_or, Bool, true, IsTrue}
use Rattle.std.specs.List.{Contains}
use Rattle.tc_base.specs.declared.limits.TheConstants.{MOST_OUTPUTS}
use Rattle.tc_model.specs.Symbols.{symbol_count}
use Rattle.tc_mat.specs.Held as mat
use Rattle.tc_rows.specs.Triples.{Triple, IsTriple}
use Rattle.tc_rows.specs.Rows.{HedgeRow, TreeRow, IsHedgeRow, IsTreeRow}
use Rattle.tc_rows.specs.Arithmetic.{IsEmptyRow, IsTextRow, IsTextLive, IsAppend, IsLiveAppend, IsWrap, IsLiveWrap, is_admitted, IsPassing}
use Rattle.tc_rows.specs.Counts.{AreDifferent}
use Rattle.tc_rows.specs.Derivations.{IsFailing}
use Rattle.tc_beh.specs.Places.{pairs_of}
use Rattle.tc_beh.specs.Held.{Extends, set_at}
use Rattle.tc_beh.specs.Outs.{IsLeftOut}
use Rattle.tc_beh.specs.Rooms.{hedge_layout, tree_layout, IsRoom, hedge_row, tree_row}
use Rattle.tc_settle.specs.Held.{Held}

pub record RowState : Type 0 where
  -- how many symbols there are
  pub symbols : ℕ
  -- the sets of pairs that stand in rows
  pub outputs : mat.Held
  -- the numbers of the rows of lists of trees, and of those of trees
  pub hedges : List (List ℕ)
  pub trees : List (List ℕ)
  -- no row was refused
  pub is_whole : Bool

module _ (x : Triple) (s : RowState) where
  abbrev pub hedge_at : ℕ → HedgeRow
  hedge_at u = hedge_row x s.outputs.matrices (get_or s.hedges u [])

  abbrev pub tree_at : ℕ → TreeRow
  tree_at u = tree_row x s.outputs.matrices (get_or s.trees u [])

  -- the set is an entry of a row that is held
  abbrev pub StandsInRow : List (ℕ × ℕ) → Type 0
  StandsInRow pairs = ((u : ℕ) × (u < length s.hedges) × Contains (hedge_at u).entries pairs) ⊎ ((u : ℕ) × (u < length s.trees) × Contains (tree_at u).entries pairs)

  pub record IsHedgeHeld (u : ℕ) : Type 0 where
    pub room : IsRoom (hedge_layout x) s.outputs.matrices (get_or s.hedges u [])
    pub row : IsHedgeRow x (hedge_at u)

  pub record IsTreeHeld (u : ℕ) : Type 0 where
    pub room : IsRoom (tree_layout x) s.outputs.matrices (get_or s.trees u [])
    pub row : IsTreeRow x (tree_at u)

  -- all numbers are those of rows, and where no row was refused each set stands in a row
  pub record AreGood : Type 0 where
    pub hedges : (u : ℕ) → u < length s.hedges → IsHedgeHeld u
    pub trees : (u : ℕ) → u < length s.trees → IsTreeHeld u
    pub stood : s.is_whole ≡ true → (k : ℕ) → k < length s.outputs.matrices → StandsInRow (pairs_of (set_at s.outputs k))

  -- a row that is made of rows that are held
  abbrev pub IsMadeHedge : HedgeRow → Type 0
  IsMadeHedge r = IsEmptyRow x r ⊎ ((h : ℕ) × (t : ℕ) × (h < length s.hedges) × (t < length s.trees) × IsLiveAppend x (hedge_at h) (tree_at t) × IsAppend x (hedge_at h) (tree_at t) r)

  abbrev pub IsMadeTree : TreeRow → Type 0
  IsMadeTree r = (IsTextLive x × IsTextRow x r) ⊎ ((a : ℕ) × (h : ℕ) × (a < symbol_count x.symbols) × (h < length s.hedges) × IsLiveWrap x a (hedge_at h) × IsWrap x a (hedge_at h) r)

  abbrev pub AreMadeEntries : List (List (ℕ × ℕ)) → Type 0
  AreMadeEntries entries = ((r : HedgeRow) × IsMadeHedge r × (r.entries ≡ entries)) ⊎ ((r : TreeRow) × IsMadeTree r × (r.entries ≡ entries))

  -- as many sets as can be are held, and one more stands in a row that is made of those that are held
  pub record IsFullBy : Type 0 where
    pub entries : List (List (ℕ × ℕ))
    pub made : AreMadeEntries entries
    pub left : IsLeftOut s.outputs entries
    pub stood : (k : ℕ) → k < length s.outputs.matrices → StandsInRow (pairs_of (set_at s.outputs k)) ⊎ Contains entries (pairs_of (set_at s.outputs k))

-- what holds for each triple of these
abbrev pub Each : (Triple → Type 0) → (Triple → Type 0) → Type 0
Each IsOf P = (x : Triple) → IsOf x → P x

module _ (IsOf : Triple → Type 0) (s : RowState) where
  -- what is made of which
  abbrev pub held_of : Held
  held_of = record {
    trees = length s.trees;
    hedges = length s.hedges;
    symbols = s.symbols;
    is_none = λ u. Each IsOf (λ x. IsEmptyRow x (hedge_at x s u));
    is_text = λ u. Each IsOf (λ x. IsTextLive x × IsTextRow x (tree_at x s u));
    no_text = Each IsOf (λ x. ¬ IsTextLive x);
    is_append = λ h t u. Each IsOf (λ x. IsLiveAppend x (hedge_at x s h) (tree_at x s t) × IsAppend x (hedge_at x s h) (tree_at x s t) (hedge_at x s u));
    no_append = λ h t. Each IsOf (λ x. ¬ IsLiveAppend x (hedge_at x s h) (tree_at x s t));
    is_wrap = λ a h u. Each IsOf (λ x. IsLiveWrap x a (hedge_at x s h) × IsWrap x a (hedge_at x s h) (tree_at x s u));
    no_wrap = λ a h. Each IsOf (λ x. ¬ IsLiveWrap x a (hedge_at x s h));
    fails = λ t. Each IsOf (λ x. IsFailing x (tree_at x s t));
    passes = λ t. Each IsOf (λ x. IsTrue (is_admitted x (tree_at x s t)) → IsPassing x (tree_at x s t));
  }

  abbrev pub IsFull : Type 0
  IsFull = (length s.outputs.matrices ≡ MOST_OUTPUTS) × Each IsOf (λ x. IsFullBy x s)

  -- there is such a triple, the numbers are those of rows over each of them, and no two rows or sets are the same
  pub record Known : Type 0 where
    pub some : (x : Triple) × IsOf x
    pub triples : Each IsOf IsTriple
    pub symbols : Each IsOf (λ x. s.symbols ≡ symbol_count x.symbols)
    pub good : Each IsOf (λ x. AreGood x s)
    pub hedges : AreDifferent s.hedges
    pub trees : AreDifferent s.trees
    pub outputs : mat.AreDifferent s.outputs
    pub few : length s.outputs.matrices ≤ MOST_OUTPUTS

-- what is held is held on, each under its number
pub record Extended (a b : RowState) : Type 0 where
  pub symbols : b.symbols ≡ a.symbols
  pub outputs : Extends a.outputs b.outputs
  pub more_hedges : List (List ℕ)
  pub hedges : b.hedges ≡ a.hedges ++ more_hedges
  pub more_trees : List (List ℕ)
  pub trees : b.trees ≡ a.trees ++ more_trees
