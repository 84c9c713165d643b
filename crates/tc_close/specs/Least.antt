-- The least costs of rows: the fewest nodes of their live trees.
use Rattle.std.specs.Prelude.{◌≡◌, ◌<◌, ◌≤◌, ◌⊎◌, ◌↔◌, ◌+◌, ℕ}
use Rattle.tc_model.specs.Trees.{Trees, node_count}
use Rattle.tc_model.specs.Chains.{Tree}
use Rattle.tc_model.specs.TreesApart.{alone}
use Rattle.tc_model.specs.LiveTrees.{IsLiveTree, IsLiveHedge}
use Rattle.tc_model.specs.Safety.{IsCounterexample}
use Rattle.tc_model.specs.Symbols.{symbol_count}
use Rattle.tc_rows.specs.Triples.{Triple, IsTriple, sheet}
use Rattle.tc_rows.specs.Rows.{HedgeRow, TreeRow, IsRowOfTree, IsRowOfHedge}
use Rattle.tc_rows.specs.Arithmetic.{IsEmptyRow, IsTextRow, IsTextLive, IsAppend, IsLiveAppend, IsWrap, IsLiveWrap}
use Rattle.tc_rows.specs.Derivations.{HedgeFrom, TreeFrom, ArePlain, IsFailing}

module _ (x : Triple) where
  -- the row comes at this cost and at none below
  abbrev pub IsLeastTree : TreeRow → ℕ → Type 0
  IsLeastTree r c = TreeFrom x r c × ((n : ℕ) → TreeFrom x r n → c ≤ n)

  abbrev pub IsLeastHedge : HedgeRow → ℕ → Type 0
  IsLeastHedge r c = HedgeFrom x r c × ((n : ℕ) → HedgeFrom x r n → c ≤ n)

  -- a tree row is that of a text, or of an element around a list of trees that costs one less
  abbrev pub IsWrapOf : (HedgeRow → ℕ → Type 0) → TreeRow → ℕ → Type 0
  IsWrapOf At r c = (a : ℕ) × (h : HedgeRow) × (n : ℕ) × (a < symbol_count x.symbols) × At h n × (c ≡ n + 1) × IsLiveWrap x a h × IsWrap x a h r

  abbrev pub IsText : TreeRow → ℕ → Type 0
  IsText r c = (c ≡ 1) × IsTextLive x × IsTextRow x r

  -- a hedge row is that of no tree, or of a list of trees with one more behind, which costs something
  abbrev pub IsAppendOf : (HedgeRow → ℕ → Type 0) → (TreeRow → ℕ → Type 0) → HedgeRow → ℕ → Type 0
  IsAppendOf At TreeAt u c = (h : HedgeRow) × (t : TreeRow) × (m : ℕ) × (n : ℕ) × At h m × TreeAt t n × (1 ≤ n) × (c ≡ m + n) × IsLiveAppend x h t × IsAppend x h t u

  abbrev pub IsNone : HedgeRow → ℕ → Type 0
  IsNone u c = (c ≡ 0) × IsEmptyRow x u

  pub record LeastCosts : Type 0 where
    -- the least cost of a row is the least number of nodes of its live trees. Of these alone: a tree that isn't in normal form, with two texts side by side, may have the same row and fewer nodes
    pub trees : (r : TreeRow) (c : ℕ) → IsLeastTree r c
        ↔ (((t : Tree) × IsLiveTree x.input t × IsRowOfTree x t r × (node_count (alone t) ≡ c)) × ((t : Tree) → IsLiveTree x.input t → IsRowOfTree x t r → c ≤ node_count (alone t)))
    pub hedges : (r : HedgeRow) (c : ℕ) → IsLeastHedge r c
        ↔ (((h : Trees) × IsLiveHedge x.input h × IsRowOfHedge x h r × (node_count h ≡ c)) × ((h : Trees) → IsLiveHedge x.input h → IsRowOfHedge x h r → c ≤ node_count h))
    -- no tree row costs nothing
    pub some : (r : TreeRow) (c : ℕ) → TreeFrom x r c → 1 ≤ c
    -- what costs least comes from what costs least
    pub tree_parts : (r : TreeRow) (c : ℕ) → IsLeastTree r c → IsText r c ⊎ IsWrapOf IsLeastHedge r c
    pub hedge_parts : (r : HedgeRow) (c : ℕ) → IsLeastHedge r c → IsNone r c ⊎ IsAppendOf IsLeastHedge IsLeastTree r c

  -- a row that fails, at a cost below which none fails
  abbrev pub IsLeastFailing : TreeRow → ℕ → Type 0
  IsLeastFailing r c = IsFailing x r × TreeFrom x r c × ((s : TreeRow) (n : ℕ) → IsFailing x s → TreeFrom x s n → c ≤ n)

  pub record LeastCounterexamples : Type 0 where
    -- such a row shows a counterexample with as many nodes as it costs: one plain tree of the row
    pub shown : (r : TreeRow) (c : ℕ) → IsLeastFailing r c
        → (t : Tree) × (result : Trees) × ArePlain x (alone t) × IsRowOfTree x t r × (node_count (alone t) ≡ c) × IsCounterexample x.input x.output (sheet x) (alone t) result
    -- and no counterexample has fewer
    pub least : (r : TreeRow) (c : ℕ) → IsLeastFailing r c → (doc result : Trees) → IsCounterexample x.input x.output (sheet x) doc result → c ≤ node_count doc
    -- all counterexamples have more nodes than some number exactly where all rows that fail cost more
    pub far : (most : ℕ)
        → ((doc result : Trees) → IsCounterexample x.input x.output (sheet x) doc result → most < node_count doc)
        ↔ ((r : TreeRow) (n : ℕ) → IsFailing x r → TreeFrom x r n → most < n)

abbrev pub CostsAreLeast : Type 0
CostsAreLeast = (x : Triple) → IsTriple x → LeastCosts x × LeastCounterexamples x
