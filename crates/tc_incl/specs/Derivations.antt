-- Rows that come from rows, with the number of nodes: those of live trees are these and no others.
use Rattle.std.specs.Prelude.{◌≡◌, ◌<◌, ◌≤◌, ◌↔◌, ◌+◌, ℕ, codes}
use Rattle.tc_model.specs.Trees.{Trees, none, text, element, node_count}
use Rattle.tc_model.specs.Chains.{Tree}
use Rattle.tc_model.specs.TreesApart.{alone}
use Rattle.tc_model.specs.LiveTrees.{IsLiveTree, IsLiveHedge}
use Rattle.tc_model.specs.Symbols.{symbol_of, symbol_count, fresh_name}
use Rattle.tc_incl.specs.Schemas.{Schemas, AreSchemas, IsIncluded, IsDifference, IsLeastDifference}
use Rattle.tc_incl.specs.Rows.{HedgeRow, TreeRow, IsRowOfHedge, IsRowOfTree}
use Rattle.tc_incl.specs.Arithmetic.{IsEmptyRow, IsTextRow, IsTextLive, IsAppend, IsLiveAppend, IsWrap, IsLiveWrap, IsFailing}

module _ (x : Schemas) where
  -- from no tree, from trees with one more behind them, from a text and from an element around trees, all live; no tree has no node, a text one, an element one more than its children
  mutual
    pub data HedgeFrom : HedgeRow → ℕ → Type 0 where
      from_none : {u : HedgeRow} → IsEmptyRow x u → HedgeFrom u 0
      from_append : {h u : HedgeRow} {t : TreeRow} {m n : ℕ} → HedgeFrom h m → TreeFrom t n → IsLiveAppend x h t → IsAppend x h t u → HedgeFrom u (m + n)

    pub data TreeFrom : TreeRow → ℕ → Type 0 where
      from_text : {u : TreeRow} → IsTextLive x → IsTextRow x u → TreeFrom u 1
      from_wrap : {a : ℕ} {h : HedgeRow} {u : TreeRow} {n : ℕ} → a < symbol_count x.symbols → HedgeFrom h n → IsLiveWrap x a h → IsWrap x a h u → TreeFrom u (n + 1)

  -- each text is `t`, and each name the one that stands for its symbol
  abbrev pub ArePlain : Trees → Type 0
  ArePlain none = Unit {0}
  ArePlain (text s rest) = (s ≡ codes "t") × ArePlain rest
  ArePlain (element n kids rest) = (n ≡ fresh_name x.symbols (symbol_of x.symbols n)) × ArePlain kids × ArePlain rest

  -- a live tree of this row with so many nodes, and a plain one
  abbrev pub IsRowOfSome : TreeRow → ℕ → Type 0
  IsRowOfSome r n = (t : Tree) × IsLiveTree x.first t × IsRowOfTree x t r × (node_count (alone t) ≡ n)

  abbrev pub IsRowOfPlain : TreeRow → ℕ → Type 0
  IsRowOfPlain r n = (t : Tree) × ArePlain (alone t) × IsLiveTree x.first t × IsRowOfTree x t r × (node_count (alone t) ≡ n)

  abbrev pub IsRowOfSomeHedge : HedgeRow → ℕ → Type 0
  IsRowOfSomeHedge r n = (h : Trees) × IsLiveHedge x.first h × IsRowOfHedge x h r × (node_count h ≡ n)

  -- a row comes from rows with so many nodes, and with no fewer
  pub record IsLeastCost (r : TreeRow) (n : ℕ) : Type 0 where
    pub comes : TreeFrom r n
    pub least : (m : ℕ) → TreeFrom r m → n ≤ m

  -- a row that fails, and no row that fails comes with fewer nodes
  pub record IsLeastFailing (r : TreeRow) (n : ℕ) : Type 0 where
    pub comes : TreeFrom r n
    pub fails : IsFailing x r
    pub least : (s : TreeRow) (m : ℕ) → TreeFrom s m → IsFailing x s → n ≤ m

  pub record AreExact : Type 0 where
    pub trees : (r : TreeRow) (n : ℕ) → TreeFrom r n ↔ IsRowOfSome r n
    pub hedges : (r : HedgeRow) (n : ℕ) → HedgeFrom r n ↔ IsRowOfSomeHedge r n
    pub plain : (r : TreeRow) (n : ℕ) → TreeFrom r n → IsRowOfPlain r n
    -- the first schema is included in the second exactly where no row fails
    pub included : IsIncluded x.first x.second ↔ ((r : TreeRow) (n : ℕ) → TreeFrom r n → ¬ IsFailing x r)
    -- a row that fails shows a difference with so many nodes, and each difference has such a row
    pub shows : (r : TreeRow) (t : Tree) → IsLiveTree x.first t → IsRowOfTree x t r → IsFailing x r → IsDifference x.first x.second (alone t)
    pub failing : (doc : Trees) → IsDifference x.first x.second doc → (r : TreeRow) × TreeFrom r (node_count doc) × IsFailing x r
    -- trees of a least row that fails, with as many nodes, are least differences
    pub least : (r : TreeRow) (n : ℕ) → IsLeastFailing r n → (t : Tree) → IsLiveTree x.first t → IsRowOfTree x t r → node_count (alone t) ≡ n → IsLeastDifference x.first x.second (alone t)
    -- where rows that fail come with more nodes than a number alone, so do differences
    pub large : (most : ℕ) → ((r : TreeRow) (n : ℕ) → TreeFrom r n → IsFailing x r → most < n) → (doc : Trees) → IsDifference x.first x.second doc → most < node_count doc

abbrev pub DerivationsAreExact : Type 0
DerivationsAreExact = (x : Schemas) → AreSchemas x → AreExact x
