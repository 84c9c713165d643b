-- Rows that come from rows, with the number of nodes: those of live trees are these and no others.
-- The cost is an index of the derivation, so the least tree and the least cost are one thing: least among
-- live trees, since a tree that isn't normal may have the row of a live one with more nodes.
use Rattle.std.specs.Prelude.{◌≡◌, ◌<◌, ◌↔◌, ◌+◌, ℕ, IsTrue, codes}
use Rattle.tc_model.specs.Trees.{Trees, none, text, element, node_count}
use Rattle.tc_model.specs.Chains.{Tree}
use Rattle.tc_model.specs.TreesApart.{alone}
use Rattle.tc_model.specs.LiveTrees.{IsLiveTree, IsLiveHedge}
use Rattle.tc_model.specs.Safety.{IsSafe, IsCounterexample}
use Rattle.tc_model.specs.Symbols.{symbol_of, symbol_count, fresh_name}
use Rattle.tc_rows.specs.Triples.{Triple, IsTriple, sheet}
use Rattle.tc_rows.specs.Rows.{HedgeRow, TreeRow, IsRowOfHedge, IsRowOfTree}
use Rattle.tc_rows.specs.Arithmetic.{IsEmptyRow, IsTextRow, IsTextLive, IsAppend, IsLiveAppend, IsWrap, IsLiveWrap, is_admitted, IsPassing}

module _ (x : Triple) where
  -- from no tree, from trees with one more behind them, from a text and from an element around trees, all live; no tree has no node, a text one, an element one more than its children
  mutual
    pub data HedgeFrom : HedgeRow → ℕ → Type 0 where
      from_none : {u : HedgeRow} → IsEmptyRow x u → HedgeFrom u 0
      from_append : {h u : HedgeRow} {t : TreeRow} {m n : ℕ} → HedgeFrom h m → TreeFrom t n → IsLiveAppend x h t → IsAppend x h t u → HedgeFrom u (m + n)

    pub data TreeFrom : TreeRow → ℕ → Type 0 where
      from_text : {u : TreeRow} → IsTextLive x → IsTextRow x u → TreeFrom u 1
      from_wrap : {a : ℕ} {h : HedgeRow} {u : TreeRow} {n : ℕ} → a < symbol_count x.symbols → HedgeFrom h n → IsLiveWrap x a h → IsWrap x a h u → TreeFrom u (n + 1)

  -- each text is `t`, and each name the one that stands for its symbol
  abbrev pub ArePlain : Trees → Type 0
  ArePlain none = Unit {0}
  ArePlain (text s rest) = (s ≡ codes "t") × ArePlain rest
  ArePlain (element n kids rest) = (n ≡ fresh_name x.symbols (symbol_of x.symbols n)) × ArePlain kids × ArePlain rest

  -- a live tree of this row with so many nodes, and a plain one
  abbrev pub IsRowOfSome : TreeRow → ℕ → Type 0
  IsRowOfSome r n = (t : Tree) × IsLiveTree x.input t × IsRowOfTree x t r × (node_count (alone t) ≡ n)

  abbrev pub IsRowOfPlain : TreeRow → ℕ → Type 0
  IsRowOfPlain r n = (t : Tree) × ArePlain (alone t) × IsLiveTree x.input t × IsRowOfTree x t r × (node_count (alone t) ≡ n)

  abbrev pub IsRowOfSomeHedge : HedgeRow → ℕ → Type 0
  IsRowOfSomeHedge r n = (h : Trees) × IsLiveHedge x.input h × IsRowOfHedge x h r × (node_count h ≡ n)

  -- the row of a valid document whose result isn't valid
  abbrev pub IsFailing : TreeRow → Type 0
  IsFailing r = IsTrue (is_admitted x r) × ¬ IsPassing x r

  pub record AreExact : Type 0 where
    pub trees : (r : TreeRow) (n : ℕ) → TreeFrom r n ↔ IsRowOfSome r n
    pub hedges : (r : HedgeRow) (n : ℕ) → HedgeFrom r n ↔ IsRowOfSomeHedge r n
    pub plain : (r : TreeRow) (n : ℕ) → TreeFrom r n → IsRowOfPlain r n
    -- it is safe exactly where all rows that are admitted pass
    pub safe : IsSafe x.input x.output (sheet x) ↔ ((r : TreeRow) (n : ℕ) → TreeFrom r n → IsTrue (is_admitted x r) → IsPassing x r)
    -- a row that fails shows a counterexample with so many nodes, and each counterexample has such a row
    pub shows : (r : TreeRow) (t : Tree) → IsLiveTree x.input t → IsRowOfTree x t r → IsFailing r → (result : Trees) × IsCounterexample x.input x.output (sheet x) (alone t) result
    pub failing : (doc result : Trees) → IsCounterexample x.input x.output (sheet x) doc result → (r : TreeRow) × TreeFrom r (node_count doc) × IsFailing r

abbrev pub DerivationsAreExact : Type 0
DerivationsAreExact = (x : Triple) → IsTriple x → AreExact x
