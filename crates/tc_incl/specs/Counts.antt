-- Cover counts: how many rows there are of trees and of lists of trees that are live for the first schema, and lists of rows that hold all.
-- They count what the second schema makes of what is live for the first, so `include A B` and `include B A`
-- count differently. A name that neither mentions counts by its symbol.
use Rattle.std.specs.Prelude.{◌<◌, ℕ, List, length, Contains}
use Rattle.tc_model.specs.Trees.{Trees}
use Rattle.tc_model.specs.Chains.{Tree}
use Rattle.tc_model.specs.LiveTrees.{IsLiveTree, IsLiveHedge}
use Rattle.tc_model.specs.Symbols.{symbol_count}
use Rattle.tc_rows.specs.Counts.{AreDifferent, Counts, Pass}
use Rattle.tc_rows.specs.CountLaws.{CountsTell}
use Rattle.tc_incl.specs.Schemas.{Schemas, AreSchemas}
use Rattle.tc_incl.specs.Rows.{HedgeRow, TreeRow, IsRowOfHedge, IsRowOfTree}
use Rattle.tc_incl.specs.Arithmetic.{IsEmptyRow, IsTextRow, IsTextLive, IsAppend, IsLiveAppend, IsWrap, IsLiveWrap}
use Rattle.tc_incl.specs.Derivations.{HedgeFrom, TreeFrom}

module _ (x : Schemas) where
  abbrev pub IsRowOfLiveTree : TreeRow → Type 0
  IsRowOfLiveTree r = (t : Tree) × IsLiveTree x.first t × IsRowOfTree x t r

  abbrev pub IsRowOfLiveHedge : HedgeRow → Type 0
  IsRowOfLiveHedge r = (h : Trees) × IsLiveHedge x.first h × IsRowOfHedge x h r

  -- the row of no tree is listed, that of a live text, and what is live and comes from rows that are listed
  pub record AreClosed (trees : List TreeRow) (hedges : List HedgeRow) : Type 0 where
    pub empty : (u : HedgeRow) → IsEmptyRow x u → Contains hedges u
    pub text : IsTextLive x → (u : TreeRow) → IsTextRow x u → Contains trees u
    pub append : (h u : HedgeRow) (t : TreeRow) → Contains hedges h → Contains trees t → IsLiveAppend x h t → IsAppend x h t u → Contains hedges u
    pub wrap : (a : ℕ) (h : HedgeRow) (u : TreeRow) → a < symbol_count x.symbols → Contains hedges h → IsLiveWrap x a h → IsWrap x a h u → Contains trees u

  -- closed lists hold the rows of all live trees
  abbrev pub ClosedHoldAll : Type 0
  ClosedHoldAll =
      (trees : List TreeRow) (hedges : List HedgeRow) → AreClosed trees hedges
      → ((r : TreeRow) (n : ℕ) → TreeFrom x r n → Contains trees r) × ((r : HedgeRow) (n : ℕ) → HedgeFrom x r n → Contains hedges r)

  -- those without repeats of rows that come from rows hold each once, and show the counts
  abbrev pub ListsTell : Type 0
  ListsTell =
      (trees : List TreeRow) (hedges : List HedgeRow) → AreClosed trees hedges → AreDifferent trees → AreDifferent hedges
      → ((r : TreeRow) → Contains trees r → (n : ℕ) × TreeFrom x r n) → ((r : HedgeRow) → Contains hedges r → (n : ℕ) × HedgeFrom x r n)
      → Counts IsRowOfLiveTree (length trees) × Counts IsRowOfLiveHedge (length hedges)

  -- more than so many different rows that come from rows show that the count passes the number
  abbrev pub SomePass : Type 0
  SomePass =
      ((trees : List TreeRow) (most : ℕ) → AreDifferent trees → ((r : TreeRow) → Contains trees r → (n : ℕ) × TreeFrom x r n) → most < length trees → Pass IsRowOfLiveTree most)
      × ((hedges : List HedgeRow) (most : ℕ) → AreDifferent hedges → ((r : HedgeRow) → Contains hedges r → (n : ℕ) × HedgeFrom x r n) → most < length hedges → Pass IsRowOfLiveHedge most)

abbrev pub CoversAreCounted : Type 0
CoversAreCounted = (x : Schemas) → AreSchemas x → CountsTell (IsRowOfLiveTree x) × CountsTell (IsRowOfLiveHedge x) × ClosedHoldAll x × ListsTell x × SomePass x
