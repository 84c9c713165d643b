-- Lists of rows that are closed under row arithmetic, whatever they were made by: they hold the rows of all live trees, so they show safety.
-- Rows that are listed beyond those of live trees, also of no tree, and sets that no row uses are accepted
-- where all rules hold. None that lacks a row of a live tree is, so the one that `prove` writes is the least.
-- Such lists are an inductive invariant.
use Rattle.std.specs.Prelude.{ℕ, ◌<◌, List, [], length, map, get_or, Bool, IsTrue, Contains, All}
use Rattle.tc_model.specs.Trees.{Trees}
use Rattle.tc_model.specs.Chains.{Tree}
use Rattle.tc_model.specs.LiveTrees.{IsLiveTree, IsLiveHedge}
use Rattle.tc_model.specs.Safety.{IsSafe}
use Rattle.tc_model.specs.Symbols.{symbol_count}
use Rattle.tc_rows.specs.Triples.{Triple, IsTriple, sheet}
use Rattle.tc_rows.specs.Triples as t
use Rattle.tc_rows.specs.PairSets.{IsPairs}
use Rattle.tc_rows.specs.Rows.{HedgeRow, TreeRow, IsHedgeRow, IsTreeRow, IsRowOfHedge, IsRowOfTree}
use Rattle.tc_rows.specs.Arithmetic.{IsEmptyRow, IsTextRow, IsTextLive, IsAppend, IsLiveAppend, IsWrap, IsLiveWrap, is_admitted, IsPassing}

module _ (x : Triple) (trees : List TreeRow) (hedges : List HedgeRow) where
  -- the row of no tree is listed, that of a live text, and what is live and comes from rows that are listed
  pub record AreClosed : Type 0 where
    pub empty : (u : HedgeRow) → IsEmptyRow x u → Contains hedges u
    pub text : IsTextLive x → (u : TreeRow) → IsTextRow x u → Contains trees u
    pub append : (h u : HedgeRow) (t : TreeRow) → Contains hedges h → Contains trees t → IsLiveAppend x h t → IsAppend x h t u → Contains hedges u
    pub wrap : (a : ℕ) (h : HedgeRow) (u : TreeRow) → a < symbol_count x.symbols → Contains hedges h → IsLiveWrap x a h → IsWrap x a h u → Contains trees u

  -- rows of the triple's shape, closed, and each that is admitted passes
  pub record AreCertified : Type 0 where
    pub tree_rows : All (IsTreeRow x) trees
    pub hedge_rows : All (IsHedgeRow x) hedges
    pub closed : AreClosed
    pub root : (t : TreeRow) → Contains trees t → IsTrue (is_admitted x t) → IsPassing x t

-- rows as a certificate has them: each entry is the number of a set of pairs among its outputs
pub record NumberedTree : Type 0 where
  pub is_text : Bool
  pub bears : Bool
  pub patterns : List ℕ
  pub entries : List ℕ
  pub looks : List ℕ

pub record NumberedHedge : Type 0 where
  pub ends : Bool
  pub bears : Bool
  pub states : List ℕ
  pub entries : List ℕ
  pub looks : List ℕ

-- the rows that are meant
module _ (outputs : List (List (ℕ × ℕ))) where
  abbrev pub sets_of : List ℕ → List (List (ℕ × ℕ))
  sets_of numbers = map (λ n. get_or outputs n []) numbers

  abbrev pub tree_of : NumberedTree → TreeRow
  tree_of t = record { is_text = t.is_text; bears = t.bears; patterns = t.patterns; entries = sets_of t.entries; looks = t.looks }

  abbrev pub hedge_of : NumberedHedge → HedgeRow
  hedge_of h = record { ends = h.ends; bears = h.bears; states = h.states; entries = sets_of h.entries; looks = h.looks }

-- the data of a certificate: all numbers fit the triple, and the rows that are meant are certified
pub record IsCertificate (x : Triple) (outputs : List (List (ℕ × ℕ))) (trees : List NumberedTree) (hedges : List NumberedHedge) : Type 0 where
  pub outputs_fit : All (IsPairs (t.outputs x)) outputs
  pub trees_fit : All (λ t. All (λ n. n < length outputs) t.entries) trees
  pub hedges_fit : All (λ h. All (λ n. n < length outputs) h.entries) hedges
  pub certified : AreCertified x (map (tree_of outputs) trees) (map (hedge_of outputs) hedges)

-- closed lists hold the rows of all live trees and of all live lists of trees
abbrev pub ClosedHoldAll : Type 0
ClosedHoldAll =
    (x : Triple) → IsTriple x → (trees : List TreeRow) (hedges : List HedgeRow) → AreClosed x trees hedges
    → ((t : Tree) (r : TreeRow) → IsLiveTree x.input t → IsRowOfTree x t r → Contains trees r) × ((h : Trees) (r : HedgeRow) → IsLiveHedge x.input h → IsRowOfHedge x h r → Contains hedges r)

-- and certified ones show safety
abbrev pub CertifiedIsSafe : Type 0
CertifiedIsSafe = (x : Triple) → IsTriple x → (trees : List TreeRow) (hedges : List HedgeRow) → AreCertified x trees hedges → IsSafe x.input x.output (sheet x)

abbrev pub CertificateIsSafe : Type 0
CertificateIsSafe =
    (x : Triple) → IsTriple x → (outputs : List (List (ℕ × ℕ))) (trees : List NumberedTree) (hedges : List NumberedHedge) → IsCertificate x outputs trees hedges → IsSafe x.input x.output (sheet x)
