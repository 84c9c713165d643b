-- What is answered of two schemas: that the first is included in the second, with how many rows there are; or a least difference; and why nothing is told.
use Rattle.std.specs.Prelude.{◌<◌, ◌≤◌, ℕ}
use Rattle.tc_base.specs.declared.limits.TheConstants.{MOST_SHOWN_NODES}
use Rattle.tc_model.specs.Trees.{Trees, none, node_count}
use Rattle.tc_model.specs.Views.{before}
use Rattle.tc_rows.specs.Counts.{Counts, Pass}
use Rattle.tc_incl.specs.declared.inclusion.Cover.{Cover}
use Rattle.tc_incl.specs.declared.inclusion.Cover.TheVariants.{Included, Not, NotLarge}
use Rattle.tc_incl.specs.declared.inclusion.InclFault.{InclFault}
use Rattle.tc_incl.specs.declared.inclusion.InclFault.TheVariants as fault
use Rattle.tc_incl.specs.Schemas.{Schemas, IsIncluded, IsDifference, IsLeastDifference}
use Rattle.tc_incl.specs.Derivations.{ArePlain}
use Rattle.tc_incl.specs.Counts.{IsRowOfLiveTree, IsRowOfLiveHedge}

module _ (x : Schemas) where
  -- no cover count passes the limit
  pub record KeepsCounts (most : ℕ) : Type 0 where
    pub trees : ¬ Pass (IsRowOfLiveTree x) most
    pub hedges : ¬ Pass (IsRowOfLiveHedge x) most

  -- included, with the cover counts
  pub record IsIncludedWith (most t h : ℕ) : Type 0 where
    pub keeps : KeepsCounts most
    pub included : IsIncluded x.first x.second
    pub trees : Counts (IsRowOfLiveTree x) t
    pub hedges : Counts (IsRowOfLiveHedge x) h

  -- a plain difference of at most 2,000 nodes, with the fewest of all
  pub record IsLeastPlain (most : ℕ) (doc : Trees) : Type 0 where
    pub keeps : KeepsCounts most
    pub least : IsLeastDifference x.first x.second doc
    pub plain : ArePlain x doc
    pub few : node_count doc ≤ MOST_SHOWN_NODES

  -- there are differences, and all have more nodes
  pub record IsFarDifferent (most : ℕ) : Type 0 where
    pub keeps : KeepsCounts most
    pub some : (doc : Trees) × IsDifference x.first x.second doc
    pub far : (doc : Trees) → IsDifference x.first x.second doc → MOST_SHOWN_NODES < node_count doc

  abbrev pub IsAnswer : ℕ → Cover → Type 0
  IsAnswer most (Included trees hedges) = IsIncludedWith most trees hedges
  IsAnswer most (Not d) = IsLeastPlain most (before d none)
  IsAnswer most NotLarge = IsFarDifferent most

  -- the count that is named passes the limit
  abbrev pub IsCause : ℕ → InclFault → Type 0
  IsCause most fault.TooManyTrees = Pass (IsRowOfLiveTree x) most
  IsCause most fault.TooManyHedges = Pass (IsRowOfLiveHedge x) most
  IsCause most fault.NoMemory = Unit {0}
