-- What is told of a machine: that it is safe, with how many rows there are; or a least counterexample; and why nothing is told.
use Rattle.std.specs.Prelude.{◌<◌, ◌≤◌, ℕ}
use Rattle.tc_base.specs.declared.limits.TheConstants.{MOST_OUTPUTS, MOST_SHOWN_NODES}
use Rattle.tc_model.specs.Trees.{Trees, none, node_count}
use Rattle.tc_model.specs.Views.{before}
use Rattle.tc_model.specs.Safety.{IsSafe, IsCounterexample}
use Rattle.tc_rows.specs.Triples.{Triple, sheet}
use Rattle.tc_rows.specs.Counts as c
use Rattle.tc_rows.specs.Counts.{Pass, IsRowOfLiveTree, IsRowOfLiveHedge, IsOutput}
use Rattle.tc_rows.specs.Derivations.{ArePlain}
use Rattle.tc_close.specs.declared.decision.Counts.{Counts}
use Rattle.tc_close.specs.declared.decision.Decision.{Decision}
use Rattle.tc_close.specs.declared.decision.Decision.TheVariants.{Safe, Unsafe, TooManyNodes}
use Rattle.tc_close.specs.declared.decision.CloseFault.{CloseFault}
use Rattle.tc_close.specs.declared.decision.CloseFault.TheVariants as fault

module _ (x : Triple) where
  -- a valid document whose result isn't valid, whatever its result is
  abbrev pub IsCounter : Trees → Type 0
  IsCounter doc = (result : Trees) × IsCounterexample x.input x.output (sheet x) doc result

  -- no count passes its limit
  pub record KeepsCounts (most : ℕ) : Type 0 where
    pub trees : ¬ Pass (IsRowOfLiveTree x) most
    pub hedges : ¬ Pass (IsRowOfLiveHedge x) most
    pub outputs : ¬ Pass (IsOutput x) MOST_OUTPUTS

  -- there are so many rows of live trees, of live lists of trees, and sets of pairs in them
  pub record AreCounts (n : Counts) : Type 0 where
    pub trees : c.Counts (IsRowOfLiveTree x) n.trees
    pub hedges : c.Counts (IsRowOfLiveHedge x) n.hedges
    pub outputs : c.Counts (IsOutput x) n.outputs

  pub record IsSafeWith (most : ℕ) (n : Counts) : Type 0 where
    pub safe : IsSafe x.input x.output (sheet x)
    pub keeps : KeepsCounts most
    pub counts : AreCounts n
    pub few_trees : n.trees ≤ most
    pub few_hedges : n.hedges ≤ most
    pub few_outputs : n.outputs ≤ MOST_OUTPUTS

  -- a plain counterexample of at most 2,000 nodes, with the fewest nodes of all
  pub record IsUnsafeBy (most : ℕ) (doc : Trees) : Type 0 where
    pub keeps : KeepsCounts most
    pub counter : IsCounter doc
    pub plain : ArePlain x doc
    pub few : node_count doc ≤ MOST_SHOWN_NODES
    pub least : (other : Trees) → IsCounter other → node_count doc ≤ node_count other

  -- there are counterexamples, and all have more nodes
  pub record IsFarUnsafe (most : ℕ) : Type 0 where
    pub keeps : KeepsCounts most
    pub some : (doc : Trees) × IsCounter doc
    pub far : (doc : Trees) → IsCounter doc → MOST_SHOWN_NODES < node_count doc

  abbrev pub IsDecided : ℕ → Decision → Type 0
  IsDecided most (Safe n) = IsSafeWith most n
  IsDecided most (Unsafe d) = IsUnsafeBy most (before d none)
  IsDecided most TooManyNodes = IsFarUnsafe most

  -- the count that is named passes its limit
  abbrev pub IsCloseCause : ℕ → CloseFault → Type 0
  IsCloseCause most fault.TooManyTrees = Pass (IsRowOfLiveTree x) most
  IsCloseCause most fault.TooManyHedges = Pass (IsRowOfLiveHedge x) most
  IsCloseCause most fault.TooManyOutputs = Pass (IsOutput x) MOST_OUTPUTS
  IsCloseCause most fault.NoMemory = Unit {0}
