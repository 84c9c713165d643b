-- What is kept of rows that are derived: what each is made of, and its cost.
use Rattle.std.specs.Prelude.{◌≡◌, ◌<◌, ◌≤◌, ◌⊎◌, ◌+◌, ℕ, length, slice_get, slice_index, Some}
use Rattle.tc_base.specs.declared.limits.TheConstants.{MOST_SHOWN_NODES}
use Rattle.tc_settle.specs.declared.closed.Closed.{Closed}
use Rattle.tc_settle.specs.declared.closed.MadeHedge.{MadeHedge}
use Rattle.tc_settle.specs.declared.closed.MadeHedge.TheVariants as hedge
use Rattle.tc_settle.specs.declared.closed.MadeTree.{MadeTree}
use Rattle.tc_settle.specs.declared.closed.MadeTree.TheVariants as tree
use Rattle.tc_settle.specs.declared.closed.CloseFault.{CloseFault}
use Rattle.tc_settle.specs.declared.closed.CloseFault.TheVariants as fault
use Rattle.tc_settle.specs.Held.{Held, IsExact, IsNoneAt, IsTextAt, IsAppendAt, IsWrapAt}
use Rattle.tc_settle.specs.Derived.{HedgeFrom, TreeFrom, AllDerive, IsClosed, IsCost, HaveTooManyTrees, HaveTooManyHedges, far_cost}

abbrev pub hedge_cost : Closed → ℕ → ℕ
hedge_cost c u = slice_index c.hedge_costs.items u

abbrev pub tree_cost : Closed → ℕ → ℕ
tree_cost c u = slice_index c.tree_costs.items u

-- a number as it is, up to 2,000, and 2,001 for all greater ones
abbrev pub IsCapped : ℕ → ℕ → Type 0
IsCapped n c = ((n ≤ MOST_SHOWN_NODES) × (c ≡ n)) ⊎ ((MOST_SHOWN_NODES < n) × (c ≡ far_cost))

module _ (s : Held) (c : Closed) where
  -- the row of this number is made so, of what makes up its cost
  abbrev pub IsHedgeMade : ℕ → MadeHedge → Type 0
  IsHedgeMade u hedge.None = IsNoneAt s u × (hedge_cost c u ≡ 0)
  IsHedgeMade u (hedge.Append h t) = (h < s.hedges) × (t < s.trees) × IsAppendAt s h t u × IsCapped (hedge_cost c h + tree_cost c t) (hedge_cost c u)

  abbrev pub IsTreeMade : ℕ → MadeTree → Type 0
  IsTreeMade u tree.Text = IsTextAt s u × (tree_cost c u ≡ 1)
  IsTreeMade u (tree.Wrap a h) = (a < s.symbols) × (h < s.hedges) × IsWrapAt s a h u × IsCapped (hedge_cost c h + 1) (tree_cost c u)

  -- all rows that are held are kept, in order of cost
  pub record IsKept : Type 0 where
    pub hedge_count : length c.hedge_costs.items ≡ s.hedges
    pub tree_count : length c.tree_costs.items ≡ s.trees
    pub made_hedge_count : length c.hedges.items ≡ s.hedges
    pub made_tree_count : length c.trees.items ≡ s.trees
    pub hedges_derive : (u : ℕ) → u < s.hedges → (n : ℕ) × HedgeFrom s u n × IsCapped n (hedge_cost c u)
    pub trees_derive : (u : ℕ) → u < s.trees → (n : ℕ) × TreeFrom s u n × IsCapped n (tree_cost c u)
    pub hedges_made : (u : ℕ) → u < s.hedges → (m : MadeHedge) × (slice_get c.hedges.items u ≡ Some m) × IsHedgeMade u m
    pub trees_made : (u : ℕ) → u < s.trees → (m : MadeTree) × (slice_get c.trees.items u ≡ Some m) × IsTreeMade u m
    pub hedges_in_order : (i j : ℕ) → i ≤ j → j < s.hedges → hedge_cost c i ≤ hedge_cost c j
    pub trees_in_order : (i j : ℕ) → i ≤ j → j < s.trees → tree_cost c i ≤ tree_cost c j

  -- these are all rows that are derived, each with its least number of nodes
  pub record IsClosure : Type 0 where
    pub exact : IsExact s
    pub closed : IsClosed s
    pub kept : IsKept
    pub hedge_costs : (u : ℕ) → u < s.hedges → IsCost (HedgeFrom s u) (hedge_cost c u)
    pub tree_costs : (u : ℕ) → u < s.trees → IsCost (TreeFrom s u) (tree_cost c u)

-- why it comes to no end
abbrev pub IsCause : Type 0 → ℕ → Held → CloseFault → Type 0
IsCause full most s fault.TooManyTrees = HaveTooManyTrees s most
IsCause full most s fault.TooManyHedges = HaveTooManyHedges s most
IsCause full most s fault.Full = full × AllDerive s
IsCause full most s fault.NoMemory = Unit {0}

-- the first row that fails, at the least cost of all that fail
pub record IsFirstFailing (s : Held) (c : Closed) (k : ℕ) : Type 0 where
  pub held : k < s.trees
  pub fails : s.fails k
  pub passed : (t : ℕ) → t < k → s.passes t
  pub least : (t : ℕ) → t < s.trees → s.fails t → tree_cost c k ≤ tree_cost c t
