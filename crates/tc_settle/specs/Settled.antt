-- How rows are kept cost by cost: what was tried, and how what is kept goes on.
use Rattle.std.specs.Prelude.{◌≡◌, ◌<◌, ◌≤◌, ◌⊎◌, ◌+◌, ◌∷◌, [], ◌++◌, ℕ, List, length, slice_index}
use Rattle.tc_base.specs.declared.limits.TheConstants.{MOST_SHOWN_NODES}
use Rattle.tc_settle.specs.Derived.{far_cost}
use Rattle.tc_settle.specs.declared.closed.Closed.{Closed}
use Rattle.tc_settle.specs.declared.closed.MadeHedge.{MadeHedge}
use Rattle.tc_settle.specs.declared.closed.MadeTree.{MadeTree}
use Rattle.tc_settle.specs.Held.{Held, Grows, IsNoneAt, IsTextAt, IsAppendAt, IsWrapAt}
use Rattle.tc_settle.specs.Closed.{hedge_cost, tree_cost, IsCapped, IsKept}

-- costs don't fall, and none passes 2,001
abbrev pub IsInOrder : List ℕ → Type 0
IsInOrder costs = (i j : ℕ) → i ≤ j → j < length costs → slice_index costs i ≤ slice_index costs j

abbrev pub AreCosts : List ℕ → Type 0
AreCosts costs = IsInOrder costs × ((u : ℕ) → u < length costs → slice_index costs u ≤ far_cost)

-- nothing is held
abbrev pub HoldsNothing : Held → Type 0
HoldsNothing s = (s.trees ≡ 0) × (s.hedges ≡ 0)

module _ (s : Held) (c : Closed) where
  -- tried: it is dead, or held at no greater cost
  abbrev pub IsNoneDone : Type 0
  IsNoneDone = (u : ℕ) × IsNoneAt s u × (hedge_cost c u ≤ 0)

  abbrev pub IsTextDone : Type 0
  IsTextDone = s.no_text ⊎ ((u : ℕ) × IsTextAt s u × (tree_cost c u ≤ 1))

  abbrev pub IsAppendDone : ℕ → ℕ → Type 0
  IsAppendDone h t = s.no_append h t ⊎ ((u : ℕ) × IsAppendAt s h t u × (hedge_cost c u ≤ hedge_cost c h + tree_cost c t))

  abbrev pub IsWrapDone : ℕ → ℕ → Type 0
  IsWrapDone a h = s.no_wrap a h ⊎ ((u : ℕ) × IsWrapAt s a h u × (tree_cost c u ≤ hedge_cost c h + 1))

  abbrev pub AreWrapsDone : ℕ → Type 0
  AreWrapsDone h = (a : ℕ) → a < s.symbols → IsWrapDone a h

  -- all that is made at costs below one was tried
  pub record AreDoneBelow (cost : ℕ) : Type 0 where
    pub none : IsNoneDone
    pub text : IsTextDone
    pub wraps : (h : ℕ) → h < s.hedges → hedge_cost c h + 1 < cost → AreWrapsDone h
    pub appends : (h t : ℕ) → h < s.hedges → t < s.trees → hedge_cost c h + tree_cost c t < cost → IsAppendDone h t

  -- all that is made of the first lists of trees was tried
  pub record AreDoneBefore (count : ℕ) : Type 0 where
    pub wraps : (h : ℕ) → h < count → AreWrapsDone h
    pub appends : (h t : ℕ) → h < count → t < s.trees → IsAppendDone h t

  -- everything was tried
  pub record AreAllDone : Type 0 where
    pub none : IsNoneDone
    pub text : IsTextDone
    pub wraps : (h : ℕ) → h < s.hedges → AreWrapsDone h
    pub appends : (h t : ℕ) → h < s.hedges → t < s.trees → IsAppendDone h t

  -- each of the first lists of trees was tried with the trees that make up a cost with it
  abbrev pub AreSumsDone : ℕ → ℕ → Type 0
  AreSumsDone count cost = (h t : ℕ) → h < count → t < s.trees → hedge_cost c h + tree_cost c t ≡ cost → IsAppendDone h t

  -- each of the first lists of trees was tried with the trees of a range
  abbrev pub AreRangesDone : ℕ → ℕ → ℕ → Type 0
  AreRangesDone count from to = (h t : ℕ) → h < count → from ≤ t → t < to → IsAppendDone h t

  -- no cost is greater
  pub record AreUpTo (cost : ℕ) : Type 0 where
    pub hedges : (u : ℕ) → u < s.hedges → hedge_cost c u ≤ cost
    pub trees : (u : ℕ) → u < s.trees → tree_cost c u ≤ cost

  -- no more than so many, and one more has a number still
  pub record AreFew (most : ℕ) : Type 0 where
    pub limit : most < 4294967295
    pub hedges : s.hedges ≤ most
    pub trees : s.trees ≤ most

  -- before and after something is tried at a cost: all that is held is kept, no more than so many, and nothing costs more
  pub record IsAt (most cost : ℕ) : Type 0 where
    pub kept : IsKept s c
    pub few : AreFew most
    pub up_to : AreUpTo cost

  -- an element around a list of trees, and a list of trees with a tree behind, come to a cost
  pub record WrapCosts (h cost : ℕ) : Type 0 where
    pub hedge : h < s.hedges
    pub sum : IsCapped (hedge_cost c h + 1) cost

  pub record AppendCosts (h t cost : ℕ) : Type 0 where
    pub hedge : h < s.hedges
    pub tree : t < s.trees
    pub sum : IsCapped (hedge_cost c h + tree_cost c t) cost

  -- at each cost stands where the trees of this cost begin
  abbrev pub AreStarts : List ℕ → Type 0
  AreStarts starts = (j : ℕ) → j < length starts → (slice_index starts j ≤ s.trees)
      × ((t : ℕ) → t < s.trees → slice_index starts j ≤ t → j ≤ tree_cost c t) × ((t : ℕ) → t < s.trees → t < slice_index starts j → tree_cost c t < j)

-- what was kept stays, and what comes on has this cost
pub record Goes (cost : ℕ) (s : Held) (c : Closed) (r : Held) (d : Closed) : Type 0 where
  pub grows : Grows s r
  pub hedge_costs : (u : ℕ) → u < s.hedges → hedge_cost d u ≡ hedge_cost c u
  pub tree_costs : (u : ℕ) → u < s.trees → tree_cost d u ≡ tree_cost c u
  pub new_hedges : (u : ℕ) → s.hedges ≤ u → u < r.hedges → hedge_cost d u ≡ cost
  pub new_trees : (u : ℕ) → s.trees ≤ u → u < r.trees → tree_cost d u ≡ cost

-- something was tried at a cost
pub record Steps (most cost : ℕ) (s : Held) (c : Closed) (r : Held) (d : Closed) : Type 0 where
  pub at : IsAt r d most cost
  pub goes : Goes cost s c r d

-- elements or the text were tried at a cost: no list of trees came on
pub record TreesTried (most cost : ℕ) (s : Held) (c : Closed) (r : Held) (d : Closed) (Done : Type 0) : Type 0 where
  pub steps : Steps most cost s c r d
  pub hedges : r.hedges ≡ s.hedges
  pub done : Done

-- lists of trees with one more behind were tried at a cost: no tree came on
pub record HedgesTried (most cost : ℕ) (s : Held) (c : Closed) (r : Held) (d : Closed) (Done : Type 0) : Type 0 where
  pub steps : Steps most cost s c r d
  pub trees : r.trees ≡ s.trees
  pub done : Done

-- one more list of trees, or one more tree
abbrev pub IsWithHedge : Closed → MadeHedge → ℕ → Closed → Type 0
IsWithHedge c m cost d = (d.hedges.items ≡ c.hedges.items ++ m ∷ []) × (d.hedge_costs.items ≡ c.hedge_costs.items ++ cost ∷ []) × (d.trees.items ≡ c.trees.items) × (d.tree_costs.items ≡ c.tree_costs.items)

abbrev pub IsWithTree : Closed → MadeTree → ℕ → Closed → Type 0
IsWithTree c m cost d = (d.trees.items ≡ c.trees.items ++ m ∷ []) × (d.tree_costs.items ≡ c.tree_costs.items ++ cost ∷ []) × (d.hedges.items ≡ c.hedges.items) × (d.hedge_costs.items ≡ c.hedge_costs.items)

-- before things are tried at a cost: all lists of trees cost less, and those from some number on cost one less
pub record IsReady (most cost : ℕ) (s : Held) (c : Closed) (starts : List ℕ) (wrapped : ℕ) : Type 0 where
  pub kept : IsKept s c
  pub few : AreFew s c most
  pub hedges : (h : ℕ) → h < s.hedges → hedge_cost c h + 1 ≤ cost
  pub trees : (t : ℕ) → t < s.trees → (1 ≤ tree_cost c t) × (tree_cost c t ≤ cost)
  pub done : AreDoneBelow s c cost
  pub within : wrapped ≤ s.hedges
  pub before : (h : ℕ) → h < wrapped → hedge_cost c h + 1 < cost
  pub behind : (h : ℕ) → wrapped ≤ h → h < s.hedges → hedge_cost c h + 1 ≡ cost
  pub count : length starts ≡ cost + 1
  pub begun : AreStarts s c starts

-- before trees are tried behind the first lists of trees, at a cost up to 2,000 that is greater than theirs
pub record IsLevel (cost : ℕ) (s : Held) (c : Closed) (starts : List ℕ) (first : ℕ) : Type 0 where
  pub near : cost ≤ MOST_SHOWN_NODES
  pub within : first ≤ s.hedges
  pub lower : (h : ℕ) → h < first → hedge_cost c h < cost
  pub count : length starts ≡ cost + 2
  pub begun : AreStarts s c starts

-- among costs past 2,000: all that costs less was tried, and all that is made of the first lists of trees
pub record IsFar (most : ℕ) (s : Held) (c : Closed) (starts : List ℕ) (hedge : ℕ) : Type 0 where
  pub kept : IsKept s c
  pub few : AreFew s c most
  pub up_to : AreUpTo s c far_cost
  pub done : AreDoneBelow s c far_cost
  pub before : AreDoneBefore s c hedge
  pub count : length starts ≡ far_cost + 1
  pub begun : AreStarts s c starts

-- everything was tried, and no more than so many are kept
pub record IsWhole (most : ℕ) (s : Held) (c : Closed) : Type 0 where
  pub kept : IsKept s c
  pub few : AreFew s c most
  pub done : AreAllDone s c

-- the list of no tree is kept, and no more
pub record IsNoneKept (most : ℕ) (s : Held) (c : Closed) : Type 0 where
  pub kept : IsKept s c
  pub hedges : s.hedges ≤ most
  pub trees : s.trees ≡ 0
  pub up_to : AreUpTo s c 0
  pub done : IsNoneDone s c

-- the list of no tree and the text are kept, and no more
pub record IsBegun (most : ℕ) (s : Held) (c : Closed) : Type 0 where
  pub kept : IsKept s c
  pub few : AreFew s c most
  pub hedges : (h : ℕ) → h < s.hedges → hedge_cost c h ≡ 0
  pub trees : (t : ℕ) → t < s.trees → tree_cost c t ≡ 1
  pub none : IsNoneDone s c
  pub text : IsTextDone s c
