-- How many rows there are of live trees and of live lists of trees, and how many sets of pairs in them; and what a stylesheet may have for its rows to be worked out.
-- A body, a branch or a named template is no instruction; the instruction that holds it is. Limits are said
-- by more different rows than so many (`Pass`), which asks for no count.
use Rattle.std.specs.Prelude.{◌≡◌, ◌<◌, ◌⊎◌, ◌+◌, ℕ, max, List, length, Some, slice_get, All}
use Rattle.std.specs.List.{Contains}
use Rattle.tc_model.specs.Trees.{Trees}
use Rattle.tc_model.specs.Chains.{Tree}
use Rattle.tc_model.specs.LiveTrees.{IsLiveTree, IsLiveHedge}
use Rattle.tc_model.specs.Sheets.{Rule, Body, Sheet, CallFreeBody, p_done, p_text, p_element, p_copy, p_apply, p_call, p_value, p_self, p_choose, p_each, CallFreeBranches, p_otherwise, p_branch, Inlines}
use Rattle.tc_rows.specs.Triples.{Triple, entries, looks}
use Rattle.tc_rows.specs.Rows.{HedgeRow, TreeRow, IsRowOfHedge, IsRowOfTree}

-- no two places hold the same
abbrev pub AreDifferent : {R : Type 0} → List R → Type 0
AreDifferent {R} rows = (i j : ℕ) (r : R) → slice_get rows i ≡ Some r → slice_get rows j ≡ Some r → i ≡ j

-- there are so many of them
pub record Counts {R : Type 0} (IsOne : R → Type 0) (n : ℕ) : Type 0 where
  pub all : List R
  pub different : AreDifferent all
  pub each : (r : R) → IsOne r → Contains all r
  pub no_other : (r : R) → Contains all r → IsOne r
  pub count : length all ≡ n

-- there are more than so many
pub record Pass {R : Type 0} (IsOne : R → Type 0) (most : ℕ) : Type 0 where
  pub some : List R
  pub different : AreDifferent some
  pub each : All IsOne some
  pub more : most < length some

module _ (x : Triple) where
  abbrev pub IsRowOfLiveTree : TreeRow → Type 0
  IsRowOfLiveTree r = (t : Tree) × IsLiveTree x.input t × IsRowOfTree x t r

  abbrev pub IsRowOfLiveHedge : HedgeRow → Type 0
  IsRowOfLiveHedge r = (h : Trees) × IsLiveHedge x.input h × IsRowOfHedge x h r

  -- an entry of such a row
  abbrev pub IsOutput : List (ℕ × ℕ) → Type 0
  IsOutput pairs = ((r : TreeRow) × IsRowOfLiveTree r × Contains r.entries pairs) ⊎ ((r : HedgeRow) × IsRowOfLiveHedge r × Contains r.entries pairs)

-- how many instructions of a body stand within one another, those of a body that is called within its call; a choose is one, and its branches are none
abbrev mutual
  pub instructions_within : CallFreeBody → ℕ
  instructions_within p_done = 0
  instructions_within (p_text s b) = max 1 (instructions_within b)
  instructions_within (p_element n inner b) = max (instructions_within inner + 1) (instructions_within b)
  instructions_within (p_copy inner b) = max (instructions_within inner + 1) (instructions_within b)
  instructions_within (p_apply p m b) = max 1 (instructions_within b)
  instructions_within (p_call inner b) = max (instructions_within inner + 1) (instructions_within b)
  instructions_within (p_value p b) = max 1 (instructions_within b)
  instructions_within (p_self b) = max 1 (instructions_within b)
  instructions_within (p_choose y b) = max (instructions_within_branches y + 1) (instructions_within b)
  instructions_within (p_each e p inner b) = max (instructions_within inner + 1) (instructions_within b)

  pub instructions_within_branches : CallFreeBranches → ℕ
  instructions_within_branches (p_otherwise b) = instructions_within b
  instructions_within_branches (p_branch t b y) = max (instructions_within b) (instructions_within_branches y)

-- a body of a rule, or a named one, be it called or not
abbrev pub IsBodyOf : Sheet → Body → Type 0
IsBodyOf s b = ((r : Rule) × Contains s.rules r × (r.body ≡ b)) ⊎ Contains s.named b

-- so many instructions and more stand within one another
abbrev pub PassCalls : Sheet → ℕ → Type 0
PassCalls s most = (b : Body) × (p : CallFreeBody) × IsBodyOf s b × Inlines s.named b p × (most < instructions_within p)

-- ancestor states by move states, and look states
abbrev pub PassEntries : Triple → ℕ → Type 0
PassEntries x most = most < entries x + looks x
