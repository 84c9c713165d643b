-- What a certificate may hold: rows and outputs in the order of their lines, all different, within limits.
use Rattle.std.specs.Prelude.{ℕ, ◌<◌, ◌≤◌, List, length, map, All}
use Rattle.std.specs.Ordering.{nat_cmp, ordering_then}
use Rattle.std.specs.declared.cmp.Ordering.{Ordering}
use Rattle.std.specs.Cmp.Lexicographic.{slice_cmp}
use Rattle.std.specs.List.Sorted.{IsStrictlySortedBy}
use Rattle.tc_base.specs.declared.limits.TheConstants.{GREATEST_LIMIT, MOST_OUTPUTS}
use Rattle.tc_model.specs.declared.lists.TreeLine.{TreeLine}
use Rattle.tc_model.specs.declared.lists.HedgeLine.{HedgeLine}
use Rattle.tc_model.specs.declared.lists.CertData.{CertData}
use Rattle.tc_model.specs.CertificateLines.{pairs_line, tree_line, hedge_line}

-- a number of 32 bits
abbrev pub IsNumber : ℕ → Type 0
IsNumber n = n < 4294967296

-- the order of pairs: by their first numbers, and then by their second ones
abbrev pub pair_cmp : ℕ × ℕ → ℕ × ℕ → Ordering
pair_cmp p q = ordering_then (nat_cmp p.0 q.0) (nat_cmp p.1 q.1)

-- the pairs of an output
pub record ArePairs (ps : List (ℕ × ℕ)) : Type 0 where
  pub numbers : All (λ p. IsNumber p.0 × IsNumber p.1) ps
  pub ascending : IsStrictlySortedBy pair_cmp ps

-- numbers that ascend
pub record AreMembers (ns : List ℕ) : Type 0 where
  pub numbers : All IsNumber ns
  pub ascending : IsStrictlySortedBy nat_cmp ns

pub record IsFormedTree (t : TreeLine) : Type 0 where
  pub patterns : AreMembers t.patterns
  pub outs : All IsNumber t.outs
  pub looks : All (λ n. n ≤ 2) t.looks

pub record IsFormedHedge (h : HedgeLine) : Type 0 where
  pub states : AreMembers h.states
  pub outs : All IsNumber h.outs
  pub looks : All (λ n. n ≤ 2) h.looks

-- lines ascend by their bytes
abbrev pub AreOrdered : List (List ℕ) → Type 0
AreOrdered lines = IsStrictlySortedBy (slice_cmp nat_cmp) lines

pub record IsFormed (d : CertData) : Type 0 where
  pub few_outputs : length d.outputs ≤ MOST_OUTPUTS
  pub few_trees : length d.trees ≤ GREATEST_LIMIT
  pub few_hedges : length d.hedges ≤ GREATEST_LIMIT
  pub outputs : All ArePairs d.outputs
  pub trees : All IsFormedTree d.trees
  pub hedges : All IsFormedHedge d.hedges
  pub outputs_ordered : AreOrdered (map pairs_line d.outputs)
  pub trees_ordered : AreOrdered (map tree_line d.trees)
  pub hedges_ordered : AreOrdered (map hedge_line d.hedges)
