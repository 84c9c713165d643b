-- Bodies of rules in which a run of instructions reads nothing: what the run puts is one set on every node.
use Rattle.std.specs.Prelude.{◌≡◌, ◌≤◌, ℕ, List, map, get_or, Option, Some, slice_get}
use Rattle.tc_model.specs.Sheets.{Sheet, Rule, Body, no_instruction, put_text, put_element, copy, apply, call, for_each, value, value_of_self, choose}
use Rattle.tc_model.specs.Views as see
use Rattle.tc_rules.specs.Parts.{IsPart}
use Rattle.tc_rows.specs.Triples.{Triple, sheet, outputs}
use Rattle.tc_rows.specs.PairSets.{HaveSamePairs, product}
use Rattle.tc_beh.specs.Heights.{depth_in}
use Rattle.tc_beh.specs.Places.{IsPlaceIn, kind_of, below_of, called_by}
use Rattle.tc_beh.specs.Putting.{has, put_pairs}
use Rattle.tc_beh.specs.declared.bodies.Place.{Place}
use Rattle.tc_beh.specs.declared.runs.Run.{Run}

-- texts alone, and elements with such inside
abbrev pub IsConstant : Body → Type 0
IsConstant no_instruction = Unit {0}
IsConstant (put_text s b) = IsConstant b
IsConstant (put_element n inner b) = IsConstant inner × IsConstant b
IsConstant (copy inner b) = ⊥
IsConstant (apply p m b) = ⊥
IsConstant (call n b) = ⊥
IsConstant (value p b) = ⊥
IsConstant (value_of_self b) = ⊥
IsConstant (choose y b) = ⊥
IsConstant (for_each e p inner b) = ⊥

-- a body puts on every node what stands before its run, then the set of the run, and then what stands behind
pub record IsRun (x : Triple) (b : Body) (r : Run) : Type 0 where
  pub before : IsPart (sheet x) (see.body r.before.now)
  pub behind : IsPart (sheet x) (see.body r.behind.now)
  pub before_depth : depth_in (see.body r.before.now) ≤ depth_in b
  pub behind_depth : depth_in (see.body r.behind.now) ≤ depth_in b
  pub size : r.set.size ≡ outputs x
  pub pairs : (p : Place) → IsPlaceIn x p → HaveSamePairs
      (put_pairs x (kind_of p.node) (below_of x p) (called_by p) b)
      (product (put_pairs x (kind_of p.node) (below_of x p) (called_by p) (see.body r.before.now))
      (product (has r.set) (put_pairs x (kind_of p.node) (below_of x p) (called_by p) (see.body r.behind.now))))

-- the body of a rule
abbrev pub rule_body : Sheet → ℕ → Body
rule_body s n = get_or (map (λ (r : Rule). r.body) s.rules) n no_instruction

-- each is one of the body of the rule of its place
abbrev pub AreRuns : Triple → List (Option Run) → Type 0
AreRuns x rs = (n : ℕ) (r : Run) → slice_get rs n ≡ Some (Some r) → IsRun x (rule_body (sheet x) n) r

-- a place at which bodies of rules may be put: its runs are those of the triple
pub record IsRulePlaceIn (x : Triple) (p : Place) : Type 0 where
  pub place : IsPlaceIn x p
  pub runs : AreRuns x p.runs.now

abbrev pub IsRulePlace : Place → Type 0
IsRulePlace p = (x : Triple) × IsRulePlaceIn x p
