-- The spots of a stylesheet: its rules, its named bodies and the branches of what it chooses from. Each kind is numbered from 1 in the order of the stylesheet: branches
-- through the bodies of the rules and then the named ones, an outer one before those inside it. Rules that share a body have branches of their own.
use Rattle.std.specs.Prelude.{ℕ, zero, suc, ◌+◌, List, [], ◌∷◌, ◌++◌, length, map, Bool, true, false, ◌&&◌, if◌then◌else◌, nat_eq, int_lt, Option, None, Some}
use Rattle.tc_model.specs.Chains.{Chain}
use Rattle.tc_model.specs.Sheets.{Body, no_instruction, put_text, put_element, copy, apply, call, for_each, value, value_of_self, choose, Branches, otherwise, branch, Rule, Sheet}
use Rattle.tc_model.specs.Paths.{fits}

pub data Spot : Type 0 where
  a_rule : ℕ → Spot
  a_named_body : ℕ → Spot
  a_branch : ℕ → Spot

abbrev pub same_spot : Spot → Spot → Bool
same_spot (a_rule i) (a_rule j) = nat_eq i j
same_spot (a_rule i) (a_named_body j) = false
same_spot (a_rule i) (a_branch j) = false
same_spot (a_named_body i) (a_rule j) = false
same_spot (a_named_body i) (a_named_body j) = nat_eq i j
same_spot (a_named_body i) (a_branch j) = false
same_spot (a_branch i) (a_rule j) = false
same_spot (a_branch i) (a_named_body j) = false
same_spot (a_branch i) (a_branch j) = nat_eq i j

-- no instruction
abbrev pub is_nothing : Body → Bool
is_nothing no_instruction = true
is_nothing (put_text x b) = false
is_nothing (put_element n inner b) = false
is_nothing (copy inner b) = false
is_nothing (apply p m b) = false
is_nothing (call n b) = false
is_nothing (value p b) = false
is_nothing (value_of_self b) = false
is_nothing (choose x b) = false
is_nothing (for_each e p inner b) = false

abbrev mutual
  -- how many branches stand in a body, at any depth
  pub branches_of : Body → ℕ
  branches_of no_instruction = 0
  branches_of (put_text x b) = branches_of b
  branches_of (put_element n inner b) = branches_of inner + branches_of b
  branches_of (copy inner b) = branches_of inner + branches_of b
  branches_of (apply p m b) = branches_of b
  branches_of (call n b) = branches_of b
  branches_of (value p b) = branches_of b
  branches_of (value_of_self b) = branches_of b
  branches_of (choose x b) = branches_in x + branches_of b
  branches_of (for_each e p inner b) = branches_of inner + branches_of b

  -- an `otherwise` without instructions is none
  pub branches_in : Branches → ℕ
  branches_in (otherwise b) = (if is_nothing b then 0 else 1) + branches_of b
  branches_in (branch t b x) = 1 + branches_of b + branches_in x

abbrev mutual
  -- how many for-each instructions
  pub eaches_of : Body → ℕ
  eaches_of no_instruction = 0
  eaches_of (put_text x b) = eaches_of b
  eaches_of (put_element n inner b) = eaches_of inner + eaches_of b
  eaches_of (copy inner b) = eaches_of inner + eaches_of b
  eaches_of (apply p m b) = eaches_of b
  eaches_of (call n b) = eaches_of b
  eaches_of (value p b) = eaches_of b
  eaches_of (value_of_self b) = eaches_of b
  eaches_of (choose x b) = eaches_in x + eaches_of b
  eaches_of (for_each e p inner b) = 1 + eaches_of inner + eaches_of b

  pub eaches_in : Branches → ℕ
  eaches_in (otherwise b) = eaches_of b
  eaches_in (branch t b x) = eaches_of b + eaches_in x

-- a rule or a named body with its number, that of its first branch, and, counted from 0, that of its first for-each
pub record NumberedRule : Type 0 where
  pub number : ℕ
  pub branches : ℕ
  pub eaches : ℕ
  pub rule : Rule

pub record NumberedBody : Type 0 where
  pub number : ℕ
  pub branches : ℕ
  pub eaches : ℕ
  pub body : Body

-- from these numbers on
abbrev pub rules_from : ℕ → ℕ → ℕ → List Rule → List NumberedRule
rules_from k n e [] = []
rules_from k n e (r ∷ rs) = record { number = k; branches = n; eaches = e; rule = r } ∷ rules_from (k + 1) (n + branches_of r.body) (e + eaches_of r.body) rs

abbrev pub bodies_from : ℕ → ℕ → ℕ → List Body → List NumberedBody
bodies_from k n e [] = []
bodies_from k n e (b ∷ bs) = record { number = k; branches = n; eaches = e; body = b } ∷ bodies_from (k + 1) (n + branches_of b) (e + eaches_of b) bs

-- how many branches and for-each instructions stand in bodies one after the other
abbrev pub branches_of_all : List Body → ℕ
branches_of_all [] = 0
branches_of_all (b ∷ bs) = branches_of b + branches_of_all bs

abbrev pub eaches_of_all : List Body → ℕ
eaches_of_all [] = 0
eaches_of_all (b ∷ bs) = eaches_of b + eaches_of_all bs

abbrev pub rule_bodies : Sheet → List Body
rule_bodies s = map (λ r. r.body) s.rules

abbrev pub numbered_rules : Sheet → List NumberedRule
numbered_rules s = rules_from 1 1 0 s.rules

abbrev pub numbered_bodies : Sheet → List NumberedBody
numbered_bodies s = bodies_from 1 (1 + branches_of_all (rule_bodies s)) (eaches_of_all (rule_bodies s)) s.named

-- the numbers from 1 to this one
abbrev pub up_to : ℕ → List ℕ
up_to zero = []
up_to (suc n) = up_to n ++ (n + 1) ∷ []

-- rules, then named bodies, then branches
abbrev pub spots_of : Sheet → List Spot
spots_of s = map a_rule (up_to (length s.rules)) ++ (map a_named_body (up_to (length s.named)) ++ map a_branch (up_to (branches_of_all (rule_bodies s) + branches_of_all s.named)))

-- a rule, where it fits, before the best of those that come later
abbrev pub better_numbered : Bool → NumberedRule → Option NumberedRule → Option NumberedRule
better_numbered fits_here r None = if fits_here then Some r else None
better_numbered fits_here r (Some later) = if fits_here && int_lt later.rule.priority r.rule.priority then Some r else Some later

-- the rule of a node in a mode, with its numbers: of those that fit, the last of greatest priority (XSLT 1.0, 5.5)
abbrev pub numbered_rule_of : List NumberedRule → ℕ → Chain → Option NumberedRule
numbered_rule_of [] m c = None
numbered_rule_of (r ∷ rs) m c = better_numbered (nat_eq r.rule.mode m && fits r.rule.pattern c) r (numbered_rule_of rs m c)
