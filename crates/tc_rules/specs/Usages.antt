-- What stands in a stylesheet that tells of its predicates, moves, looks and for-each instructions, in its order.
use Rattle.std.specs.Prelude.{ℕ, ◌+◌, List, [], ◌∷◌, ◌++◌, flat_map}
use Rattle.tc_model.specs.Sheets.{Path, Test, MatchPattern, Body, no_instruction, put_text, put_element, copy, apply, call, for_each, value, value_of_self, choose, Branches, otherwise, branch, Rule, Sheet}
use Rattle.tc_model.specs.Numberings.{Move, predicates_in_path, predicates_in_test, predicates_in_pattern, looks_in_test}
use Rattle.tc_rules.specs.Eaches.{Each}

pub data Usage : Type 0 where
  of_pattern : MatchPattern → Usage
  of_test : Test → Usage
  of_value : Path → Usage
  of_apply : Path → ℕ → Usage
  of_each : ℕ → Path → Body → Usage

abbrev mutual
  -- each instruction's before those inside it, and in a branch that of the test before those of the body
  pub usages_in : Body → List Usage
  usages_in no_instruction = []
  usages_in (put_text x b) = usages_in b
  usages_in (put_element n inner b) = usages_in inner ++ usages_in b
  usages_in (copy inner b) = usages_in inner ++ usages_in b
  usages_in (apply p m b) = of_apply p m ∷ usages_in b
  usages_in (call n b) = usages_in b
  usages_in (value p b) = of_value p ∷ usages_in b
  usages_in (value_of_self b) = usages_in b
  usages_in (choose x b) = usages_in_branches x ++ usages_in b
  usages_in (for_each e p inner b) = of_each e p inner ∷ (usages_in inner ++ usages_in b)

  pub usages_in_branches : Branches → List Usage
  usages_in_branches (otherwise b) = usages_in b
  usages_in_branches (branch t b x) = of_test t ∷ (usages_in b ++ usages_in_branches x)

-- a rule's pattern before its body
abbrev pub usages_of_rules : List Rule → List Usage
usages_of_rules rules = flat_map (λ r. of_pattern r.pattern ∷ usages_in r.body) rules

abbrev pub usages_of : Sheet → List Usage
usages_of s = usages_of_rules s.rules ++ flat_map usages_in s.named

-- what a usage tells of
abbrev pub predicates_in_usage : Usage → List Test
predicates_in_usage (of_pattern p) = predicates_in_pattern p
predicates_in_usage (of_test t) = predicates_in_test t
predicates_in_usage (of_value p) = predicates_in_path p
predicates_in_usage (of_apply p m) = predicates_in_path p
predicates_in_usage (of_each e p b) = predicates_in_path p

abbrev pub looks_in_usage : Usage → List Path
looks_in_usage (of_pattern p) = []
looks_in_usage (of_test t) = looks_in_test t
looks_in_usage (of_value p) = p ∷ []
looks_in_usage (of_apply p m) = []
looks_in_usage (of_each e p b) = []

abbrev pub moves_in_usage : ℕ → Usage → List Move
moves_in_usage modes (of_pattern p) = []
moves_in_usage modes (of_test t) = []
moves_in_usage modes (of_value p) = []
moves_in_usage modes (of_apply p m) = record { path = p; mode = m } ∷ []
moves_in_usage modes (of_each e p b) = record { path = p; mode = modes + e } ∷ []

abbrev pub eaches_in_usage : Usage → List Each
eaches_in_usage (of_pattern p) = []
eaches_in_usage (of_test t) = []
eaches_in_usage (of_value p) = []
eaches_in_usage (of_apply p m) = []
eaches_in_usage (of_each e p b) = record { number = e; body = b } ∷ []
