-- Which stylesheets are well-formed.
use Rattle.std.specs.Prelude.{◌≡◌, ◌≢◌, ◌<◌, ◌≤◌, ℕ, List, [], ◌∷◌, ◌++◌, length, All, Contains, flat_map}
use Rattle.tc_model.specs.Names.{IsChars, IsName, IsNamespaceName}
use Rattle.tc_model.specs.Sheets.{NodeTest, of_name, of_namespace, any_element, any_text, any_node, Steps, no_step, step, Path, no_alternative, alternative, Test, always, never, has, negated, all_of, any_of, Tests, no_test, test, MatchPattern, root_pattern, steps_pattern, Body, no_instruction, put_text, put_element, copy, apply, call, for_each, value, value_of_self, choose, Branches, otherwise, branch, Rule, Sheet, CallFreeBody, Inlines}

abbrev pub IsNodeTest : NodeTest → Type 0
IsNodeTest (of_name n) = IsName n
IsNodeTest (of_namespace uri) = IsNamespaceName uri
IsNodeTest any_element = Unit {0}
IsNodeTest any_text = Unit {0}
IsNodeTest any_node = Unit {0}

abbrev mutual
  -- names are lawful in all steps
  pub AreSteps : Steps → Type 0
  AreSteps no_step = Unit {0}
  AreSteps (step deep t when ss) = IsNodeTest t × IsTest when × AreSteps ss

  -- and no alternative is without a step
  pub IsPath : Path → Type 0
  IsPath no_alternative = Unit {0}
  IsPath (alternative ss p) = (ss ≢ no_step) × AreSteps ss × IsPath p

  pub IsTest : Test → Type 0
  IsTest always = Unit {0}
  IsTest never = Unit {0}
  IsTest (has p) = IsPath p
  IsTest (negated t) = IsTest t
  IsTest (all_of ts) = AreTests ts
  IsTest (any_of ts) = AreTests ts

  pub AreTests : Tests → Type 0
  AreTests no_test = Unit {0}
  AreTests (test t ts) = IsTest t × AreTests ts

-- not without a step
abbrev pub IsMatchPattern : MatchPattern → Type 0
IsMatchPattern root_pattern = Unit {0}
IsMatchPattern (steps_pattern ss) = (ss ≢ no_step) × AreSteps ss

module _ (s : Sheet) where
  abbrev mutual
    -- names and characters are lawful, and modes, named bodies and for-each instructions are those of the sheet
    pub IsBody : Body → Type 0
    IsBody no_instruction = Unit {0}
    IsBody (put_text x b) = IsChars x × IsBody b
    IsBody (put_element n inner b) = IsName n × IsBody inner × IsBody b
    IsBody (copy inner b) = IsBody inner × IsBody b
    IsBody (apply p m b) = IsPath p × (m < s.modes) × IsBody b
    IsBody (call n b) = (n < length s.named) × IsBody b
    IsBody (value p b) = IsPath p × IsBody b
    IsBody (value_of_self b) = IsBody b
    IsBody (choose x b) = AreBranches x × IsBody b
    IsBody (for_each e p inner b) = (e < s.eaches) × IsPath p × IsBody inner × IsBody b

    pub AreBranches : Branches → Type 0
    AreBranches (otherwise b) = IsBody b
    AreBranches (branch t b x) = IsTest t × IsBody b × AreBranches x

  pub record IsRule (r : Rule) : Type 0 where
    pub mode : r.mode < s.modes
    pub pattern : IsMatchPattern r.pattern
    pub body : IsBody r.body

pub record ForEach : Type 0 where
  pub number : ℕ
  pub path : Path
  pub body : Body

abbrev mutual
  -- the for-each instructions of a body, at any depth
  pub eaches_in : Body → List ForEach
  eaches_in no_instruction = []
  eaches_in (put_text x b) = eaches_in b
  eaches_in (put_element n inner b) = eaches_in inner ++ eaches_in b
  eaches_in (copy inner b) = eaches_in inner ++ eaches_in b
  eaches_in (apply p m b) = eaches_in b
  eaches_in (call n b) = eaches_in b
  eaches_in (value p b) = eaches_in b
  eaches_in (value_of_self b) = eaches_in b
  eaches_in (choose x b) = eaches_in_branches x ++ eaches_in b
  eaches_in (for_each e p inner b) = record { number = e; path = p; body = inner } ∷ (eaches_in inner ++ eaches_in b)

  pub eaches_in_branches : Branches → List ForEach
  eaches_in_branches (otherwise b) = eaches_in b
  eaches_in_branches (branch t b x) = eaches_in b ++ eaches_in_branches x

-- all for-each instructions of a sheet
abbrev pub eaches_of : Sheet → List ForEach
eaches_of s = flat_map (λ r. eaches_in r.body) s.rules ++ flat_map (λ b. eaches_in b) s.named

pub record IsSheet (s : Sheet) : Type 0 where
  -- the default mode
  pub modes : 1 ≤ s.modes
  pub rules : All (IsRule s) s.rules
  pub named : All (IsBody s) s.named
  -- calls have no cycle: each chain of calls ends
  pub calls : All (λ b. (p : CallFreeBody) × Inlines s.named b p) s.named
  -- those of one number are one, and there is one of each number
  pub same_eaches : (a b : ForEach) → Contains (eaches_of s) a → Contains (eaches_of s) b → a.number ≡ b.number → a ≡ b
  pub each_number : (i : ℕ) → i < s.eaches → (a : ForEach) × Contains (eaches_of s) a × (a.number ≡ i)
