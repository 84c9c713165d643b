-- What a stylesheet's raw tree means: `SheetText raw sheet`. Its templates are read as they are written, and then modes, named templates and
-- for-each instructions are numbered.
use Rattle.std.specs.Prelude.{◌≡◌, ◌⊎◌, ℕ, ◌+◌, List, [], ◌∷◌, ◌++◌, length, map, filter, flat_map, Option, None, Some, All, Contains, if◌then◌else◌}
use Rattle.std.specs.List.{IsDistinct}
use Rattle.tc_model.specs.Names.{ExpandedName, same_name}
use Rattle.tc_model.specs.RawTrees.{RawTrees}
use Rattle.tc_model.specs.Numbered.{each_once, number_of}
use Rattle.tc_model.specs.Sheets.{Body, no_instruction, put_text, put_element, copy, apply, call, for_each, value, value_of_self, choose, Branches, otherwise, branch, Rule, Sheet}
use Rattle.tc_model.specs.SheetTextTrees.{WrittenBody, w_nothing, w_text, w_element, w_copy, w_apply, w_call, w_value, w_self, w_choose, w_each, WrittenBranches, w_otherwise, w_branch, Template, makes_rules, is_used}
use Rattle.tc_model.specs.SheetTextPhrases.{IsStylesheet}

abbrev pub one_name : Option ExpandedName → List ExpandedName
one_name None = []
one_name (Some n) = n ∷ []

abbrev mutual
  -- the modes of a body, in the order of the text
  pub modes_in_body : WrittenBody → List ExpandedName
  modes_in_body w_nothing = []
  modes_in_body (w_text s b) = modes_in_body b
  modes_in_body (w_element n inner b) = modes_in_body inner ++ modes_in_body b
  modes_in_body (w_copy inner b) = modes_in_body inner ++ modes_in_body b
  modes_in_body (w_apply p mode b) = one_name mode ++ modes_in_body b
  modes_in_body (w_call n p b) = modes_in_body b
  modes_in_body (w_value p b) = modes_in_body b
  modes_in_body (w_self b) = modes_in_body b
  modes_in_body (w_choose x b) = modes_in_branches x ++ modes_in_body b
  modes_in_body (w_each p inner b) = modes_in_body inner ++ modes_in_body b

  pub modes_in_branches : WrittenBranches → List ExpandedName
  modes_in_branches (w_otherwise b) = modes_in_body b
  modes_in_branches (w_branch t b x) = modes_in_body b ++ modes_in_branches x

-- a call, with the place of its element
pub record Call : Type 0 where
  pub name : ExpandedName
  pub place : ℕ

abbrev mutual
  pub calls_in_body : WrittenBody → List Call
  calls_in_body w_nothing = []
  calls_in_body (w_text s b) = calls_in_body b
  calls_in_body (w_element n inner b) = calls_in_body inner ++ calls_in_body b
  calls_in_body (w_copy inner b) = calls_in_body inner ++ calls_in_body b
  calls_in_body (w_apply p mode b) = calls_in_body b
  calls_in_body (w_call n p b) = record { name = n; place = p } ∷ calls_in_body b
  calls_in_body (w_value p b) = calls_in_body b
  calls_in_body (w_self b) = calls_in_body b
  calls_in_body (w_choose x b) = calls_in_branches x ++ calls_in_body b
  calls_in_body (w_each p inner b) = calls_in_body inner ++ calls_in_body b

  pub calls_in_branches : WrittenBranches → List Call
  calls_in_branches (w_otherwise b) = calls_in_body b
  calls_in_branches (w_branch t b x) = calls_in_body b ++ calls_in_branches x

abbrev mutual
  -- how many for-each instructions there are
  pub eaches_in : WrittenBody → ℕ
  eaches_in w_nothing = 0
  eaches_in (w_text s b) = eaches_in b
  eaches_in (w_element n inner b) = eaches_in inner + eaches_in b
  eaches_in (w_copy inner b) = eaches_in inner + eaches_in b
  eaches_in (w_apply p mode b) = eaches_in b
  eaches_in (w_call n p b) = eaches_in b
  eaches_in (w_value p b) = eaches_in b
  eaches_in (w_self b) = eaches_in b
  eaches_in (w_choose x b) = eaches_in_branches x + eaches_in b
  eaches_in (w_each p inner b) = 1 + eaches_in inner + eaches_in b

  pub eaches_in_branches : WrittenBranches → ℕ
  eaches_in_branches (w_otherwise b) = eaches_in b
  eaches_in_branches (w_branch t b x) = eaches_in b + eaches_in_branches x

-- the modes but the default one and the named templates, each numbered in this order
module _ (modes names : List ExpandedName) where
  -- the default mode is 0
  abbrev pub mode_number : Option ExpandedName → ℕ
  mode_number None = 0
  mode_number (Some n) = 1 + number_of same_name n modes

  abbrev mutual
    -- a body, its for-each instructions numbered from this number on, each before those inside it
    pub numbered : ℕ → WrittenBody → Body
    numbered k w_nothing = no_instruction
    numbered k (w_text s b) = put_text s (numbered k b)
    numbered k (w_element n inner b) = put_element n (numbered k inner) (numbered (k + eaches_in inner) b)
    numbered k (w_copy inner b) = copy (numbered k inner) (numbered (k + eaches_in inner) b)
    numbered k (w_apply p mode b) = apply p (mode_number mode) (numbered k b)
    numbered k (w_call n p b) = call (number_of same_name n names) (numbered k b)
    numbered k (w_value p b) = value p (numbered k b)
    numbered k (w_self b) = value_of_self (numbered k b)
    numbered k (w_choose x b) = choose (numbered_branches k x) (numbered (k + eaches_in_branches x) b)
    numbered k (w_each p inner b) = for_each k p (numbered (k + 1) inner) (numbered (k + 1 + eaches_in inner) b)

    pub numbered_branches : ℕ → WrittenBranches → Branches
    numbered_branches k (w_otherwise b) = otherwise (numbered k b)
    numbered_branches k (w_branch t b x) = branch t (numbered k b) (numbered_branches (k + eaches_in b) x)

-- a template with the number of its first for-each instruction
pub record NumberedTemplate : Type 0 where
  pub template : Template
  pub first : ℕ

abbrev pub eaches_of : List Template → ℕ
eaches_of [] = 0
eaches_of (t ∷ ts) = eaches_in t.body + eaches_of ts

-- the next number in a template with rules, and in one without
abbrev pub first_eaches : ℕ → ℕ → List Template → List NumberedTemplate
first_eaches in_rules others [] = []
first_eaches in_rules others (t ∷ ts) =
    if makes_rules t
    then (record { template = t; first = in_rules } ∷ first_eaches (in_rules + eaches_in t.body) others ts)
    else (record { template = t; first = others } ∷ first_eaches in_rules (others + eaches_in t.body) ts)

-- the templates that can be used
module _ (templates : List Template) where
  abbrev pub modes_of : List ExpandedName
  modes_of = each_once same_name (flat_map (λ t. one_name t.mode ++ modes_in_body t.body) templates)

  abbrev pub names_of : List ExpandedName
  names_of = flat_map (λ t. one_name t.name) templates

  -- for-each instructions are numbered through the bodies of rules, and then through those of other templates
  abbrev pub numbered_templates : List NumberedTemplate
  numbered_templates = first_eaches 0 (eaches_of (filter makes_rules templates)) templates

  abbrev pub body_of : NumberedTemplate → Body
  body_of t = numbered modes_of names_of t.first t.template.body

  -- a rule for each alternative, with one body
  abbrev pub rules_of : NumberedTemplate → List Rule
  rules_of t = map (λ a. record { mode = mode_number modes_of names_of t.template.mode; pattern = a.pattern; priority = a.priority; body = body_of t }) t.template.alternatives

  abbrev pub named_of : NumberedTemplate → List Body
  named_of t = map (λ n. body_of t) (one_name t.template.name)

  abbrev pub sheet_of : Sheet
  sheet_of = record {
    modes = 1 + length modes_of;
    eaches = eaches_of templates;
    rules = flat_map rules_of numbered_templates;
    named = flat_map named_of numbered_templates;
  }

  -- a template of this name exists
  abbrev pub IsDefined : Call → Type 0
  IsDefined c = Contains names_of c.name

  -- the template of a name calls one, perhaps by way of others
  pub data Reaches : ExpandedName → ExpandedName → Type 0 where
    calls : {t : Template} {n : ExpandedName} {c : Call} → Contains templates t → t.name ≡ Some n → Contains (calls_in_body t.body) c → Reaches n c.name
    calls_by : {n m k : ExpandedName} → Reaches n m → Reaches m k → Reaches n k

-- a call, with the template in which it stands
pub record StandingCall : Type 0 where
  pub template : Template
  pub call : Call

abbrev pub calls_of : List Template → List StandingCall
calls_of templates = flat_map (λ t. map (λ c. record { template = t; call = c }) (calls_in_body t.body)) templates

abbrev pub IsUndefined : List Template → StandingCall → Type 0
IsUndefined templates c = IsDefined templates c.call → ⊥

-- a call in a named template: of that template, or of one that leads back to it
-- That calls have no cycle is said here by what reaches itself, since the first such call is refused by its
-- name and place. A well-formed stylesheet says the same by an unfolding: each named body becomes a body
-- without calls. That the one gives the other is proved (`law_of_sheets` of `tc_sheet`).
abbrev pub IsLoop : List Template → StandingCall → Type 0
IsLoop templates c = (n : ExpandedName) × (c.template.name ≡ Some n) × ((c.call.name ≡ n) ⊎ Reaches templates c.call.name n)

-- The stylesheet of the templates that can be used. A raw tree means one at most, also where two templates have one name, of which calls take the
-- first, and where a call is of no template or leads back.
pub record SheetMeans (raw : RawTrees) (sheet : Sheet) : Type 0 where
  pub templates : List Template
  pub written : IsStylesheet raw templates
  pub means : sheet ≡ sheet_of (filter is_used templates)

-- A stylesheet without a fault, and what it means. No two templates of the whole text have one name (6); all calls in those that can be used are
-- to a template of that name (6), and none leads back to the template in which it stands (this project's choice: recursive named templates aren't
-- read, also where they would end).
pub record SheetText (raw : RawTrees) (sheet : Sheet) : Type 0 where
  pub templates : List Template
  pub written : IsStylesheet raw templates
  pub once : IsDistinct same_name (names_of templates)
  pub defined : All (λ c. IsDefined (filter is_used templates) c.call) (calls_of (filter is_used templates))
  pub no_loop : All (λ c. IsLoop (filter is_used templates) c → ⊥) (calls_of (filter is_used templates))
  pub means : sheet ≡ sheet_of (filter is_used templates)

-- the first of a list for which this holds
pub record IsFirst {X : Type 0} (P : X → Type 0) (xs : List X) (x : X) : Type 0 where
  pub before : List X
  pub after : List X
  pub parts : xs ≡ before ++ (x ∷ after)
  pub not_before : All (λ y. P y → ⊥) before
  pub holds : P x

pub data SheetFault : Type 0 where
  undefined : SheetFault
  call_loop : SheetFault

-- The faults of a stylesheet that is read as it is written: the first call, in the order of the text, of a template that doesn't exist; where there
-- is none, the first call in a named template that leads back to it.
pub data SheetFails (raw : RawTrees) : SheetFault → ℕ → Type 0 where
  of_undefined : {templates : List Template} {c : StandingCall} → IsStylesheet raw templates → IsDistinct same_name (names_of templates)
      → IsFirst (IsUndefined (filter is_used templates)) (calls_of (filter is_used templates)) c → SheetFails raw undefined c.call.place
  of_loop : {templates : List Template} {c : StandingCall} → IsStylesheet raw templates → IsDistinct same_name (names_of templates)
      → All (λ d. IsDefined (filter is_used templates) d.call) (calls_of (filter is_used templates))
      → IsFirst (IsLoop (filter is_used templates)) (calls_of (filter is_used templates)) c → SheetFails raw call_loop c.call.place
