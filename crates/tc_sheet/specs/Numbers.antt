-- Templates with numbers for modes, named templates and for-eaches, by the lists of modes and names.
use Rattle.std.specs.Borrow.{Bor}
use Rattle.std.specs.Prelude.{◌≡◌, ◌+◌, ◌++◌, ℕ, List, map, if◌then◌else◌}
use Rattle.tc_model.specs.Names.{ExpandedName}
use Rattle.tc_model.specs.PathTextPhrases.{Alternative}
use Rattle.tc_model.specs.Views.{body}
use Rattle.tc_model.specs.Sheets.{Body, Rule}
use Rattle.tc_model.specs.declared.sheet.Instr.{Instr}
use Rattle.tc_model.specs.SheetTextTrees.{Template, makes_rules}
use Rattle.tc_model.specs.SheetText.{NumberedTemplate, eaches_in, mode_number, numbered, one_name}

-- bodies in an arena
abbrev pub bodies : List (Bor (List Instr)) → List Body
bodies bs = map (λ b. body b.now) bs

-- a rule of an alternative
abbrev pub rule_from : ℕ → Body → Alternative → Rule
rule_from mode b a = record { mode = mode; pattern = a.pattern; priority = a.priority; body = b }

-- how many for-eaches stand in a template, if it makes rules, and if it makes none
abbrev pub eaches_with_rules : Template → ℕ
eaches_with_rules t = if makes_rules t then eaches_in t.body else 0

abbrev pub eaches_without : Template → ℕ
eaches_without t = if makes_rules t then 0 else eaches_in t.body

-- a template with its first number, where those of rules go on at the one and others at the other
abbrev pub numbered_template : ℕ → ℕ → Template → NumberedTemplate
numbered_template in_rules others t = record { template = t; first = if makes_rules t then in_rules else others }

module _ (modes names : List ExpandedName) where
  abbrev pub body_with : NumberedTemplate → Body
  body_with t = numbered modes names t.first t.template.body

  abbrev pub rules_with : NumberedTemplate → List Rule
  rules_with t = map (rule_from (mode_number modes names t.template.mode) (body_with t)) t.template.alternatives

  abbrev pub named_with : NumberedTemplate → List Body
  named_with t = map (λ n. body_with t) (one_name t.template.name)

-- a template's body with numbers, and the next numbers of for-eaches in rules and in others behind it
pub record IsNumberedBody (modes names : List ExpandedName) (t : Template) (b : Body) (old_in new_in old_others new_others : ℕ) : Type 0 where
  pub is_body : b ≡ body_with modes names (numbered_template old_in old_others t)
  pub counted_rules : new_in ≡ old_in + eaches_with_rules t
  pub counted_others : new_others ≡ old_others + eaches_without t

-- a template that is put behind the rules and the named bodies, and the next numbers of for-eaches
pub record IsPut (modes names : List ExpandedName) (t : Template) (old_rules new_rules : List Rule) (old_named new_named : List Body) (old_in new_in old_others new_others : ℕ) : Type 0 where
  pub rules : new_rules ≡ old_rules ++ rules_with modes names (numbered_template old_in old_others t)
  pub named : new_named ≡ old_named ++ named_with modes names (numbered_template old_in old_others t)
  pub counted_rules : new_in ≡ old_in + eaches_with_rules t
  pub counted_others : new_others ≡ old_others + eaches_without t
