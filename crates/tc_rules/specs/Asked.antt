-- What contracts see of what is asked of rules, and of their answers.
use Rattle.std.specs.Prelude.{ℕ, Option, None, Some}
use Rattle.tc_model.specs.Letters as l
use Rattle.tc_rules.specs.declared.rules.Kind.{Kind}
use Rattle.tc_rules.specs.declared.rules.Kind.TheVariants.{Elem, Text}
use Rattle.tc_rules.specs.declared.rules.Found.{Found}
use Rattle.tc_rules.specs.declared.rules.Found.TheVariants.{Rule, BuiltIn}
use Rattle.tc_rules.specs.declared.rules.Marks.{Marks}

abbrev pub kind : Kind → l.Kind
kind (Elem k) = l.of_symbol k.0
kind Text = l.of_text

-- a letter
abbrev pub letter : Kind → Marks → l.Letter
letter k marks = record { kind = kind k; marks = marks.0 }

-- the number of the rule, or none where a built-in rule is meant
abbrev pub found : Found → Option ℕ
found (Rule i) = Some i
found BuiltIn = None
