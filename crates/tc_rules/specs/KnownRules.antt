-- The rules that were found for letters.
use Rattle.std.specs.Prelude.{ℕ, List, All, IfSome}
use Rattle.tc_model.specs.Letters.{IsLetter}
use Rattle.tc_model.specs.Numberings.{predicates_of}
use Rattle.tc_model.specs.RuleStates.{IsRuleOf, fits_below}
use Rattle.tc_model.specs.Symbols.{Mention}
use Rattle.tc_rules.specs.Asked.{found, letter}
use Rattle.tc_rules.specs.RulesView.{RulesView, ancestor}
use Rattle.tc_rules.specs.declared.known_rules.Known.{Known}
use Rattle.tc_rules.specs.declared.known_rules.KnownRules.{KnownRules}
use Rattle.tc_rules.specs.declared.rules.Found.{Found}
use Rattle.tc_rules.specs.declared.rules.Kind.{Kind}
use Rattle.tc_rules.specs.declared.rules.Marks.{Marks}

module _ (symbols : List Mention) (v : RulesView) where
  -- if it is a letter of these symbols and predicates: the rule in a mode of its node, by the ancestor state of the node above it
  abbrev pub IsFound : ℕ → ℕ → Kind → Marks → Found → Type 0
  IsFound mode q kind marks f =
      IsLetter symbols (predicates_of v.sheet) (letter kind marks) → IsRuleOf v.sheet.rules mode (fits_below symbols (predicates_of v.sheet) (ancestor v q) (letter kind marks)) (found f)

  abbrev pub IsKnown : Known → Type 0
  IsKnown k = IsFound k.mode k.ancestor k.kind k.marks k.found

  -- what is remembered was found
  pub record AreKnown (k : KnownRules) : Type 0 where
    pub found : All (λ o. IfSome o IsKnown) k.places.items
