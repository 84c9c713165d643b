-- What contracts see of connectors, suffixes and of what begins a primary.
use Rattle.std.specs.Prelude.{◌≡◌, List, [], ◌∷◌, None, Some, codes}
use Rattle.tc_model.specs.CompactSyntaxTokens.{Word, a_name, mark, Token}
use Rattle.tc_model.specs.CompactSyntaxNames.{identifier}
use Rattle.tc_model.specs.CompactSyntaxPatterns as p
use Rattle.tc_rnc.specs.declared.patterns.Connector.{Connector}
use Rattle.tc_rnc.specs.declared.patterns.Connector.TheVariants as connectors
use Rattle.tc_rnc.specs.declared.patterns.Suffix.{Suffix}
use Rattle.tc_rnc.specs.declared.patterns.Suffix.TheVariants as suffixes
use Rattle.tc_rnc.specs.declared.patterns.Begin.{Begin}
use Rattle.tc_rnc.specs.declared.patterns.Begin.TheVariants as begins

abbrev pub connector : Connector → p.Connector
connector connectors.Comma = p.comma
connector connectors.Bar = p.bar
connector connectors.Ampersand = p.ampersand

abbrev pub suffix : Suffix → p.Suffix
suffix suffixes.QuestionMark = p.question_mark
suffix suffixes.Asterisk = p.asterisk
suffix suffixes.PlusSign = p.plus_sign

-- no primary that is read begins with this word
pub record BeginsNone (w : Word) : Type 0 where
  pub no_element : w ≡ a_name (codes "element") → ⊥
  pub no_attribute : w ≡ a_name (codes "attribute") → ⊥
  pub no_mixed : w ≡ a_name (codes "mixed") → ⊥
  pub no_empty : w ≡ a_name (codes "empty") → ⊥
  pub no_text : w ≡ a_name (codes "text") → ⊥
  pub no_not_allowed : w ≡ a_name (codes "notAllowed") → ⊥
  pub no_parenthesis : w ≡ mark 0x28 → ⊥
  pub no_reference : identifier w ≡ None

-- which primary begins with this word
abbrev pub BeginsPrimary : Begin → Word → Type 0
BeginsPrimary begins.Element w = w ≡ a_name (codes "element")
BeginsPrimary begins.Attribute w = w ≡ a_name (codes "attribute")
BeginsPrimary begins.Mixed w = w ≡ a_name (codes "mixed")
BeginsPrimary begins.Empty w = w ≡ a_name (codes "empty")
BeginsPrimary begins.Text w = w ≡ a_name (codes "text")
BeginsPrimary begins.NotAllowed w = w ≡ a_name (codes "notAllowed")
BeginsPrimary begins.Parenthesis w = w ≡ mark 0x28
BeginsPrimary (begins.Reference n) w = identifier w ≡ Some n.now
BeginsPrimary begins.Other w = BeginsNone w

-- no primary that is read begins here
abbrev pub BeginsNoneRead : List Token → Type 0
BeginsNoneRead [] = Unit {0}
BeginsNoneRead (t ∷ tokens) = BeginsNone t.word
