-- What the texts of selects, values, patterns and tests mean where these prefixes are in scope (XSLT 1.0, 5.2, 5.4, 7.6.1, 8, 9, 11.3, which use XPath 1.0).
-- In each, parentheses and brackets together stand within one another at most 2,000 deep.
-- Selects of attributes alone are for `xsl:copy-of`: each alternative ends in an attribute step.
-- `@a|comment()` selects nothing either, but isn't one of them.
use Rattle.std.specs.Prelude.{ℕ, Bool, false, List, [], ◌∷◌}
use Rattle.tc_model.specs.RawTrees.{Bound}
use Rattle.tc_model.specs.Sheets.{Path, Test, Tests, Body, no_instruction, value, value_of_self}
use Rattle.tc_model.specs.PathTextTokens.{dot, Token, mark, Tokens, IsTooDeep}
use Rattle.tc_model.specs.PathTextPhrases.{SelectAt, AttributesAt, OrAt, disjunction, Alternative, PatternAt}

-- the tokens of a text form a phrase, and don't nest too deep
pub record Forms (IsPhrase : List Token → Type 0) (text : List ℕ) : Type 0 where
  pub tokens : List Token
  pub are_tokens : Tokens text tokens
  pub not_too_deep : IsTooDeep tokens → ⊥
  pub phrase : IsPhrase tokens

-- tokens that are a select, whose alternatives of attributes, comments and processing instructions select nothing
pub record IsSelect (scope : List Bound) (p : Path) (ts : List Token) : Type 0 where
  pub drops : Bool
  pub select : SelectAt scope ts p drops []

-- tokens that are a select of attributes alone
abbrev pub IsAttributes : List Bound → List Token → Type 0
IsAttributes scope ts = AttributesAt scope ts []

-- tokens that are a value: `.`, or a select without such an alternative
pub data IsValue (scope : List Bound) : Body → List Token → Type 0 where
  of_self : IsValue scope (value_of_self no_instruction) (mark dot ∷ [])
  of_path : {p : Path} {ts : List Token} → SelectAt scope ts p false [] → IsValue scope (value p no_instruction) ts

pub data IsTest (scope : List Bound) : Test → List Token → Type 0 where
  of_tests : {us : Tests} {ts : List Token} → OrAt scope ts us [] → IsTest scope (disjunction us) ts

abbrev pub IsPattern : List Bound → List Alternative → List Token → Type 0
IsPattern scope alternatives ts = PatternAt scope ts alternatives

-- the text of a select
abbrev pub SelectText : List Bound → List ℕ → Path → Type 0
SelectText scope text p = Forms (IsSelect scope p) text

-- the text of a select of attributes alone, which `xsl:copy-of` may have: it selects nothing in a tree
abbrev pub AttributesText : List Bound → List ℕ → Type 0
AttributesText scope text = Forms (IsAttributes scope) text

-- the text of what `xsl:value-of` selects, as that instruction
abbrev pub ValueText : List Bound → List ℕ → Body → Type 0
ValueText scope text b = Forms (IsValue scope b) text

-- the text of a pattern: its alternatives with their default priorities
abbrev pub PatternText : List Bound → List ℕ → List Alternative → Type 0
PatternText scope text alternatives = Forms (IsPattern scope alternatives) text

abbrev pub TestText : List Bound → List ℕ → Test → Type 0
TestText scope text t = Forms (IsTest scope t) text
