-- Literals, and the escape of a character by the tokens in which it may stand.
use Rattle.std.specs.Prelude.{◌≡◌, ℕ, ◌+◌, ◌<◌, true, List, ◌∷◌, Option, None, Some, length, codes}
use Rattle.tc_model.specs.XmlTextBytes.{length_before, Lacks}
use Rattle.tc_model.specs.CompactSyntaxTokens.{Word, literal, long_literal, Token}
use Rattle.tc_model.specs.CompactSyntaxNames.{IsWord, IsMark}
use Rattle.tc_model.specs.CompactSyntaxUnread.{Refusal, escape_mark, NoEscape, is_literal, LiteralStops}

-- how many quotes open a literal, and its text
abbrev pub quoted_text : Word → Option (ℕ × List ℕ)
quoted_text (literal s) = Some (1, s)
quoted_text (long_literal s) = Some (3, s)
quoted_text _ = None

-- a literal that holds the escape of a character, which begins at this place
pub record HasEscape (t : Token) (place : ℕ) : Type 0 where
  pub quotes : ℕ
  pub value : List ℕ
  pub text : quoted_text t.word ≡ Some (quotes, value)
  pub within : length_before escape_mark value < length value
  pub stands : place ≡ t.place + quotes + length_before escape_mark value

abbrev pub LacksEscape : Token → Type 0
LacksEscape t = (quotes : ℕ) (value : List ℕ) → quoted_text t.word ≡ Some (quotes, value) → Lacks escape_mark value

-- a backslash, `x` and a brace without anything between
pub record IsEscapeText (t : Token) (ts : List Token) : Type 0 where
  pub name : Token
  pub brace : Token
  pub after : List Token
  pub parts : ts ≡ name ∷ brace ∷ after
  pub is_slash : IsMark 0x5C t
  pub is_name : IsWord (codes "x") name
  pub is_brace : IsMark 0x7B brace
  pub name_follows : name.place ≡ t.place + 1
  pub brace_follows : brace.place ≡ name.place + 1

-- a literal stands first, which isn't read wherever it stands
pub record StopsAtLiteral (ts : List Token) (r : Refusal) : Type 0 where
  pub first : Token
  pub after : List Token
  pub parts : ts ≡ first ∷ after
  pub a_literal : is_literal first.word ≡ true
  pub stops : LiteralStops (first ∷ after) r

-- a literal that is read
pub record IsReadLiteral (t : Token) (after : List Token) : Type 0 where
  pub value : List ℕ
  pub word : t.word ≡ literal value
  pub no_escape : NoEscape (t ∷ after)

-- if a literal stands first, it is read
abbrev pub ReadsLiteral : List Token → Type 0
ReadsLiteral ts = (t : Token) (after : List Token) → ts ≡ t ∷ after → is_literal t.word ≡ true → IsReadLiteral t after

-- `>>` without anything between
pub record IsTwoSigns (t : Token) (ts : List Token) : Type 0 where
  pub second : Token
  pub after : List Token
  pub parts : ts ≡ second ∷ after
  pub is_first : IsMark 0x3E t
  pub is_second : IsMark 0x3E second
  pub follows : second.place ≡ t.place + 1
