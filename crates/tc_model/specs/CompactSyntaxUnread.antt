-- What of the compact syntax isn't read, and what is refused where nothing that is read stands (OASIS, RELAX NG Compact Syntax, 2002, and
-- ISO/IEC 19757-2, Annex C). Which of its constructs are read is this project's choice.
-- `\x{` is found where tokens are read, in a literal too, but not in comments nor in an attribute's braces;
-- it has a reason of its own wherever it is reached before anything else is wrong. A literal in three quotes
-- isn't read, and an escape in it is found before that is told. An escape in a literal that isn't closed on
-- its line is told at its backslash.
use Rattle.std.specs.Prelude.{◌≡◌, ◌≢◌, ℕ, ◌+◌, ◌<◌, Bool, true, false, List, [], ◌∷◌, Option, None, Some, IsTrue, length, bytes_eq, codes, if◌then◌else◌}
use Rattle.tc_base.specs.declared.reasons.Why.{Why}
use Rattle.tc_base.specs.declared.reasons.Why.TheVariants.{DataPattern, ValuePattern, ListPattern, ExternalPattern, Include, NestedGrammar, ParentReference, InheritedNamespace, Annotation, Escape, TripleQuote, Concatenation}
use Rattle.tc_model.specs.XmlTextBytes.{length_before}
use Rattle.tc_model.specs.CompactSyntaxTokens.{Word, a_name, prefixed, literal, long_literal, mark, Token}
use Rattle.tc_model.specs.CompactSyntaxNames.{IsWord, IsMark, identifier}

-- why the reading of a schema stops, and where
pub data Refusal : Type 0 where
  malformed : ℕ → Refusal
  -- a construct that isn't read
  unsupported : Why → ℕ → Refusal
  -- a brace or parenthesis that opens within as many others as may be
  too_deep : ℕ → Refusal

-- where the tokens of a text end, and where the escape of a character stands in a literal that isn't closed there
pub record End : Type 0 where
  pub place : ℕ
  pub escape : Option ℕ

-- `\x{`
abbrev pub escape_mark : List ℕ
escape_mark = 0x5C ∷ 0x78 ∷ 0x7B ∷ []

-- the escape of a character begins at this place: as the next tokens, or within the next literal
pub data EscapeAt : List Token → ℕ → Type 0 where
  in_text : {t u v : Token} {after : List Token} → IsMark 0x5C t → IsWord (codes "x") u → IsMark 0x7B v → u.place ≡ t.place + 1 → v.place ≡ u.place + 1
      → EscapeAt (t ∷ u ∷ v ∷ after) t.place
  in_literal : {t : Token} {after : List Token} {value : List ℕ} → t.word ≡ literal value → length_before escape_mark value < length value
      → EscapeAt (t ∷ after) (t.place + 1 + length_before escape_mark value)
  in_long_literal : {t : Token} {after : List Token} {value : List ℕ} → t.word ≡ long_literal value → length_before escape_mark value < length value
      → EscapeAt (t ∷ after) (t.place + 3 + length_before escape_mark value)

abbrev pub NoEscape : List Token → Type 0
NoEscape tokens = (place : ℕ) → EscapeAt tokens place → ⊥

-- an annotation begins: `[`, or `>>` without anything between
pub data AnnotationAt : List Token → Type 0 where
  bracket : {t : Token} {after : List Token} → IsMark 0x5B t → AnnotationAt (t ∷ after)
  two_signs : {t u : Token} {after : List Token} → IsMark 0x3E t → IsMark 0x3E u → u.place ≡ t.place + 1 → AnnotationAt (t ∷ u ∷ after)

-- nothing that is read stands here
pub data Unexpected (end : End) : List Token → Refusal → Type 0 where
  escape : {tokens : List Token} {place : ℕ} → EscapeAt tokens place → Unexpected end tokens (unsupported Escape place)
  annotation : {t : Token} {after : List Token} → AnnotationAt (t ∷ after) → Unexpected end (t ∷ after) (unsupported Annotation t.place)
  other : {t : Token} {after : List Token} → NoEscape (t ∷ after) → (AnnotationAt (t ∷ after) → ⊥) → Unexpected end (t ∷ after) (malformed t.place)
  unclosed : {place : ℕ} → end.escape ≡ Some place → Unexpected end [] (unsupported Escape place)
  at_end : end.escape ≡ None → Unexpected end [] (malformed end.place)

abbrev pub is_literal : Word → Bool
is_literal (literal s) = true
is_literal (long_literal s) = true
is_literal _ = false

-- the literal at the front isn't read wherever it stands: it holds the escape of a character, or stands in three quotes
pub data LiteralStops : List Token → Refusal → Type 0 where
  escape_within : {t : Token} {after : List Token} {place : ℕ} → EscapeAt (t ∷ after) place → LiteralStops (t ∷ after) (unsupported Escape place)
  three_quotes : {t : Token} {after : List Token} {s : List ℕ} → t.word ≡ long_literal s → NoEscape (t ∷ after) → LiteralStops (t ∷ after) (unsupported TripleQuote t.place)

-- the reason why a pattern that begins with this word isn't read, if there is one: it is a datatype's name, or a keyword of such a pattern
abbrev pub unread_keyword : List ℕ → Option Why
unread_keyword n =
    if bytes_eq n (codes "string") then Some DataPattern else if bytes_eq n (codes "token") then Some DataPattern else if bytes_eq n (codes "list") then Some ListPattern
    else if bytes_eq n (codes "external") then Some ExternalPattern else if bytes_eq n (codes "grammar") then Some NestedGrammar else if bytes_eq n (codes "parent") then Some ParentReference
    else None

abbrev pub unread_pattern : Word → Option Why
unread_pattern (a_name n) = unread_keyword n
unread_pattern (prefixed p n) = Some DataPattern
unread_pattern _ = None

-- no pattern begins with this word, not even one that isn't read
pub record BeginsNoPattern (w : Word) : Type 0 where
  pub no_element : w ≢ a_name (codes "element")
  pub no_attribute : w ≢ a_name (codes "attribute")
  pub no_mixed : w ≢ a_name (codes "mixed")
  pub no_empty : w ≢ a_name (codes "empty")
  pub no_text : w ≢ a_name (codes "text")
  pub no_not_allowed : w ≢ a_name (codes "notAllowed")
  pub no_parenthesis : w ≢ mark 0x28
  pub no_reference : identifier w ≡ None
  pub no_literal : is_literal w ≡ false
  pub no_unread : unread_pattern w ≡ None

-- where a pattern should begin, none that is read does
pub data NoPattern (end : End) : List Token → Refusal → Type 0 where
  unread : {t : Token} {after : List Token} {why : Why} → unread_pattern t.word ≡ Some why → NoPattern end (t ∷ after) (unsupported why t.place)
  a_literal : {t : Token} {after : List Token} {r : Refusal} → IsTrue (is_literal t.word) → LiteralStops (t ∷ after) r → NoPattern end (t ∷ after) r
  value : {t : Token} {after : List Token} {s : List ℕ} → t.word ≡ literal s → NoEscape (t ∷ after) → NoPattern end (t ∷ after) (unsupported ValuePattern t.place)
  none : {t : Token} {after : List Token} {r : Refusal} → BeginsNoPattern t.word → Unexpected end (t ∷ after) r → NoPattern end (t ∷ after) r
  no_token : {r : Refusal} → Unexpected end [] r → NoPattern end [] r

-- no definition begins with this token, and it doesn't end definitions
pub record BeginsNoDefinition (t : Token) : Type 0 where
  pub no_start : IsWord (codes "start") t → ⊥
  pub no_div : IsWord (codes "div") t → ⊥
  pub no_include : IsWord (codes "include") t → ⊥
  pub no_name : identifier t.word ≡ None
  pub no_brace : IsMark 0x7D t → ⊥

-- where a definition should begin, none that is read does
pub data NoDefinition (end : End) : List Token → Refusal → Type 0 where
  include : {t : Token} {after : List Token} → IsWord (codes "include") t → NoDefinition end (t ∷ after) (unsupported Include t.place)
  none : {t : Token} {after : List Token} {r : Refusal} → BeginsNoDefinition t → Unexpected end (t ∷ after) r → NoDefinition end (t ∷ after) r

-- where a namespace name should stand, none that is read does; one may be inherited where `inherits` says so
pub data NoNamespaceName (end : End) (inherits : Bool) : List Token → Refusal → Type 0 where
  inherit : {t : Token} {after : List Token} → IsTrue inherits → IsWord (codes "inherit") t → NoNamespaceName end inherits (t ∷ after) (unsupported InheritedNamespace t.place)
  a_literal : {t : Token} {after : List Token} {r : Refusal} → IsTrue (is_literal t.word) → LiteralStops (t ∷ after) r
      → NoNamespaceName end inherits (t ∷ after) r
  concatenation : {t u : Token} {after : List Token} {s : List ℕ} → t.word ≡ literal s → NoEscape (t ∷ u ∷ after) → IsMark 0x7E u
      → NoNamespaceName end inherits (t ∷ u ∷ after) (unsupported Concatenation u.place)
  none : {t : Token} {after : List Token} {r : Refusal} → is_literal t.word ≡ false → (IsTrue inherits → IsWord (codes "inherit") t → ⊥)
      → Unexpected end (t ∷ after) r → NoNamespaceName end inherits (t ∷ after) r
  no_token : {r : Refusal} → Unexpected end [] r → NoNamespaceName end inherits [] r
