-- Patterns in compact syntax (OASIS, RELAX NG Compact Syntax, 2002, and ISO/IEC 19757-2, Annex C: pattern). Which of them are read, and that of an
-- attribute nothing but matching braces is asked, is this project's choice. What each phrase leaves of the tokens stands last; braces and parentheses stand at most so deep.
-- Where `others` says so, a datatype or a value as a pattern is read too, as `(empty, empty)` in its place would be.
-- In the braces of an attribute braces alone count: a parenthesis or an escape means nothing there, a literal
-- or a comment is skipped, one in three quotes with its line ends and braces too. A quote that isn't closed
-- on its line is no literal, and so in no schema. The prefixes in the attribute's name class must be bound.
-- `(empty, empty)` tells a schema that is good but for its data from one that nests too deep; its parentheses
-- don't count.
use Rattle.std.specs.Prelude.{◌≡◌, ◌≢◌, ℕ, suc, Bool, true, false, ◌||◌, ◌==◌, List, [], ◌∷◌, Option, None, Some, IsTrue, bytes_eq, codes, if◌then◌else◌}
use Rattle.tc_model.specs.RawTrees.{Bound}
use Rattle.tc_model.specs.CompactSyntaxTrees.{SyntaxClass, SyntaxPattern, empty, not_allowed, text, attribute, ref, element, mixed, optional, zero_or_more, one_or_more, group, choice, interleave, SyntaxPatterns, no_more, more}
use Rattle.tc_model.specs.CompactSyntaxTokens.{Word, a_name, prefixed, literal, mark, Token}
use Rattle.tc_model.specs.CompactSyntaxNames.{IsWord, IsMark, identifier, ClassAt}

-- a comma, a bar or an ampersand between items
pub data Connector : Type 0 where
  comma bar ampersand : Connector

abbrev pub joined_by : Connector → SyntaxPatterns → SyntaxPattern
joined_by comma ps = group ps
joined_by bar ps = choice ps
joined_by ampersand ps = interleave ps

abbrev pub connector_of : Word → Option Connector
connector_of (mark c) = if c == 0x2C then Some comma else (if c == 0x7C then Some bar else (if c == 0x26 then Some ampersand else None))
connector_of _ = None

abbrev pub connector_at : List Token → Option Connector
connector_at [] = None
connector_at (t ∷ tokens) = connector_of t.word

-- a question mark, an asterisk or a plus sign after an item
pub data Suffix : Type 0 where
  question_mark asterisk plus_sign : Suffix

abbrev pub suffixed : Suffix → SyntaxPattern → SyntaxPattern
suffixed question_mark p = optional p
suffixed asterisk p = zero_or_more p
suffixed plus_sign p = one_or_more p

abbrev pub suffix_of : Word → Option Suffix
suffix_of (mark c) = if c == 0x3F then Some question_mark else (if c == 0x2A then Some asterisk else (if c == 0x2B then Some plus_sign else None))
suffix_of _ = None

abbrev pub suffix_at : List Token → Option Suffix
suffix_at [] = None
suffix_at (t ∷ tokens) = suffix_of t.word

-- tokens up to the brace that closes, and what follows it; braces match
pub data BalancedAt : ℕ → List Token → List Token → Type 0 where
  closed : {deepest : ℕ} {t : Token} {after : List Token} → IsMark 0x7D t → BalancedAt deepest (t ∷ after) after
  nested : {deepest : ℕ} {t : Token} {tokens rest after : List Token} → IsMark 0x7B t → BalancedAt deepest tokens rest → BalancedAt (suc deepest) rest after
      → BalancedAt (suc deepest) (t ∷ tokens) after
  other : {deepest : ℕ} {t : Token} {tokens after : List Token} → t.word ≢ mark 0x7B → t.word ≢ mark 0x7D → BalancedAt deepest tokens after → BalancedAt deepest (t ∷ tokens) after

-- a datatype's name, `string` or `token`, or a literal
abbrev pub is_datum : Word → Bool
is_datum (a_name n) = bytes_eq n (codes "string") || bytes_eq n (codes "token")
is_datum (prefixed p n) = true
is_datum (literal s) = true
is_datum _ = false

mutual
  -- one item, or several with one kind of connector between
  pub data PatternAt (others : Bool) (scope : List Bound) : ℕ → List Token → SyntaxPattern → List Token → Type 0 where
    alone : {deepest : ℕ} {tokens after : List Token} {p : SyntaxPattern} → ItemAt others scope deepest tokens p after → connector_at after ≡ None → PatternAt others scope deepest tokens p after
    several : {deepest : ℕ} {t : Token} {tokens rest after : List Token} {p : SyntaxPattern} {ps : SyntaxPatterns} {c : Connector}
        → ItemAt others scope deepest tokens p (t ∷ rest) → connector_of t.word ≡ Some c → ItemsAt others scope c deepest rest ps after
        → PatternAt others scope deepest tokens (joined_by c (more p ps)) after

  -- items with this connector between, and with none after them
  pub data ItemsAt (others : Bool) (scope : List Bound) : Connector → ℕ → List Token → SyntaxPatterns → List Token → Type 0 where
    last : {c : Connector} {deepest : ℕ} {tokens after : List Token} {p : SyntaxPattern} → ItemAt others scope deepest tokens p after → connector_at after ≡ None → ItemsAt others scope c deepest tokens (more p no_more) after
    and_more : {c : Connector} {deepest : ℕ} {t : Token} {tokens rest after : List Token} {p : SyntaxPattern} {ps : SyntaxPatterns}
        → ItemAt others scope deepest tokens p (t ∷ rest) → connector_of t.word ≡ Some c → ItemsAt others scope c deepest rest ps after → ItemsAt others scope c deepest tokens (more p ps) after

  -- a primary, with a suffix or none
  pub data ItemAt (others : Bool) (scope : List Bound) : ℕ → List Token → SyntaxPattern → List Token → Type 0 where
    bare : {deepest : ℕ} {tokens after : List Token} {p : SyntaxPattern} → PrimaryAt others scope deepest tokens p after → suffix_at after ≡ None → ItemAt others scope deepest tokens p after
    with_suffix : {deepest : ℕ} {t : Token} {tokens after : List Token} {p : SyntaxPattern} {s : Suffix}
        → PrimaryAt others scope deepest tokens p (t ∷ after) → suffix_of t.word ≡ Some s → ItemAt others scope deepest tokens (suffixed s p) after

  pub data PrimaryAt (others : Bool) (scope : List Bound) : ℕ → List Token → SyntaxPattern → List Token → Type 0 where
    an_element : {deepest : ℕ} {t u v : Token} {tokens inside after : List Token} {c : SyntaxClass} {p : SyntaxPattern} → IsWord (codes "element") t
        → ClassAt scope (suc deepest) tokens c (u ∷ inside) → IsMark 0x7B u → PatternAt others scope deepest inside p (v ∷ after) → IsMark 0x7D v
        → PrimaryAt others scope (suc deepest) (t ∷ tokens) (element t.place c p) after
    an_attribute : {deepest : ℕ} {t u : Token} {tokens inside after : List Token} {c : SyntaxClass} → IsWord (codes "attribute") t
        → ClassAt scope (suc deepest) tokens c (u ∷ inside) → IsMark 0x7B u → BalancedAt deepest inside after
        → PrimaryAt others scope (suc deepest) (t ∷ tokens) attribute after
    a_mixed : {deepest : ℕ} {t u v : Token} {inside after : List Token} {p : SyntaxPattern} → IsWord (codes "mixed") t → IsMark 0x7B u
        → PatternAt others scope deepest inside p (v ∷ after) → IsMark 0x7D v → PrimaryAt others scope (suc deepest) (t ∷ u ∷ inside) (mixed p) after
    an_empty : {deepest : ℕ} {t : Token} {after : List Token} → IsWord (codes "empty") t → PrimaryAt others scope deepest (t ∷ after) empty after
    a_text : {deepest : ℕ} {t : Token} {after : List Token} → IsWord (codes "text") t → PrimaryAt others scope deepest (t ∷ after) text after
    a_not_allowed : {deepest : ℕ} {t : Token} {after : List Token} → IsWord (codes "notAllowed") t → PrimaryAt others scope deepest (t ∷ after) not_allowed after
    reference : {deepest : ℕ} {t : Token} {after : List Token} {n : List ℕ} → identifier t.word ≡ Some n → PrimaryAt others scope deepest (t ∷ after) (ref n t.place) after
    parentheses : {deepest : ℕ} {t v : Token} {inside after : List Token} {p : SyntaxPattern} → IsMark 0x28 t
        → PatternAt others scope deepest inside p (v ∷ after) → IsMark 0x29 v → PrimaryAt others scope (suc deepest) (t ∷ inside) p after
    a_datum : {deepest : ℕ} {t : Token} {after : List Token} → IsTrue others → IsTrue (is_datum t.word)
        → PrimaryAt others scope deepest (t ∷ after) (group (more empty (more empty no_more))) after
