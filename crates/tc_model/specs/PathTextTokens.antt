-- The tokens of paths, patterns and tests (XPath 1.0, 3.7), in UTF-8.
use Rattle.std.specs.Prelude.{◌≡◌, ℕ, ◌+◌, ◌-◌, ◌<◌, max, Bool, false, ◌&&◌, ◌||◌, ◌==◌, List, [], ◌∷◌, Option, None, Some, IsTrue, IsFalse, drop, if◌then◌else◌}
use Rattle.std.specs.List.{prefix_len}
use Rattle.tc_base.specs.declared.limits.TheConstants.{DEEPEST_NESTING}
use Rattle.tc_base.specs.Characters.{is_between}
use Rattle.tc_model.specs.XmlTextBytes.{after_white, LiteralAt}
use Rattle.tc_model.specs.XmlTextNames.{NcNameAt, QualifiedName, QNameAt}

pub data Mark : Type 0 where
  star slash slashes bar open_parenthesis close_parenthesis open_bracket close_bracket at dot dots colons comma : Mark
  -- `=`, `!=`, `<`, `<=`, `>`, `>=`; and `+`, `-`
  comparison arithmetic : Mark

pub data Token : Type 0 where
  name : QualifiedName → Token
  -- `p:*`
  all_of_prefix : List ℕ → Token
  mark : Mark → Token
  number literal variable : Token

-- the spelling of a mark in one character, or in two
pub record Single : Type 0 where
  pub first : ℕ
  pub mark : Mark

pub record Double : Type 0 where
  pub first : ℕ
  pub second : ℕ
  pub mark : Mark

abbrev pub one_character : ℕ → Mark → Single
one_character a m = record { first = a; mark = m }

abbrev pub two_characters : ℕ → ℕ → Mark → Double
two_characters a b m = record { first = a; second = b; mark = m }

-- `*`, `/`, `|`, `(`, `)`, `[`, `]`, `@`, `.`, `,`, `=`, `<`, `>`, `+`, `-`
abbrev pub singles : List Single
singles =
    one_character 0x2A star ∷ one_character 0x2F slash ∷ one_character 0x7C bar ∷ one_character 0x28 open_parenthesis
    ∷ one_character 0x29 close_parenthesis ∷ one_character 0x5B open_bracket ∷ one_character 0x5D close_bracket
    ∷ one_character 0x40 at ∷ one_character 0x2E dot ∷ one_character 0x2C comma ∷ one_character 0x3D comparison
    ∷ one_character 0x3C comparison ∷ one_character 0x3E comparison ∷ one_character 0x2B arithmetic ∷ one_character 0x2D arithmetic ∷ []

-- `//`, `..`, `::`, `!=`, `<=`, `>=`
abbrev pub doubles : List Double
doubles =
    two_characters 0x2F 0x2F slashes ∷ two_characters 0x2E 0x2E dots ∷ two_characters 0x3A 0x3A colons
    ∷ two_characters 0x21 0x3D comparison ∷ two_characters 0x3C 0x3D comparison ∷ two_characters 0x3E 0x3D comparison ∷ []

abbrev pub single_in : List Single → ℕ → Option Mark
single_in [] a = None
single_in (x ∷ xs) a = if a == x.first then Some x.mark else single_in xs a

abbrev pub double_in : List Double → ℕ → ℕ → Option Mark
double_in [] a b = None
double_in (x ∷ xs) a b = if a == x.first && b == x.second then Some x.mark else double_in xs a b

abbrev pub is_digit : ℕ → Bool
is_digit b = is_between 0x30 0x39 b

abbrev pub begins_with_digit : List ℕ → Bool
begins_with_digit [] = false
begins_with_digit (b ∷ bs) = is_digit b

-- a digit, or a point and a digit (XPath, 3.7, [30] Number)
abbrev pub begins_with_number : List ℕ → Bool
begins_with_number [] = false
begins_with_number (b ∷ bs) = is_digit b || (b == 0x2E && begins_with_digit bs)

abbrev pub after_digits : List ℕ → List ℕ
after_digits bs = drop (prefix_len is_digit bs) bs

-- what follows a point and digits, perhaps none
abbrev pub after_fraction : List ℕ → List ℕ
after_fraction [] = []
after_fraction (b ∷ bs) = if b == 0x2E then after_digits bs else b ∷ bs

-- a mark at the front, the longest that stands there, and what follows it
pub data MarkAt : List ℕ → Mark → List ℕ → Type 0 where
  of_two : {a b : ℕ} {after : List ℕ} {m : Mark} → double_in doubles a b ≡ Some m → MarkAt (a ∷ b ∷ after) m after
  of_one : {a : ℕ} {after : List ℕ} {m : Mark} → ((b : ℕ) (r : List ℕ) → after ≡ b ∷ r → double_in doubles a b ≡ None)
      → single_in singles a ≡ Some m → MarkAt (a ∷ after) m after

-- no `:` stands at the front, or `::` does
abbrev pub EndsName : List ℕ → Type 0
EndsName bs = (r : List ℕ) → bs ≡ 0x3A ∷ r → (s : List ℕ) × (r ≡ 0x3A ∷ s)

-- a token at the front, the longest that stands there, and what follows it (XPath, 3.7, [28] ExprToken, [29] Literal, [30] Number, [36] VariableReference, [37] NameTest)
pub data TokenAt : List ℕ → Token → List ℕ → Type 0 where
  unprefixed : {bs local after : List ℕ} → NcNameAt bs local after → EndsName after → TokenAt bs (name (record { prefix = []; local = local })) after
  prefixed : {bs prefix rest local after : List ℕ} → NcNameAt bs prefix (0x3A ∷ rest) → NcNameAt rest local after
      → TokenAt bs (name (record { prefix = prefix; local = local })) after
  with_star : {bs prefix after : List ℕ} → NcNameAt bs prefix (0x3A ∷ 0x2A ∷ after) → TokenAt bs (all_of_prefix prefix) after
  a_mark : {bs after : List ℕ} {m : Mark} → IsFalse (begins_with_number bs) → MarkAt bs m after → TokenAt bs (mark m) after
  a_number : {bs : List ℕ} → IsTrue (begins_with_number bs) → TokenAt bs number (after_fraction (after_digits bs))
  a_literal : {bs value after : List ℕ} → LiteralAt bs value after → TokenAt bs literal after
  a_variable : {rest after : List ℕ} {n : QualifiedName} → QNameAt rest n after → TokenAt (0x24 ∷ rest) variable after

-- the tokens of a text, with white space around each or not
pub data Tokens : List ℕ → List Token → Type 0 where
  no_more : {bs : List ℕ} → after_white bs ≡ [] → Tokens bs []
  one_more : {bs rest : List ℕ} {t : Token} {ts : List Token} → TokenAt (after_white bs) t rest → Tokens rest ts → Tokens bs (t ∷ ts)

-- how many parentheses and brackets are open behind a token, where so many are open before it
abbrev pub open_behind : ℕ → Token → ℕ
open_behind before (mark open_parenthesis) = before + 1
open_behind before (mark open_bracket) = before + 1
open_behind before (mark close_parenthesis) = before - 1
open_behind before (mark close_bracket) = before - 1
open_behind before _ = before

-- the most parentheses and brackets that are open at once, where so many are open before
abbrev pub most_open : ℕ → List Token → ℕ
most_open before [] = before
most_open before (t ∷ ts) = max before (most_open (open_behind before t) ts)

-- how deep parentheses and brackets together may stand within one another
abbrev pub deepest_nesting : ℕ
deepest_nesting = DEEPEST_NESTING

abbrev pub IsTooDeep : List Token → Type 0
IsTooDeep ts = deepest_nesting < most_open 0 ts
