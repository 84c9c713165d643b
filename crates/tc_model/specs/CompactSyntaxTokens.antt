-- The tokens of a schema in compact syntax (OASIS, RELAX NG Compact Syntax, 2002, and ISO/IEC 19757-2, Annex C, lexical structure: identifier,
-- CName, nsName, literal). Every character for which some phrase asks is ASCII, so no byte of a
-- longer character is ever taken for one. A relation `PhraseAt bs value after` says that this phrase stands at the front of the
-- bytes, what it means, and what follows it.
-- A byte order mark may begin a text, and counts in places. A carriage return alone ends a line, and so a
-- comment. Of `""'x'` the first two quotes are an empty literal.
use Rattle.std.specs.Prelude.{◌≡◌, ℕ, Bool, ◌||◌, not, ◌==◌, List, [], ◌∷◌, ◌++◌, take, drop, IsTrue, codes, encode_utf8}
use Rattle.std.specs.List.{prefix_len, list_all}
use Rattle.tc_base.specs.Characters.{is_white}
use Rattle.tc_model.specs.Names.{is_ncname_start}
use Rattle.tc_model.specs.XmlTextBytes.{place_of, length_before, IsQuote, LiteralAt}
use Rattle.tc_model.specs.XmlTextNames.{NcNameAt}

pub data Word : Type 0 where
  -- an NCName, which may be a keyword; a backslash and an NCName, which then is no keyword; `p:*`
  a_name escaped all_of : List ℕ → Word
  -- `p:n`
  prefixed : List ℕ → List ℕ → Word
  -- between quotes, and between three quotes
  literal long_literal : List ℕ → Word
  -- a character that stands for itself
  mark : ℕ → Word

-- a word with the place of its first byte
pub record Token : Type 0 where
  pub word : Word
  pub place : ℕ

abbrev pub is_line_end : ℕ → Bool
is_line_end b = b == 0xA || b == 0xD

-- what follows the line that stands at the front
abbrev pub after_line : List ℕ → List ℕ
after_line bs = drop (prefix_len (λ b. not (is_line_end b)) bs) bs

-- neither a colon and a name nor a colon and an asterisk, with which a name would go on
abbrev pub EndsName : List ℕ → Type 0
EndsName bs = (r : List ℕ) → bs ≡ 0x3A ∷ r → ((n s : List ℕ) → NcNameAt r n s → ⊥) × ((s : List ℕ) → r ≡ 0x2A ∷ s → ⊥)

-- a backslash and a name; directly before a brace, a backslash and `x` are none: they begin the escape of a character
pub record EscapedAt (bs name after : List ℕ) : Type 0 where
  pub rest : List ℕ
  pub opens : bs ≡ 0x5C ∷ rest
  pub names : NcNameAt rest name after
  pub no_escape : name ≡ codes "x" → (r : List ℕ) → after ≡ 0x7B ∷ r → ⊥

abbrev pub three : ℕ → List ℕ
three quote = quote ∷ quote ∷ quote ∷ []

-- A literal in three quotes of one kind, which may go over lines, up to the next three such quotes. One that isn't closed goes on to the
-- end of the text.
pub record LongLiteralAt (bs value after : List ℕ) : Type 0 where
  pub quote : ℕ
  pub rest : List ℕ
  pub is_quote : IsQuote quote
  pub opens : bs ≡ three quote ++ rest
  pub front : value ≡ take (length_before (three quote) rest) rest
  pub back : after ≡ drop 3 (drop (length_before (three quote) rest) rest)

-- neither a name, white space, a comment, a literal nor a backslash begins with this character
abbrev pub is_mark : ℕ → Bool
is_mark c = not (is_ncname_start c || is_white c || c == 0x22 || c == 0x23 || c == 0x27 || c == 0x5C)

-- a token, as long as it goes
pub data WordAt : List ℕ → Word → List ℕ → Type 0 where
  plain_name : {bs name after : List ℕ} → NcNameAt bs name after → EndsName after → WordAt bs (a_name name) after
  prefixed_name : {bs prefix rest name after : List ℕ} → NcNameAt bs prefix (0x3A ∷ rest) → NcNameAt rest name after → WordAt bs (prefixed prefix name) after
  namespace_name : {bs prefix after : List ℕ} → NcNameAt bs prefix (0x3A ∷ 0x2A ∷ after) → WordAt bs (all_of prefix) after
  escaped_name : {bs name after : List ℕ} → EscapedAt bs name after → WordAt bs (escaped name) after
  -- between single quotes, on one line
  quoted : {bs value after : List ℕ} → LiteralAt bs value after → IsTrue (list_all (λ b. not (is_line_end b)) value)
      → ((v r : List ℕ) → LongLiteralAt bs v r → ⊥) → WordAt bs (literal value) after
  -- between three quotes, which are this project's to refuse
  quoted_long : {bs value after : List ℕ} → LongLiteralAt bs value after → WordAt bs (long_literal value) after
  backslash : {after : List ℕ} → ((n r : List ℕ) → EscapedAt (0x5C ∷ after) n r → ⊥) → WordAt (0x5C ∷ after) (mark 0x5C) after
  other : {c : ℕ} {bs after : List ℕ} → bs ≡ encode_utf8 c ++ after → IsTrue (is_mark c) → WordAt bs (mark c) after

-- all tokens of these bytes, which stand at the end of a text of so many bytes; white space and comments separate them
pub data TokensAt (total : ℕ) : List ℕ → List Token → Type 0 where
  at_end : TokensAt total [] []
  white : {b : ℕ} {rest : List ℕ} {tokens : List Token} → IsTrue (is_white b) → TokensAt total rest tokens → TokensAt total (b ∷ rest) tokens
  comment : {rest : List ℕ} {tokens : List Token} → TokensAt total (after_line rest) tokens → TokensAt total (0x23 ∷ rest) tokens
  token : {bs rest : List ℕ} {word : Word} {tokens : List Token} → WordAt bs word rest → TokensAt total rest tokens
      → TokensAt total bs (record { word = word; place = place_of total bs } ∷ tokens)
