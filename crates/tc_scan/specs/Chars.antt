-- The characters of XML at the front, and bytes that show that a text has such characters alone (XML 1.0, 2.2, [2]).
use Rattle.std.specs.Prelude.{◌≡◌, ℕ, Bool, ◌||◌, ◌&&◌, ◌==◌, not, nat_le, List, [], ◌++◌, IsFalse, encode_utf8}
use Rattle.std.specs.Char.{IsScalar}
use Rattle.tc_base.specs.Characters.{is_char}
use Rattle.tc_model.specs.Names.{IsChars}

-- no character that XML lacks begins with this byte: in UTF-8 those of ASCII are one byte below 0x20, and U+FFFE and U+FFFF begin with 0xEF. So a text of such
-- bytes alone has characters of XML alone
abbrev pub is_start_of_chars_only : ℕ → Bool
is_start_of_chars_only b = b == 0x9 || b == 0xA || b == 0xD || (nat_le 0x20 b && not (b == 0xEF))

-- a byte that is a character of ASCII that XML has
abbrev pub is_char_of_ascii : ℕ → Bool
is_char_of_ascii b = nat_le b 0x7F && is_start_of_chars_only b

-- the longest front that is text in UTF-8
pub record IsUtf8Front (bytes front : List ℕ) : Type 0 where
  pub after : List ℕ
  pub parts : bytes ≡ front ++ after
  pub longest : (c : ℕ) (r : List ℕ) → after ≡ encode_utf8 c ++ r → IsScalar c → ⊥

-- no character of XML stands here: nothing does, or another character
pub data IsNoChar : List ℕ → Type 0 where
  at_end : IsNoChar []
  other : (c : ℕ) {bs : List ℕ} (r : List ℕ) → bs ≡ encode_utf8 c ++ r → IsFalse (is_char c) → IsNoChar bs

-- what follows the characters of XML at the front
pub record IsPastChars (text rest : List ℕ) : Type 0 where
  pub front : List ℕ
  pub parts : text ≡ front ++ rest
  pub characters : IsChars front
  pub stops : IsNoChar rest
