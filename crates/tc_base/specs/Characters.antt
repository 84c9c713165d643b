-- The classes of characters of XML 1.0, Fifth Edition, by their code points.
use Rattle.std.specs.Prelude.{ℕ, Bool, ◌||◌, ◌&&◌, ◌==◌, nat_le}

-- from the first code point to the last
abbrev pub is_between : ℕ → ℕ → ℕ → Bool
is_between low high c = nat_le low c && nat_le c high

-- Char (XML 1.0, 2.2, [2])
abbrev pub is_char : ℕ → Bool
is_char c = c == 0x9 || c == 0xA || c == 0xD || is_between 0x20 0xD7FF c || is_between 0xE000 0xFFFD c || is_between 0x10000 0x10FFFF c

-- one character of S (XML 1.0, 2.3, [3])
abbrev pub is_white : ℕ → Bool
is_white c = c == 0x20 || c == 0x9 || c == 0xD || c == 0xA

-- NameStartChar (XML 1.0, 2.3, [4])
abbrev pub is_name_start : ℕ → Bool
is_name_start c = c == 0x3A || is_between 0x41 0x5A c || c == 0x5F || is_between 0x61 0x7A c
    || is_between 0xC0 0xD6 c || is_between 0xD8 0xF6 c || is_between 0xF8 0x2FF c
    || is_between 0x370 0x37D c || is_between 0x37F 0x1FFF c || is_between 0x200C 0x200D c
    || is_between 0x2070 0x218F c || is_between 0x2C00 0x2FEF c || is_between 0x3001 0xD7FF c
    || is_between 0xF900 0xFDCF c || is_between 0xFDF0 0xFFFD c || is_between 0x10000 0xEFFFF c

-- NameChar (XML 1.0, 2.3, [4a])
abbrev pub is_name_char : ℕ → Bool
is_name_char c = is_name_start c || c == 0x2D || c == 0x2E || is_between 0x30 0x39 c || c == 0xB7
    || is_between 0x300 0x36F c || is_between 0x203F 0x2040 c
