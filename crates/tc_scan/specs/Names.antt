-- The characters of names.
use Rattle.std.specs.Prelude.{◌≡◌, ℕ, Bool, ◌||◌, ◌==◌, List, ◌++◌, IsTrue, encode_utf8_all}
use Rattle.std.specs.List.{list_all}
use Rattle.tc_base.specs.Characters.{is_between}
use Rattle.tc_model.specs.Names.{is_ncname_char}

-- a letter or a digit of ASCII, `-`, `.` or `_`
abbrev pub is_ascii_name_byte : ℕ → Bool
is_ascii_name_byte b = is_between 0x61 0x7A b || is_between 0x41 0x5A b || is_between 0x30 0x39 b || b == 0x2D || b == 0x2E || b == 0x5F

-- characters that an NCName may hold (Namespaces in XML 1.0, 3, [4]), perhaps none, stand at the front, and then the rest
abbrev pub GoesOn : List ℕ → List ℕ → Type 0
GoesOn bs rest = (cs : List ℕ) × (bs ≡ encode_utf8_all cs ++ rest) × IsTrue (list_all is_ncname_char cs)
