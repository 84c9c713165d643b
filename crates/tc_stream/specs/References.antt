-- A reference in character data goes character by character, from behind its `&` on (XML 1.0, Fifth Edition, 4.1, [66] to [68]; 4.6).
use Rattle.std.specs.Prelude.{ℕ, ◌+◌, ◌*◌, ◌==◌, List, [], ◌∷◌, ◌++◌, Option, None, Some, encode_utf8, nat_le, if◌then◌else◌}
use Rattle.std.specs.Char.{digit_value}
use Rattle.tc_base.specs.Characters.{is_char}
use Rattle.tc_model.specs.Names.{is_ncname_start, is_ncname_char}
use Rattle.tc_model.specs.XmlTextReferences.{predefined, is_digit}

-- what is known of one that has begun
pub data Referring : Type 0 where
  -- nothing follows yet
  begun : Referring
  -- a number sign
  number_sign : Referring
  -- a number sign and an `x`
  x_sign : Referring
  -- digits of this base, and their value
  digits : ℕ → ℕ → Referring
  -- these bytes of a name
  in_name : List ℕ → Referring

-- what one character more makes of it
pub data Referred : Type 0 where
  more : Referring → Referred
  -- it ends, and stands for this character
  stands_for : ℕ → Referred
  -- it ends, and its entity isn't predefined
  other_entity : Referred
  unreferred : Referred

-- the most that the number of a character may be
abbrev pub most_number : ℕ
most_number = 0x10FFFF

abbrev pub with_value : ℕ → ℕ → Referred
with_value base value = if nat_le value most_number then more (digits base value) else unreferred

abbrev pub first_digit : ℕ → ℕ → Referred
first_digit base c = if is_digit base c then more (digits base (digit_value c)) else unreferred

abbrev pub of_number : ℕ → Referred
of_number value = if is_char value then stands_for value else unreferred

abbrev pub of_entity : Option ℕ → Referred
of_entity None = other_entity
of_entity (Some c) = stands_for c

abbrev pub referred_next : Referring → ℕ → Referred
referred_next begun c = if c == 0x23 then more number_sign else (if is_ncname_start c then more (in_name (encode_utf8 c)) else unreferred)
referred_next number_sign c = if c == 0x78 then more x_sign else first_digit 10 c
referred_next x_sign c = first_digit 16 c
referred_next (digits base value) c =
    if c == 0x3B then of_number value else (if is_digit base c then with_value base (value * base + digit_value c) else unreferred)
referred_next (in_name name) c =
    if is_ncname_char c then more (in_name (name ++ encode_utf8 c)) else (if c == 0x3B then of_entity (predefined name) else unreferred)

-- what some characters make of it
pub data ReferenceScan : Type 0 where
  -- it ends and stands for this character, and these characters follow
  referred : ℕ → List ℕ → ReferenceScan
  referring : Referring → ReferenceScan
  -- it ends, and its entity isn't predefined
  other : ReferenceScan
  -- it is none
  no_reference : ReferenceScan

abbrev pub reference_on : Referred → (Referring → ReferenceScan) → List ℕ → ReferenceScan
reference_on (more known) scan cs = scan known
reference_on (stands_for c) scan cs = referred c cs
reference_on other_entity scan cs = other
reference_on unreferred scan cs = no_reference

abbrev pub reference_scan : Referring → List ℕ → ReferenceScan
reference_scan known [] = referring known
reference_scan known (c ∷ cs) = reference_on (referred_next known c) (λ known. reference_scan known cs) cs
