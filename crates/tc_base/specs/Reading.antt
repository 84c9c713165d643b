-- A place in a text, and the characters that stand there.
use Rattle.std.specs.Prelude.{◌≡◌, ◌≢◌, ℕ, ◌+◌, List, [], ◌++◌, drop, length, encode_utf8}
use Rattle.std.specs.Char.{IsScalar}
use Rattle.tc_base.specs.declared.limits.TheConstants.{LONGEST_FILE}

-- a text as its bytes, and how many of them stand before the place
pub record Reading : Type 0 where
  pub text : List ℕ
  pub place : ℕ

-- the bytes from the place on
abbrev pub rest_of : Reading → List ℕ
rest_of r = drop r.place r.text

-- the most bytes of a text
abbrev pub longest_text : ℕ
longest_text = LONGEST_FILE

-- the UTF-8 form of a character stands at the front of these bytes
abbrev pub BeginsWithCharacter : List ℕ → Type 0
BeginsWithCharacter bytes = (c : ℕ) × (after : List ℕ) × IsScalar c × (bytes ≡ encode_utf8 c ++ after)

-- the place is the end of the text
abbrev pub IsAtEnd : Reading → Type 0
IsAtEnd r = rest_of r ≡ []

-- bytes follow that begin with no character
abbrev pub IsBroken : Reading → Type 0
IsBroken r = (rest_of r ≢ []) × ¬ BeginsWithCharacter (rest_of r)

-- exactly this character is taken, and the place moves on by its bytes
abbrev pub Takes : ℕ → Reading → Reading → Type 0
Takes c old new = IsScalar c × (rest_of old ≡ encode_utf8 c ++ rest_of new) × (new.place ≡ old.place + length (encode_utf8 c))
