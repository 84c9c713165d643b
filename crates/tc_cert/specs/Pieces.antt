-- Pieces of a line at the front of bytes: numbers, lists, fields, and what follows them.
use Rattle.std.specs.Prelude.{◌≡◌, ◌<◌, ℕ, Bool, List, ◌∷◌, ◌++◌, length, get_or, flat_map, All, decimal}
use Rattle.std.specs.Char.{digit_value}
use Rattle.tc_model.specs.CertificateLines.{flag, listed, change, pair, numbers}
use Rattle.tc_model.specs.CertificateData.{IsNumber, AreMembers}
use Rattle.tc_cert.specs.declared.faults.PieceFault.{PieceFault}
use Rattle.tc_cert.specs.declared.faults.PieceFault.TheVariants.{Form}

-- no digit stands at the front
abbrev pub Stops : List ℕ → Type 0
Stops r = (c : ℕ) (after : List ℕ) → r ≡ c ∷ after → digit_value c < 10 → ⊥

-- some digits, the first of them no 0 before another
pub record HasNoLeadingZero (digits : List ℕ) : Type 0 where
  pub some : 0 < length digits
  pub lead : get_or digits 0 0 ≡ 48 → length digits ≡ 1

-- a number, as long as its digits go
pub record IsNumberAt (bytes : List ℕ) (n : ℕ) (rest : List ℕ) : Type 0 where
  pub number : IsNumber n
  pub whole : Stops rest
  pub spelled : bytes ≡ decimal n ++ rest

abbrev pub AreNumbers : ℕ × ℕ → Type 0
AreNumbers p = IsNumber p.0 × IsNumber p.1

-- two numbers with a byte between them
pub record IsTwoAt (between : ℕ) (bytes : List ℕ) (p : ℕ × ℕ) (rest : List ℕ) : Type 0 where
  pub numbers : AreNumbers p
  pub whole : Stops rest
  pub spelled : bytes ≡ decimal p.0 ++ between ∷ (decimal p.1 ++ rest)

-- a list up to a byte
pub record IsListAt {X : Type 0} (written : X → List ℕ) (may : X → Type 0) (end : ℕ) (bytes : List ℕ) (xs : List X) (rest : List ℕ) : Type 0 where
  pub allowed : All may xs
  pub spelled : bytes ≡ listed written xs ++ end ∷ rest

abbrev pub AreNumbersAt : ℕ → List ℕ → List ℕ → List ℕ → Type 0
AreNumbersAt = IsListAt decimal IsNumber

abbrev pub AreChangesAt : ℕ → List ℕ → List (ℕ × ℕ) → List ℕ → Type 0
AreChangesAt = IsListAt change AreNumbers

-- pairs up to the end of the line
pub record ArePairsAt (bytes : List ℕ) (ps : List (ℕ × ℕ)) (rest : List ℕ) : Type 0 where
  pub allowed : All AreNumbers ps
  pub spelled : bytes ≡ flat_map pair ps ++ 10 ∷ rest

-- the letter of a row and its truth values, each before a space
abbrev pub FlagsAt : ℕ → List ℕ → Bool → Bool → List ℕ → Type 0
FlagsAt letter bytes one other rest = bytes ≡ letter ∷ 32 ∷ flag one ∷ 32 ∷ flag other ∷ 32 ∷ rest

-- and its members
pub record IsFrontAt (letter : ℕ) (bytes : List ℕ) (one other : Bool) (members rest : List ℕ) : Type 0 where
  pub allowed : AreMembers members
  pub spelled : FlagsAt letter bytes one other (numbers members ++ 32 ∷ rest)

-- the reason is the form only where there is no such piece; memory is free
abbrev pub IsMissing : Type 0 → PieceFault → Type 0
IsMissing Piece fault = fault ≡ Form → Piece → ⊥
