-- What it means that reading stops.
use Rattle.std.specs.Prelude.{◌≡◌, ℕ, List, ◌∷◌, length}
use Rattle.tc_base.specs.declared.reasons.Why.TheVariants.{ParameterEntity}
use Rattle.tc_model.specs.XmlTextRefusals.{unsupported, too_deep}
use Rattle.tc_dtd.specs.Outcomes.{Outcome, refused}
use Rattle.tc_dtd.specs.declared.faults.Stop.{Stop}
use Rattle.tc_dtd.specs.declared.faults.Stop.TheVariants.{Malformed, Unsupported, TooDeep, NoMemory}

-- Malformed is said only where reading comes to nothing, and Unsupported and TooDeep only where it comes to that, at the bytes that are left.
abbrev pub Stops : {A : Type 0} → Stop → (Outcome A → Type 0) → Type 0
Stops {A} (Malformed left) P = (o : Outcome A) → P o → ⊥
Stops (Unsupported left why) P = (at : List ℕ) × (left ≡ length at) × P (refused (unsupported why) at)
Stops (TooDeep left) P = (at : List ℕ) × (left ≡ length at) × P (refused too_deep at)
Stops NoMemory P = Unit {0}

-- Malformed is said only where `broken` holds, and nothing else is said but that memory was refused.
abbrev pub Breaks : Stop → Type 0 → Type 0
Breaks (Malformed left) broken = broken
Breaks (Unsupported left why) broken = ⊥
Breaks (TooDeep left) broken = ⊥
Breaks NoMemory broken = Unit {0}

-- A reference to a parameter entity is said where one begins, and Malformed where none does.
abbrev pub IsUnexpected : List ℕ → Stop → Type 0
IsUnexpected bs (Malformed left) = (r : List ℕ) → bs ≡ 0x25 ∷ r → ⊥
IsUnexpected bs (Unsupported left why) = (left ≡ length bs) × (why ≡ ParameterEntity) × ((r : List ℕ) × (bs ≡ 0x25 ∷ r))
IsUnexpected bs (TooDeep left) = ⊥
IsUnexpected bs NoMemory = ⊥
