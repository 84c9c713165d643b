-- What a fault says of the text that is refused.
-- The place of malformed is left open, as in documents; the other reasons have one place.
use Rattle.std.specs.Prelude.{◌≡◌, ◌≤◌, ◌-◌, ℕ, List, map, length, bytes_eq}
use Rattle.std.specs.List.{IsDistinct}
use Rattle.tc_model.specs.XmlTextRefusals.{unsupported, too_deep}
use Rattle.tc_dtd.specs.Declarations.{Declaration}
use Rattle.tc_dtd.specs.DtdTextDeclarations.{Placed}
use Rattle.tc_dtd.specs.DtdText.{HasForm, deepest_parenthesis, FirstAgain, names_of, DtdTextRefuses, IsNotRefused}
use Rattle.tc_dtd.specs.declared.faults.DtdFault.{DtdFault}
use Rattle.tc_dtd.specs.declared.faults.DtdFault.TheVariants as faults
use Rattle.tc_dtd.specs.declared.faults.Stop.{Stop}
use Rattle.tc_dtd.specs.declared.faults.Stop.TheVariants as stops

-- Malformed: the text doesn't have the form, not even with parentheses at any depth, and reading comes to no construct that isn't read and to no
-- parenthesis that stands too deep. Unsupported: it comes to such a construct at the place; then it doesn't have the form at any depth. TooDeep: it
-- comes to such a parenthesis there; then it doesn't have the form at this depth. Twice: it has the form, and there stands the first
-- declaration of an element that was declared before.
abbrev pub IsFaultOf : List ℕ → DtdFault → Type 0
IsFaultOf bytes (faults.Malformed place) = (place.0 ≤ length bytes) × ((deepest : ℕ) (found : List Placed) → HasForm deepest bytes found → ⊥) × IsNotRefused bytes
IsFaultOf bytes (faults.Unsupported place why) = DtdTextRefuses bytes (unsupported why) place.0 × ((deepest : ℕ) (found : List Placed) → HasForm deepest bytes found → ⊥)
IsFaultOf bytes (faults.TooDeep place) = DtdTextRefuses bytes too_deep place.0 × ((found : List Placed) → HasForm deepest_parenthesis bytes found → ⊥)
IsFaultOf bytes (faults.Twice place) = (found : List Placed) × HasForm deepest_parenthesis bytes found × FirstAgain found place.0
IsFaultOf bytes faults.NoMemory = Unit {0}

-- the fault of a text of so many bytes
abbrev pub fault_of : ℕ → Stop → DtdFault
fault_of total (stops.Malformed left) = faults.Malformed (record { 0 = total - left })
fault_of total (stops.Unsupported left why) = faults.Unsupported (record { 0 = total - left }) why
fault_of total (stops.TooDeep left) = faults.TooDeep (record { 0 = total - left })
fault_of total stops.NoMemory = faults.NoMemory

-- each element is declared once, and these are the declarations
abbrev pub IsDeclaredOnce : List Placed → List Declaration → Type 0
IsDeclaredOnce found ds = IsDistinct bytes_eq (names_of found) × (ds ≡ map (λ x. x.declaration) found)

-- an element is declared again
abbrev pub IsAgain : List Placed → DtdFault → Type 0
IsAgain found (faults.Malformed place) = ⊥
IsAgain found (faults.Unsupported place why) = ⊥
IsAgain found (faults.TooDeep place) = ⊥
IsAgain found (faults.Twice place) = FirstAgain found place.0
IsAgain found faults.NoMemory = Unit {0}
