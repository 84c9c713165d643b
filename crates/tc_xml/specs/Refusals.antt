-- What it means that reading stops.
use Rattle.std.specs.Prelude.{◌≡◌, ℕ, List, length}
use Rattle.tc_base.specs.declared.reasons.Why.{Why}
use Rattle.tc_model.specs.XmlTextRefusals.{Cause, unsupported, too_deep}
use Rattle.tc_xml.specs.declared.faults.Stop.{Stop}
use Rattle.tc_xml.specs.declared.faults.Stop.TheVariants.{Malformed, Unsupported, TooDeep, NoMemory}

-- Malformed is said only where `any` holds, that there is no reading, not even with references to other entities; Unsupported only where
-- `strict` holds, that there is none without them. The depth of elements is no cause here.
abbrev pub Refuses : Stop → Type 0 → Type 0 → Type 0
Refuses (Malformed left) any strict = any
Refuses (Unsupported left why) any strict = strict
Refuses (TooDeep left) any strict = ⊥
Refuses NoMemory any strict = Unit {0}

-- The same where elements may stand too deep: `any` and `strict` speak of readings of any depth, and TooDeep is said only where
-- `shallow` holds, that there is no reading of the depth that is left, not even with references to other entities.
abbrev pub RefusesWithin : Stop → Type 0 → Type 0 → Type 0 → Type 0
RefusesWithin (Malformed left) any strict shallow = any
RefusesWithin (Unsupported left why) any strict shallow = strict
RefusesWithin (TooDeep left) any strict shallow = shallow
RefusesWithin NoMemory any strict shallow = Unit {0}

-- Unsupported is said only of a construct that `stands` at the bytes that are left. The depth of elements is no cause here.
abbrev pub UnsupportedAt : Stop → (Why → List ℕ → Type 0) → Type 0
UnsupportedAt (Malformed left) stands = Unit {0}
UnsupportedAt (Unsupported left why) stands = (at : List ℕ) × (left ≡ length at) × stands why at
UnsupportedAt (TooDeep left) stands = ⊥
UnsupportedAt NoMemory stands = Unit {0}

-- The same of an element that stands too deep.
abbrev pub RefusedAt : Stop → (Cause → List ℕ → Type 0) → Type 0
RefusedAt (Malformed left) stands = Unit {0}
RefusedAt (Unsupported left why) stands = (at : List ℕ) × (left ≡ length at) × stands (unsupported why) at
RefusedAt (TooDeep left) stands = (at : List ℕ) × (left ≡ length at) × stands too_deep at
RefusedAt NoMemory stands = Unit {0}

-- This holds where Malformed is said.
abbrev pub OnMalformed : Stop → Type 0 → Type 0
OnMalformed (Malformed left) P = P
OnMalformed (Unsupported left why) P = Unit {0}
OnMalformed (TooDeep left) P = Unit {0}
OnMalformed NoMemory P = Unit {0}
