-- What a fault says of a text.
use Rattle.std.specs.Prelude.{◌≤◌, ℕ, List, ◌++◌, length, true, false}
use Rattle.tc_model.specs.RawTrees.{RawTrees}
use Rattle.tc_model.specs.XmlText.{XmlText, Reads, deepest_element}
use Rattle.tc_model.specs.XmlTextRefusals.{Cause, unsupported, too_deep, XmlTextRefuses, IsNotRefused}
use Rattle.tc_stream.specs.XmlTextMeasures.{Measure, tag, names, IsGood, PassesFirst, IsWithinMeasures}
use Rattle.tc_stream.specs.declared.faults.StreamFault.{StreamFault}
use Rattle.tc_stream.specs.declared.faults.StreamFault.TheVariants as faults

-- Malformed: it has no raw tree, and reading comes to no construct that isn't read and to no element that stands too deep. Unsupported, TooDeep: it comes
-- to such a one at the place, so that it has no raw tree either. No measure passes then. TagTooLong, NamesTooLong: this measure passes first.
abbrev pub IsFaultOf : List ℕ → StreamFault → Type 0
IsFaultOf bytes (faults.Malformed place) = (place.0 ≤ length bytes) × ((h : RawTrees) → XmlText bytes h → ⊥) × IsNotRefused bytes × IsWithinMeasures bytes
IsFaultOf bytes (faults.Unsupported place why) = XmlTextRefuses bytes (unsupported why) place.0 × IsWithinMeasures bytes
IsFaultOf bytes (faults.TooDeep place) = XmlTextRefuses bytes too_deep place.0 × IsWithinMeasures bytes
IsFaultOf bytes faults.TagTooLong = (place : ℕ) × PassesFirst bytes tag place
IsFaultOf bytes faults.NamesTooLong = (place : ℕ) × PassesFirst bytes names place

-- What a whole text with this fault is refused for, one that is read at once: nothing is read of it with other entities either, or with elements that
-- stand deeper.
abbrev pub IsFaultOfWhole : List ℕ → StreamFault → Type 0
IsFaultOfWhole bytes (faults.Malformed place) = (place.0 ≤ length bytes) × ((deepest : ℕ) (h : RawTrees) → Reads true deepest bytes h → ⊥) × IsNotRefused bytes
IsFaultOfWhole bytes (faults.Unsupported place why) = XmlTextRefuses bytes (unsupported why) place.0 × ((deepest : ℕ) (h : RawTrees) → Reads false deepest bytes h → ⊥)
IsFaultOfWhole bytes (faults.TooDeep place) = XmlTextRefuses bytes too_deep place.0 × ((h : RawTrees) → Reads true deepest_element bytes h → ⊥)
IsFaultOfWhole bytes _ = Unit {0}

-- a text is given up in pieces for what a whole one is refused for, or because a measure passes
abbrev pub HasCausesOfWhole : Type 0
HasCausesOfWhole = (bytes : List ℕ) (fault : StreamFault) → IsFaultOf bytes fault → IsFaultOfWhole bytes fault

-- it is the fault of a text however that goes on
abbrev pub IsFaultOfFront : List ℕ → StreamFault → Type 0
IsFaultOfFront bytes fault = (r : List ℕ) → IsFaultOf (bytes ++ r) fault

-- no text that begins so is good
abbrev pub IsHopeless : List ℕ → Type 0
IsHopeless bytes = (r : List ℕ) (h : RawTrees) → IsGood (bytes ++ r) h → ⊥

-- the fault of a measure that passes, and of what is refused at a place
abbrev pub limit_of : Measure → StreamFault
limit_of tag = faults.TagTooLong
limit_of names = faults.NamesTooLong

abbrev pub fault_by : Cause → ℕ → StreamFault
fault_by (unsupported why) place = faults.Unsupported (record { 0 = place }) why
fault_by too_deep place = faults.TooDeep (record { 0 = place })

-- a measure passes
abbrev pub IsLimit : StreamFault → Type 0
IsLimit faults.TagTooLong = Unit {0}
IsLimit faults.NamesTooLong = Unit {0}
IsLimit _ = ⊥
