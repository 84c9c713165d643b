-- What a fault says of the text that is refused.
-- Malformed is said exactly where there is no tree and reading comes to nothing that is refused. Its place is
-- where reading stops; no more is said of it than that it isn't past the end.
use Rattle.std.specs.Prelude.{◌≤◌, ◌-◌, ℕ, true, false, List, length}
use Rattle.tc_model.specs.RawTrees.{RawTrees}
use Rattle.tc_model.specs.XmlText.{Reads, deepest_element}
use Rattle.tc_model.specs.XmlTextRefusals.{unsupported, too_deep, XmlTextRefuses, IsNotRefused}
use Rattle.tc_xml.specs.declared.faults.XmlFault.{XmlFault}
use Rattle.tc_xml.specs.declared.faults.XmlFault.TheVariants as faults
use Rattle.tc_xml.specs.declared.faults.Stop.{Stop}
use Rattle.tc_xml.specs.declared.faults.Stop.TheVariants as stops

-- Malformed: there is no tree, not even of any depth and with references to other entities read as `&lt;` is, and reading comes to no construct that
-- isn't read and to no element that stands too deep. Unsupported: it comes to such a construct at the place. TooDeep: it comes to such an element there.
-- Then there is no tree without these, of any depth, and none of this depth with these references.
abbrev pub IsFaultOf : List ℕ → XmlFault → Type 0
IsFaultOf bytes (faults.Malformed place) = (place.0 ≤ length bytes) × ((deepest : ℕ) (h : RawTrees) → Reads true deepest bytes h → ⊥) × IsNotRefused bytes
IsFaultOf bytes (faults.Unsupported place why) = XmlTextRefuses bytes (unsupported why) place.0 × ((deepest : ℕ) (h : RawTrees) → Reads false deepest bytes h → ⊥)
IsFaultOf bytes (faults.TooDeep place) = XmlTextRefuses bytes too_deep place.0 × ((h : RawTrees) → Reads true deepest_element bytes h → ⊥)
IsFaultOf bytes faults.NoMemory = Unit {0}

-- the fault of a text of so many bytes
abbrev pub fault_of : ℕ → Stop → XmlFault
fault_of total (stops.Malformed left) = faults.Malformed (record { 0 = total - left })
fault_of total (stops.Unsupported left why) = faults.Unsupported (record { 0 = total - left }) why
fault_of total (stops.TooDeep left) = faults.TooDeep (record { 0 = total - left })
fault_of total stops.NoMemory = faults.NoMemory
