-- A tag that is kept, at the root element or in content: where it stands, what follows it, and what is told of one that isn't read.
use Rattle.std.specs.Prelude.{◌≡◌, ◌<◌, ◌≤◌, ◌+◌, ◌↔◌, ◌==◌, ℕ, true, false, not, List, [], ◌∷◌, ◌++◌, Option, None, length, take, codes, encode_utf8, IsTrue}
use Rattle.std.specs.List.{list_all}
use Rattle.tc_base.specs.declared.reasons.Why.{Why}
use Rattle.tc_model.specs.Grammars.{Grammar}
use Rattle.tc_model.specs.Names.{IsChars, is_ncname_start}
use Rattle.tc_model.specs.RawTrees.{Bound}
use Rattle.tc_model.specs.XmlTextRefusals.{TagRefuses}
use Rattle.tc_tags.specs.Forms.{FormRead, Refuses, UnsupportedAt, OnMalformed}
use Rattle.tc_stream.specs.From.{Standing, open_in, StillComes}
use Rattle.tc_tags.specs.Begins.{BeginsTag}
use Rattle.tc_stream.specs.Goes.{Level}
use Rattle.tc_stream.specs.Keeps.{AreSteps, Keeps}
use Rattle.tc_stream.specs.Outcomes.{Outcome, Comes}
use Rattle.tc_stream.specs.Scans.{ended, quoted, tag_scan}
use Rattle.tc_stream.specs.Stands.{Tells}
use Rattle.tc_tags.specs.XmlTextTags.{WrittenElement, TagFormAt}
use Rattle.tc_stream.specs.declared.elements.Elements.{Elements}
use Rattle.tc_stream.specs.declared.elements.NoElement.{NoElement}
use Rattle.tc_stream.specs.declared.elements.NoElement.TheVariants as elements
use Rattle.tc_stream.specs.declared.faults.StreamFault.{StreamFault}
use Rattle.tc_stream.specs.declared.faults.StreamFault.TheVariants as faults
use Rattle.tc_stream.specs.declared.parts.Part.TheVariants as parts
use Rattle.tc_stream.specs.declared.phases.Phase.{Phase}
use Rattle.tc_stream.specs.declared.phases.Phase.TheVariants as phases
use Rattle.tc_stream.specs.declared.tag_reading.Scanned.{Scanned}
use Rattle.tc_stream.specs.declared.tag_reading.Scanned.TheVariants as scans
use Rattle.tc_tags.specs.declared.tags.Form.{Form}
use Rattle.tc_tags.specs.declared.tags.NoForm.{NoForm}
use Rattle.tc_tags.specs.declared.tags.NoForm.TheVariants as stops

-- how far a tag goes in some bytes, within these quotes or none
abbrev pub TellsScanned : Option ℕ → List ℕ → Scanned → Type 0
TellsScanned quote bytes (scans.Within next) = tag_scan quote bytes ≡ quoted next
TellsScanned quote bytes (scans.Ended count) = (0 < count) × (count ≤ length bytes) × (tag_scan quote (take count bytes) ≡ ended [])

-- These characters end with a tag or with the first ones of one: in which elements it stands there, what has come since the last tag, and that for every
-- continuation what comes of the whole is exactly what still comes from its `<` on.
pub record TagStands (x : Grammar) (e : Elements) (place : ℕ) (item chars : List ℕ) : Type 0 where
  pub before : List ℕ
  pub parts_are : chars ≡ before ++ item
  pub stands : place ≡ length before
  pub before_chars : IsChars before
  pub item_chars : IsChars item
  pub ls : List Level
  pub scope : List Bound
  pub run : List ℕ
  pub keeps : Keeps e ls scope
  pub steps : AreSteps x e.validity ls run
  pub comes : (r : List ℕ) (o : Outcome) → Comes (chars ++ r) o ↔ StillComes (length before) phases.Content (open_in ls scope run) (item ++ r) o

-- a start tag or an empty-element tag, or an end tag, up to its `>`
pub record IsStartTag (item : List ℕ) : Type 0 where
  pub char : ℕ
  pub rest : List ℕ
  pub opens : item ≡ 0x3C ∷ (encode_utf8 char ++ rest)
  pub starts : is_ncname_start char ≡ true
  pub ends : tag_scan None item ≡ ended []

pub record IsEndTag (item : List ℕ) : Type 0 where
  pub begins : BeginsTag item
  pub slash : begins.next ≡ 0x2F
  pub inside : List ℕ
  pub parts : item ≡ inside ++ 0x3E ∷ []
  pub free : IsTrue (list_all (λ b. not (b == 0x3E)) inside)

-- behind a tag: in these elements content goes on, or the root element has ended
pub record StandsBehind (x : Grammar) (e : Elements) (chars : List ℕ) : Type 0 where
  pub phase : Phase
  pub standing : Standing
  pub characters : IsChars chars
  pub tells : Tells x [] parts.Between e phase standing
  pub inside : (e.levels.items ≡ [] → ⊥) → phase ≡ phases.Content
  pub outside : e.levels.items ≡ [] → phase ≡ phases.End
  pub comes : (r : List ℕ) (o : Outcome) → Comes (chars ++ r) o ↔ StillComes (length chars) phase standing r o

-- the fault of a tag of so many bytes that stands at a place and isn't read for a reason
abbrev pub TellsFault : StreamFault → NoForm → ℕ → ℕ → Type 0
TellsFault (faults.Malformed p) (stops.Malformed at) place count = p.0 ≤ place + count
TellsFault (faults.Unsupported p reason) (stops.Unsupported at why) place count = (reason ≡ why) × (at ≤ count → p.0 ≡ place + at)
TellsFault _ _ place count = ⊥

-- the fault of a tag at a place whose element isn't gone into
abbrev pub TellsNoElement : StreamFault → NoElement → ℕ → Type 0
TellsNoElement faults.NamesTooLong elements.NamesTooLong place = Unit {0}
TellsNoElement (faults.Malformed p) elements.Malformed place = p.0 ≡ place
TellsNoElement _ _ place = ⊥

-- what is told of a start tag or an empty-element tag that has no form
pub record NoFormTold (tag : List ℕ) (stop : NoForm) : Type 0 where
  pub none_open : Refuses stop ((e : WrittenElement) → TagFormAt true (length tag) tag e (codes ">") → ⊥) ((e : WrittenElement) → TagFormAt false (length tag) tag e (codes ">") → ⊥)
  pub none_empty : Refuses stop ((e : WrittenElement) → TagFormAt true (length tag) tag e (codes "/>") → ⊥) ((e : WrittenElement) → TagFormAt false (length tag) tag e (codes "/>") → ⊥)
  pub stands : UnsupportedAt (length tag) stop (TagRefuses tag)
  pub malformed : OnMalformed stop ((why : Why) (at : List ℕ) → TagRefuses tag why at → ⊥)

-- the fault of a start tag or an empty-element tag
pub data TagTold (fault : StreamFault) (tag : List ℕ) (place : ℕ) : Type 0 where
  formless : (stop : NoForm) → TellsFault fault stop place (length tag) → NoFormTold tag stop → TagTold fault tag place
  whole : {f : Form} {w : WrittenElement} → FormRead tag f w → TagTold fault tag place
