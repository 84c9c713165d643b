-- What comes of a text.
use Rattle.std.specs.Prelude.{◌≡◌, ℕ, List}
use Rattle.tc_model.specs.RawTrees.{RawTrees}
use Rattle.tc_model.specs.Stripped.{stripped}
use Rattle.tc_model.specs.Trees.{Trees}
use Rattle.tc_model.specs.XmlTextRefusals.{Cause, XmlTextRefuses}
use Rattle.tc_stream.specs.XmlTextMeasures.{Measure, IsGood, PassesFirst, IsWithinMeasures}

-- it is good, and this document; a construct that isn't read stands at a place; or a measure passes at a place. A text of which none of these comes is malformed
pub data Outcome : Type 0 where
  document : Trees → Outcome
  refused : Cause → ℕ → Outcome
  passed : Measure → ℕ → Outcome

abbrev pub Comes : List ℕ → Outcome → Type 0
Comes bytes (document d) = (h : RawTrees) × IsGood bytes h × (d ≡ stripped h)
Comes bytes (refused cause place) = XmlTextRefuses bytes cause place × IsWithinMeasures bytes
Comes bytes (passed measure place) = PassesFirst bytes measure place

-- of one text comes one outcome
abbrev pub HasOneOutcome : Type 0
HasOneOutcome = (bytes : List ℕ) (o p : Outcome) → Comes bytes o → Comes bytes p → o ≡ p
