-- A text of which nothing comes is malformed.
use Rattle.std.proofs.Common.{inl, inr, ◌⊎◌, ℕ, suc, ◌<◌, ◌≤◌, List, refl, length, arith}
use Rattle.std.specs.Prelude.{zero}
use Rattle.tc_base.specs.declared.Place.{Place}
use Rattle.tc_base.specs.declared.reasons.Why.{Why}
use Rattle.tc_model.specs.RawTrees.{RawTrees}
use Rattle.tc_model.specs.Stripped.{stripped}
use Rattle.tc_model.specs.XmlText.{XmlText}
use Rattle.tc_model.specs.XmlTextBytes.{FrontOf}
use Rattle.tc_model.specs.XmlTextRefusals.{unsupported, IsNotRefused}
use Rattle.tc_model.proofs.XmlTextRefused.{whole_front}
use Rattle.tc_stream.specs.XmlTextMeasures.{Measure, PassesAt, PassesFirst, IsWithinMeasures}
use Rattle.tc_stream.specs.Outcomes.{Outcome, document, refused, passed, Comes}
use Rattle.tc_stream.specs.Faults.{IsFaultOf}
use Rattle.tc_stream.specs.declared.faults.StreamFault.TheVariants as faults
use Rattle.tc_stream.proofs.LengthLaws.{at_most_or_more}
use Rattle.tc_stream.proofs.OutcomeLaws.{good_of}

-- nothing comes of it
abbrev pub ComesToNothing : List ℕ → Type 0
ComesToNothing bytes = (o : Outcome) → Comes bytes o → ⊥

first_passes : {bytes front : List ℕ} {measure : Measure} {place : ℕ} → FrontOf bytes front → PassesAt front measure place
    → ((other : Measure) (earlier : ℕ) → earlier < place → PassesAt front other earlier → ⊥) → PassesFirst bytes measure place
first_passes {front = front} {place = place} k passes before = record {
  front = front;
  is_front = k;
  passes = passes;
  first = λ other elsewhere there. by other elsewhere there (at_most_or_more place elsewhere);
}
  where
    by : (other : Measure) (elsewhere : ℕ) → PassesAt front other elsewhere → (place ≤ elsewhere) ⊎ (elsewhere < place) → place ≤ elsewhere
    by other elsewhere there (inl low) = low
    by other elsewhere there (inr low) = absurd (before other elsewhere low there)

none_passes : {bytes front : List ℕ} (n : ℕ) → ComesToNothing bytes → FrontOf bytes front → (measure : Measure) (place : ℕ) → place < n → PassesAt front measure place → ⊥
none_passes zero nothing k measure place low passes = omega (arith, low)
none_passes (suc n) nothing k measure place low passes =
    nothing (passed measure place) (first_passes k passes (λ other earlier less there. none_passes n nothing k other earlier (omega (arith, low, less)) there))

within_measures : {bytes : List ℕ} → ComesToNothing bytes → IsWithinMeasures bytes
within_measures nothing front measure place k passes = none_passes (suc place) nothing k measure place (omega arith) passes

not_refused : {bytes : List ℕ} → ComesToNothing bytes → IsNotRefused bytes
not_refused nothing cause place x = nothing (refused cause place) (x, within_measures nothing)

no_tree : {bytes : List ℕ} → ComesToNothing bytes → (h : RawTrees) → XmlText bytes h → ⊥
no_tree {bytes} nothing h x =
    nothing (document (stripped h)) (h, good_of x (λ measure place passes. within_measures nothing bytes measure place (whole_front x.characters) passes), refl)

pub malformed_fault : (bytes : List ℕ) (place : Place) → place.0 ≤ length bytes → ComesToNothing bytes → IsFaultOf bytes (faults.Malformed place)
malformed_fault bytes place low nothing = (low, no_tree nothing, not_refused nothing, within_measures nothing)

pub unsupported_fault : (bytes : List ℕ) (place : Place) (why : Why) → Comes bytes (refused (unsupported why) place.0) → IsFaultOf bytes (faults.Unsupported place why)
unsupported_fault bytes place why c = c
