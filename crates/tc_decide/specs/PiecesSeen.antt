-- What contracts see of a document that comes in pieces.
use Rattle.std.specs.Prelude.{◌≡◌, ◌↔◌, IsTrue, ℕ, List, Ok, Err}
use Rattle.tc_base.specs.declared.limits.TheConstants.{LONGEST_TAG, MOST_NAMES}
use Rattle.tc_decide.specs.Limits.{IsValidityWithin}
use Rattle.tc_decide.specs.Pieces.{PassesInPieces, IsRefusedInPieces, TellsRefusalInPieces}
use Rattle.tc_decide.specs.Texts.{Spells}
use Rattle.tc_decide.specs.Validating.{Judgement}
use Rattle.tc_decide.specs.declared.failure.Failure.{Failure}
use Rattle.tc_decide.specs.declared.failure.Failure.TheVariants.{Refused, Passes, NoMemory}
use Rattle.tc_decide.specs.declared.failure.Kind.TheVariants.{Pieces}
use Rattle.tc_decide.specs.declared.failure.PieceMeasure.TheVariants.{Tag, Names}
use Rattle.tc_decide.specs.declared.failure.Which.TheVariants as which
use Rattle.tc_decide.specs.declared.schemas.SchemaText.{SchemaText}
use Rattle.tc_model.specs.Grammars.{Grammar}
use Rattle.tc_model.specs.RawTrees.{RawTrees}
use Rattle.tc_model.specs.Stripped.{stripped}
use Rattle.tc_model.specs.Validity.{IsValid}
use Rattle.tc_model.specs.Views.{place}
use Rattle.tc_read.specs.declared.faults.Reason.TheVariants as reasons
use Rattle.tc_stream.specs.XmlTextMeasures.{IsGood}
use Rattle.tc_stream.specs.declared.faults.StreamFault.{StreamFault}
use Rattle.tc_stream.specs.declared.faults.StreamFault.TheVariants as faults

-- the failure that a fault of a document in pieces is
abbrev pub of_stream : StreamFault → Failure
of_stream (faults.Malformed at) = Refused which.Document reasons.Malformed at
of_stream (faults.Unsupported at why) = Refused which.Document (reasons.Unsupported why) at
of_stream (faults.TooDeep at) = Refused which.Document reasons.TooDeep at
of_stream faults.TagTooLong = Passes (Pieces Tag) LONGEST_TAG
of_stream faults.NamesTooLong = Passes (Pieces Names) MOST_NAMES

-- what is told of the bytes by a schema
abbrev pub TellsInPieces : Grammar → List ℕ → Judgement → Type 0
TellsInPieces g bytes (Ok valid) = IsValidityWithin g × ((h : RawTrees) × IsGood bytes h × (IsTrue valid ↔ IsValid g (stripped h)))
TellsInPieces g bytes (Err (Refused found reason at)) = (found ≡ which.Document) × IsValidityWithin g × IsRefusedInPieces bytes reason (place at)
TellsInPieces g bytes (Err (Passes kind number)) = PassesInPieces g bytes kind number
TellsInPieces g bytes (Err NoMemory) = Unit {0}

-- and of texts
pub record IsFoundInPieces (schema : SchemaText) (bytes : List ℕ) (judgement : Judgement) : Type 0 where
  pub refusal : TellsRefusalInPieces schema bytes judgement
  pub found : (g : Grammar) → Spells schema g → TellsInPieces g bytes judgement
