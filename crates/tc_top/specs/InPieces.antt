-- What a schema and a document that comes in pieces decide. The limits of the schema come first: nothing is said of a document before they are kept.
use Rattle.std.specs.Prelude.{ℕ, List}
use Rattle.tc_answer.specs.Answers.{Answer, over_limit, refused, tag_limit, names_limit, is_valid, is_invalid}
use Rattle.tc_base.specs.declared.Limit.{Limit}
use Rattle.tc_model.specs.Grammars.{Grammar}
use Rattle.tc_model.specs.RawTrees.{RawTrees}
use Rattle.tc_model.specs.Stripped.{stripped}
use Rattle.tc_model.specs.Validity.{IsValid}
use Rattle.tc_read.specs.declared.faults.Reason.{Reason}
use Rattle.tc_stream.specs.XmlTextMeasures.{tag, names, IsGood, PassesFirst}
use Rattle.tc_decide.specs.Limits.{IsValidityWithin}
use Rattle.tc_decide.specs.Pieces.{IsRefusedInPieces}
use Rattle.tc_decide.specs.Validating.{PassesValidity}
use Rattle.tc_top.specs.SchemaTexts.{SchemaText, IsRefusedText}

-- What a schema and the bytes of a document decide, whose operand has this name; into which pieces they are cut makes no difference, but that the place of
-- a malformed document is left open. Where a measure passes, that comes before anything that stands behind its place.
pub data DecidesInPieces (g : Grammar) (name bytes : List ℕ) : Answer → Type 0 where
  schema_limited : {kind : Limit} {number : ℕ} → PassesValidity g kind number → DecidesInPieces g name bytes (over_limit kind number)
  text_refused : {reason : Reason} {place : ℕ} → IsValidityWithin g → IsRefusedInPieces bytes reason place → DecidesInPieces g name bytes (refused name reason place)
  tag_passed : {place : ℕ} → IsValidityWithin g → PassesFirst bytes tag place → DecidesInPieces g name bytes tag_limit
  names_passed : {place : ℕ} → IsValidityWithin g → PassesFirst bytes names place → DecidesInPieces g name bytes names_limit
  document_valid : {h : RawTrees} → IsValidityWithin g → IsGood bytes h → IsValid g (stripped h) → DecidesInPieces g name bytes is_valid
  document_invalid : {h : RawTrees} → IsValidityWithin g → IsGood bytes h → ¬ (IsValid g (stripped h)) → DecidesInPieces g name bytes is_invalid

-- what `valid --stream` answers on the texts of its operands
pub data ValidatesInPieces (schema document schema_text document_text : List ℕ) : Answer → Type 0 where
  schema_is_refused : {reason : Reason} {place : ℕ} → IsRefusedText schema schema_text reason place → ValidatesInPieces schema document schema_text document_text (refused schema reason place)
  schema_is_read : {g : Grammar} {answer : Answer} → SchemaText schema schema_text g → DecidesInPieces g document document_text answer
      → ValidatesInPieces schema document schema_text document_text answer
