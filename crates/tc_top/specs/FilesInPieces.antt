-- What the validation of a held file in pieces decides.
use Rattle.std.specs.Prelude.{◌≡◌, ◌≤◌, ◌⊎◌, ◌↔◌, ℕ, List, length, Option, Some, codes}
use Rattle.tc_base.specs.declared.limits.TheConstants.{LONGEST_TAG, MOST_NAMES}
use Rattle.tc_answer.specs.Answers.{refused, text_of}
use Rattle.tc_answer.specs.Lines.{line, limit_line, limit_word}
use Rattle.tc_answer.specs.SchemaWords.{file_of}
use Rattle.tc_answer.specs.Words.{valid_in_pieces, Words}
use Rattle.tc_answer.specs.declared.status.Status.{Status}
use Rattle.tc_answer.specs.declared.status.Status.TheVariants.{Yes, No, Refused, Limit}
use Rattle.tc_base.specs.declared.Limit as kinds
use Rattle.tc_io.specs.Sink.{Appended}
use Rattle.tc_io.specs.Store.{Files, longest_file}
use Rattle.tc_model.specs.Grammars.{Grammar}
use Rattle.tc_model.specs.Validity.{IsValid}
use Rattle.tc_read.specs.declared.faults.Reason.{Reason}
use Rattle.tc_stream.specs.XmlTextMeasures.{tag, names, PassesFirst}
use Rattle.tc_decide.specs.Validating.{PassesValidity}
use Rattle.tc_decide.specs.Pieces.{SpellsGood, IsNoDocumentInPieces, IsRefusedInPieces, PassesInPieces}
use Rattle.tc_decide.specs.declared.failure.Kind.{Kind}
use Rattle.tc_decide.specs.Limits.{IsValidityWithin}
use Rattle.tc_top.specs.SchemaTexts.{SchemaText}

-- the words validate a held file of this name and these bytes, in pieces, by a held schema whose text spells this grammar
pub record ValidatesFilesInPieces (words : List (List ℕ)) (files : Files) (g : Grammar) (name bytes : List ℕ) : Type 0 where
  pub size : ℕ
  pub schema : List ℕ
  pub words_are : Words words (valid_in_pieces size schema name)
  pub schema_text : List ℕ
  pub schema_held : files (file_of schema) ≡ Some schema_text
  pub document_held : files name ≡ Some bytes
  pub schema_short : length schema_text ≤ longest_file
  pub document_short : length bytes ≤ longest_file
  pub schema_spells : SchemaText schema schema_text g

-- Where the schema keeps to its limits, yes exactly where the bytes are a good text whose document is valid, no exactly where they are one whose document
-- isn't, refused exactly where they are no document's text and no measure passes in them. Else a limit that is passed. Each has its line.
pub record DecidesValidityInPieces (status : Status) (old new : Option (List ℕ)) (g : Grammar) (name bytes : List ℕ) : Type 0 where
  pub yes : (status ≡ Yes) ↔ (IsValidityWithin g × SpellsGood bytes (λ d. IsValid g d))
  pub no : (status ≡ No) ↔ (IsValidityWithin g × SpellsGood bytes (λ d. ¬ (IsValid g d)))
  pub refusal : (status ≡ Refused) ↔ (IsValidityWithin g × IsNoDocumentInPieces bytes)
  pub limit : (status ≡ Limit) ↔ ((kind : Kind) × (number : ℕ) × PassesInPieces g bytes kind number)
  pub one : (status ≡ Yes) ⊎ ((status ≡ No) ⊎ ((status ≡ Refused) ⊎ (status ≡ Limit)))
  pub yes_text : status ≡ Yes → Appended old new (line (codes "valid"))
  pub no_text : status ≡ No → Appended old new (line (codes "invalid"))
  pub refused_text : status ≡ Refused → (reason : Reason) × (place : ℕ) × IsRefusedInPieces bytes reason place × Appended old new (text_of (refused name reason place))
  pub schema_text : (kind : kinds.Limit) (number : ℕ) → PassesValidity g kind number → Appended old new (limit_line (limit_word kind) number)
  pub tag_text : (place : ℕ) → IsValidityWithin g → PassesFirst bytes tag place → Appended old new (limit_line (codes "tag") LONGEST_TAG)
  pub names_text : (place : ℕ) → IsValidityWithin g → PassesFirst bytes names place → Appended old new (limit_line (codes "names") MOST_NAMES)
