-- What a call decides, where the store tells the texts.
use Rattle.std.specs.Prelude.{◌≡◌, ◌≤◌, ◌⊎◌, ◌↔◌, ℕ, List, length, Option, Some, codes}
use Rattle.tc_base.specs.declared.limits.TheConstants.{MOST_SHOWN_NODES}
use Rattle.tc_base.specs.declared.Limit as kinds
use Rattle.tc_io.specs.Store.{Files, longest_file}
use Rattle.tc_io.specs.Sink.{Appended}
use Rattle.tc_model.specs.Trees.{Trees}
use Rattle.tc_model.specs.Grammars.{Grammar}
use Rattle.tc_model.specs.Sheets.{Sheet}
use Rattle.tc_model.specs.Safety.{IsSafe, IsCounterexample, IsResultOf}
use Rattle.tc_model.specs.Printed.{printed}
use Rattle.tc_model.specs.Validity.{IsValid}
use Rattle.tc_print.specs.ReadBack.{IsReadAs}
use Rattle.tc_read.specs.Sheets.{IsSheetOf}
use Rattle.tc_run.specs.Limits.{KeepsLimits}
use Rattle.tc_decide.specs.RowCounts.{RowCount}
use Rattle.tc_answer.specs.Lines.{limit_word, line, limit_line, count_word, safe_line, unsafe_lines, unsafe_large_lines}
use Rattle.tc_decide.specs.Checking.{most_of, IsWithinTripleLimits, PassesTripleLimit, HasManyRows, HasFewRows, AreRowCounts, IsLeastCounter, HasSmallCounter, HasLargeCounters, IsLargeRun}
use Rattle.tc_decide.specs.Limits.{IsValidityWithin}
use Rattle.tc_answer.specs.SchemaWords.{file_of}
use Rattle.tc_answer.specs.Words.{check, run, valid, Words}
use Rattle.tc_top.specs.SchemaTexts.{SchemaText}
use Rattle.tc_answer.specs.declared.status.Status.{Status}
use Rattle.tc_answer.specs.declared.status.Status.TheVariants.{Yes, No, Limit, ReadFault, WriteFault, NoMemory}

-- the call was cut short: memory was refused; or a read failed, or a write, where the count of such faults rose
abbrev pub IsCutShort : Status → Type 0 → Type 0 → Type 0
IsCutShort status read wrote = (status ≡ NoMemory) ⊎ (((status ≡ WriteFault) × wrote) ⊎ ((status ≡ ReadFault) × read))

-- the words are a check of held files whose texts spell two schemas and a stylesheet
pub record ChecksFiles (words : List (List ℕ)) (files : Files) (limit : Option ℕ) (i o : Grammar) (s : Sheet) : Type 0 where
  pub input : List ℕ
  pub output : List ℕ
  pub sheet : List ℕ
  pub words_are : Words words (check limit input output sheet)
  pub input_text : List ℕ
  pub output_text : List ℕ
  pub sheet_text : List ℕ
  pub input_held : files (file_of input) ≡ Some input_text
  pub output_held : files (file_of output) ≡ Some output_text
  pub sheet_held : files sheet ≡ Some sheet_text
  pub input_spells : SchemaText input input_text i
  pub output_spells : SchemaText output output_text o
  pub sheet_spells : IsSheetOf sheet_text s

-- and none of the files is longer than a file may be
pub record ChecksShortFiles (words : List (List ℕ)) (files : Files) (limit : Option ℕ) (i o : Grammar) (s : Sheet) : Type 0 where
  pub checks : ChecksFiles words files limit i o s
  pub input_short : length checks.input_text ≤ longest_file
  pub output_short : length checks.output_text ≤ longest_file
  pub sheet_short : length checks.sheet_text ≤ longest_file

-- what is written is a counterexample, and its result, unless that is too large
pub data ShowsCounterexample (old new : Option (List ℕ)) (i o : Grammar) (s : Sheet) : Type 0 where
  shows_both : {document result : Trees} → IsCounterexample i o s document result → Appended old new (unsafe_lines document result) → ShowsCounterexample old new i o s
  shows_document : {document result : Trees} → IsCounterexample i o s document result → Appended old new (unsafe_large_lines document) → ShowsCounterexample old new i o s

-- what is written is the document, and its result exactly where its run keeps to the limits
pub data ShowsRun (old new : Option (List ℕ)) (s : Sheet) (document : Trees) : Type 0 where
  shows_result : {result : Trees} → KeepsLimits s document → IsResultOf s document result → Appended old new (unsafe_lines document result) → ShowsRun old new s document
  shows_large : IsLargeRun s document → Appended old new (unsafe_large_lines document) → ShowsRun old new s document

-- a limit is told, which is passed while none is that is tried before it
pub data IsLimited (most : ℕ) (i o : Grammar) (s : Sheet) : Type 0 where
  limited_before_rows : {kind : kinds.Limit} {number : ℕ} → PassesTripleLimit i o s kind number → IsLimited most i o s
  limited_in_rows : (count : RowCount) → IsWithinTripleLimits i o s → HasManyRows i o s most count → IsLimited most i o s
  limited_in_nodes : IsWithinTripleLimits i o s → HasFewRows i o s most → HasLargeCounters i o s → IsLimited most i o s

-- yes exactly where no limit is passed and the stylesheet is safe, with the numbers of rows; no exactly where none is passed and there is a
-- counterexample that can be shown, with a least one and its result; and else a limit that is passed
pub record DecidesSafety (status : Status) (old new : Option (List ℕ)) (most : ℕ) (i o : Grammar) (s : Sheet) : Type 0 where
  pub yes : (status ≡ Yes) ↔ (IsWithinTripleLimits i o s × HasFewRows i o s most × IsSafe i o s)
  pub no : (status ≡ No) ↔ (IsWithinTripleLimits i o s × HasFewRows i o s most × HasSmallCounter i o s)
  pub limit : (status ≡ Limit) ↔ IsLimited most i o s
  pub one : (status ≡ Yes) ⊎ ((status ≡ No) ⊎ (status ≡ Limit))
  pub yes_text : status ≡ Yes → (trees : ℕ) × (hedges : ℕ) × (outputs : ℕ) × AreRowCounts i o s trees hedges outputs × Appended old new (safe_line trees hedges outputs)
  pub no_text : status ≡ No → (document : Trees) × IsLeastCounter i o s document × IsReadAs (printed document) document × ShowsRun old new s document
  pub before_rows_text : (kind : kinds.Limit) (number : ℕ) → PassesTripleLimit i o s kind number → Appended old new (limit_line (limit_word kind) number)
  pub rows_text : (count : RowCount) → IsWithinTripleLimits i o s → HasManyRows i o s most count
      → (named : RowCount) × HasManyRows i o s most named × Appended old new (limit_line (count_word named) (most_of most named))
  pub nodes_text : IsWithinTripleLimits i o s → HasFewRows i o s most → HasLargeCounters i o s → Appended old new (limit_line (codes "counterexample") MOST_SHOWN_NODES)

-- the words validate a held file by a held schema, whose texts spell this document and this grammar, which passes no limit
pub record ValidatesFiles (words : List (List ℕ)) (files : Files) (g : Grammar) (d : Trees) : Type 0 where
  pub schema : List ℕ
  pub document : List ℕ
  pub words_are : Words words (valid schema document)
  pub schema_text : List ℕ
  pub document_text : List ℕ
  pub schema_held : files (file_of schema) ≡ Some schema_text
  pub document_held : files document ≡ Some document_text
  pub schema_short : length schema_text ≤ longest_file
  pub document_short : length document_text ≤ longest_file
  pub schema_spells : SchemaText schema schema_text g
  pub document_spells : IsReadAs document_text d
  pub within : IsValidityWithin g

-- yes exactly where the document is valid, and no exactly where it isn't, each with its line
pub record DecidesValidity (status : Status) (old new : Option (List ℕ)) (g : Grammar) (d : Trees) : Type 0 where
  pub yes : (status ≡ Yes) ↔ IsValid g d
  pub no : (status ≡ No) ↔ ¬ (IsValid g d)
  pub yes_text : status ≡ Yes → Appended old new (line (codes "valid"))
  pub no_text : status ≡ No → Appended old new (line (codes "invalid"))

-- the words run a held stylesheet on a held document
pub record RunsFiles (words : List (List ℕ)) (files : Files) (s : Sheet) (d : Trees) : Type 0 where
  pub sheet : List ℕ
  pub document : List ℕ
  pub words_are : Words words (run sheet document)
  pub sheet_text : List ℕ
  pub document_text : List ℕ
  pub sheet_held : files sheet ≡ Some sheet_text
  pub document_held : files document ≡ Some document_text
  pub sheet_short : length sheet_text ≤ longest_file
  pub document_short : length document_text ≤ longest_file
  pub sheet_spells : IsSheetOf sheet_text s
  pub document_spells : IsReadAs document_text d

-- yes comes with the result of the document, in a line
abbrev pub GivesResult : Status → Option (List ℕ) → Option (List ℕ) → Sheet → Trees → Type 0
GivesResult status old new s d = status ≡ Yes → (result : Trees) × IsResultOf s d result × Appended old new (line (printed result))
