-- What the texts of operands decide, by the command: each answer with its cause.
use Rattle.std.specs.Prelude.{◌<◌, ℕ, List}
use Rattle.tc_base.specs.declared.Limit as kinds
use Rattle.tc_model.specs.Trees.{Trees}
use Rattle.tc_model.specs.Grammars.{Grammar}
use Rattle.tc_model.specs.Sheets.{Sheet}
use Rattle.tc_model.specs.Safety.{IsSafe, Transforms, IsResultOf}
use Rattle.tc_model.specs.Outcomes.{Outcome}
use Rattle.tc_model.specs.Validity.{IsValid}
use Rattle.tc_print.specs.ReadBack.{IsReadAs}
use Rattle.tc_base.specs.declared.limits.TheConstants.{MOST_WORK, MOST_OPEN}
use Rattle.tc_read.specs.Sheets.{IsSheetOf}
use Rattle.tc_run.specs.Limits.{KeepsLimits}
use Rattle.tc_decide.specs.RowCounts.{RowCount}
use Rattle.tc_decide.specs.Checking.{most_of, IsWithinTripleLimits, PassesTripleLimit, HasManyRows, HasFewRows, AreRowCounts, IsLeastCounter, HasLargeCounters, IsLargeRun}
use Rattle.tc_read.specs.Refusals.{IsRefusedDocument, IsRefusedSheet}
use Rattle.tc_read.specs.declared.faults.Reason.{Reason}
use Rattle.tc_top.specs.SchemaTexts.{SchemaText, IsRefusedText}
use Rattle.tc_decide.specs.Limits.{symbols_of_sheet, IsValidityWithin, IsWithinSheetLimits, SheetPasses, IsRunWithin}
use Rattle.tc_decide.specs.Validating.{PassesValidity}
use Rattle.tc_answer.specs.declared.status.Status.TheVariants.{Limit}
use Rattle.tc_answer.specs.Answers.{Answer, safe, unsafe, unsafe_large, rows_limit, counterexample_limit, refused, over_limit, is_valid, is_invalid, has_result, work_limit, open_limit}

-- what two schemas and a stylesheet decide, with so many rows of trees and of lists of trees at most
pub data Finds (most : ℕ) (i o : Grammar) (s : Sheet) : Answer → Type 0 where
  passes_before_rows : {kind : kinds.Limit} {number : ℕ} → PassesTripleLimit i o s kind number → Finds most i o s (over_limit kind number)
  passes_rows : (count : RowCount) → IsWithinTripleLimits i o s → HasManyRows i o s most count → Finds most i o s (rows_limit count (most_of most count))
  finds_safe : {tree_rows hedge_rows output_sets : ℕ} → IsWithinTripleLimits i o s → HasFewRows i o s most → AreRowCounts i o s tree_rows hedge_rows output_sets → IsSafe i o s
      → Finds most i o s (safe tree_rows hedge_rows output_sets)
  finds_unsafe : {document result : Trees} → IsWithinTripleLimits i o s → HasFewRows i o s most → IsLeastCounter i o s document → KeepsLimits s document → IsResultOf s document result
      → Finds most i o s (unsafe document result)
  finds_large : {document : Trees} → IsWithinTripleLimits i o s → HasFewRows i o s most → IsLeastCounter i o s document → IsLargeRun s document → Finds most i o s (unsafe_large document)
  finds_none_small : IsWithinTripleLimits i o s → HasFewRows i o s most → HasLargeCounters i o s → Finds most i o s counterexample_limit

-- what the texts of two schemas and a stylesheet decide: the first that is refused, or what all three decide
pub data OfTexts (Decided : Grammar → Grammar → Sheet → Answer → Type 0) (input output sheet input_text output_text sheet_text : List ℕ) : Answer → Type 0 where
  refuses_input : {reason : Reason} {place : ℕ} → IsRefusedText input input_text reason place → OfTexts Decided input output sheet input_text output_text sheet_text (refused input reason place)
  refuses_output : {i : Grammar} {reason : Reason} {place : ℕ} → SchemaText input input_text i → IsRefusedText output output_text reason place
      → OfTexts Decided input output sheet input_text output_text sheet_text (refused output reason place)
  refuses_sheet : {i o : Grammar} {reason : Reason} {place : ℕ} → SchemaText input input_text i → SchemaText output output_text o → IsRefusedSheet sheet_text reason place
      → OfTexts Decided input output sheet input_text output_text sheet_text (refused sheet reason place)
  all_three : {i o : Grammar} {s : Sheet} {answer : Answer} → SchemaText input input_text i → SchemaText output output_text o → IsSheetOf sheet_text s → Decided i o s answer
      → OfTexts Decided input output sheet input_text output_text sheet_text answer

-- what `check` answers on the texts of its operands
abbrev pub Checks : ℕ → List ℕ → List ℕ → List ℕ → List ℕ → List ℕ → List ℕ → Answer → Type 0
Checks most input output sheet input_text output_text sheet_text answer = OfTexts (λ i o s. Finds most i o s) input output sheet input_text output_text sheet_text answer

-- what a schema and a document decide
pub data Decides (g : Grammar) (d : Trees) : Answer → Type 0 where
  passes : {kind : kinds.Limit} {number : ℕ} → PassesValidity g kind number → Decides g d (over_limit kind number)
  decides_valid : IsValidityWithin g → IsValid g d → Decides g d is_valid
  decides_invalid : IsValidityWithin g → ¬ (IsValid g d) → Decides g d is_invalid

-- what `valid` answers on the texts of its operands
pub data Validates (schema document schema_text document_text : List ℕ) : Answer → Type 0 where
  schema_refused : {reason : Reason} {place : ℕ} → IsRefusedText schema schema_text reason place → Validates schema document schema_text document_text (refused schema reason place)
  document_refused : {g : Grammar} {reason : Reason} {place : ℕ} → SchemaText schema schema_text g → IsRefusedDocument document_text reason place
      → Validates schema document schema_text document_text (refused document reason place)
  both_read : {g : Grammar} {d : Trees} {answer : Answer} → SchemaText schema schema_text g → IsReadAs document_text d → Decides g d answer → Validates schema document schema_text document_text answer

-- what a stylesheet and a document give
pub data Runs (s : Sheet) (d : Trees) : Answer → Type 0 where
  sheet_passes : {kind : kinds.Limit} {number : ℕ} → SheetPasses (symbols_of_sheet s) s kind number → Runs s d (over_limit kind number)
  too_much_work : {o : Outcome} → IsWithinSheetLimits (symbols_of_sheet s) s → Transforms s d o → MOST_WORK < o.work → Runs s d work_limit
  too_open : {o : Outcome} → IsWithinSheetLimits (symbols_of_sheet s) s → Transforms s d o → MOST_OPEN < o.nesting → Runs s d open_limit
  gives_result : {result : Trees} → IsRunWithin s d → IsResultOf s d result → Runs s d (has_result result)

-- what `run` answers on the texts of its operands
pub data RunsTexts (sheet document sheet_text document_text : List ℕ) : Answer → Type 0 where
  sheet_refused : {reason : Reason} {place : ℕ} → IsRefusedSheet sheet_text reason place → RunsTexts sheet document sheet_text document_text (refused sheet reason place)
  source_refused : {s : Sheet} {reason : Reason} {place : ℕ} → IsSheetOf sheet_text s → IsRefusedDocument document_text reason place
      → RunsTexts sheet document sheet_text document_text (refused document reason place)
  sheet_and_source : {s : Sheet} {d : Trees} {answer : Answer} → IsSheetOf sheet_text s → IsReadAs document_text d → Runs s d answer → RunsTexts sheet document sheet_text document_text answer
