-- The answer of a call, with its cause, and how the call ends.
use Rattle.std.specs.Prelude.{◌≡◌, ◌≤◌, ◌↔◌, ℕ, List, length, [], ◌∷◌, Option, Some}
use Rattle.tc_io.specs.Store.{Files, Read, longest_file}
use Rattle.tc_io.specs.Reads.{AreTrue}
use Rattle.tc_io.specs.Sink.{Appended, Write, WroteFront}
use Rattle.tc_io.specs.declared.StoreFault.{StoreFault}
use Rattle.tc_io.specs.declared.StoreFault.TheVariants.{TooLong}
use Rattle.tc_model.specs.Trees.{Trees}
use Rattle.tc_model.specs.Sheets.{Sheet}
use Rattle.tc_top.specs.Checking.{most_rows}
use Rattle.tc_decide.specs.declared.limits.TheConstants.{MOST_ROWS}
use Rattle.tc_top.specs.Demo.{demo_schema, demo_sheet, input_name, output_name, sheet_name}
use Rattle.tc_answer.specs.Words.{Command, check, prove, verify, run, valid, valid_in_pieces, demo, upgrade, dead, include, same, Words, IsNoCommand, operands_of}
use Rattle.tc_decide.specs.Limits.{IsRunWithin}
use Rattle.tc_answer.specs.Reading.{StopsAt, IsUnreadable, AreRead}
use Rattle.tc_answer.specs.declared.status.Status.{Status}
use Rattle.tc_answer.specs.declared.status.Status.TheVariants.{Yes, Limit, WriteFault, NoMemory}
use Rattle.tc_answer.specs.Answers.{Answer, usage, cannot_read, file_limit, status_of, text_of}
use Rattle.tc_answer.specs.Writing.{AreWritten, BreakOff, lines_of}
use Rattle.tc_top.specs.Causes.{Checks, Validates, Runs, RunsTexts}
use Rattle.tc_top.specs.Certifying.{Proves, Verifies, Upgrades}
use Rattle.tc_top.specs.InPieces.{ValidatesInPieces}
use Rattle.tc_decide.specs.Comparing.{inclusion, equality}
use Rattle.tc_top.specs.Comparing.{Compares}
use Rattle.tc_top.specs.DeadSpots.{TellsDead}

-- words of no command, and of a command that reads no file
abbrev pub ReadsNothing : List (List ℕ) → Type 0
ReadsNothing words = (command : Command) → Words words command → operands_of command ≡ []

-- what a command answers on the texts of its operands
pub data IsAnswerTo : Command → List (List ℕ) → Answer → Type 0 where
  checked : {limit : Option ℕ} {input output sheet input_text output_text sheet_text : List ℕ} {answer : Answer} → Checks (most_rows limit) input output sheet input_text output_text sheet_text answer
      → IsAnswerTo (check limit input output sheet) (input_text ∷ output_text ∷ sheet_text ∷ []) answer
  proved : {limit : Option ℕ} {input output sheet input_text output_text sheet_text : List ℕ} {answer : Answer} → Proves (most_rows limit) input output sheet input_text output_text sheet_text answer
      → IsAnswerTo (prove limit input output sheet) (input_text ∷ output_text ∷ sheet_text ∷ []) answer
  verified : {input output sheet certificate input_text output_text sheet_text bytes : List ℕ} {answer : Answer} → length bytes ≤ longest_file
      → Verifies input output sheet input_text output_text sheet_text bytes answer → IsAnswerTo (verify input output sheet certificate) (input_text ∷ output_text ∷ sheet_text ∷ bytes ∷ []) answer
  ran : {sheet document sheet_text document_text : List ℕ} {answer : Answer} → RunsTexts sheet document sheet_text document_text answer
      → IsAnswerTo (run sheet document) (sheet_text ∷ document_text ∷ []) answer
  validated : {schema document schema_text document_text : List ℕ} {answer : Answer} → Validates schema document schema_text document_text answer
      → IsAnswerTo (valid schema document) (schema_text ∷ document_text ∷ []) answer
  validated_in_pieces : {size : ℕ} {schema document schema_text document_text : List ℕ} {answer : Answer} → ValidatesInPieces schema document schema_text document_text answer
      → IsAnswerTo (valid_in_pieces size schema document) (schema_text ∷ document_text ∷ []) answer
  shown : {size : ℕ} {answer : Answer} → Checks MOST_ROWS input_name output_name sheet_name (demo_schema size) (demo_schema size) demo_sheet answer
      → IsAnswerTo (demo size) [] answer
  upgraded : {certificate bytes : List ℕ} {answer : Answer} → length bytes ≤ longest_file → Upgrades bytes answer → IsAnswerTo (upgrade certificate) (bytes ∷ []) answer
  told_dead : {input sheet input_text sheet_text : List ℕ} {answer : Answer} → TellsDead input sheet input_text sheet_text answer
      → IsAnswerTo (dead input sheet) (input_text ∷ sheet_text ∷ []) answer
  compared_one_way : {first second first_text second_text : List ℕ} {answer : Answer} → Compares inclusion first second first_text second_text answer
      → IsAnswerTo (include first second) (first_text ∷ second_text ∷ []) answer
  compared_both_ways : {first second first_text second_text : List ℕ} {answer : Answer} → Compares equality first second first_text second_text answer
      → IsAnswerTo (same first second) (first_text ∷ second_text ∷ []) answer

-- an answer with its cause: the words, and what was read, in order
pub data IsAnswer (words : List (List ℕ)) (reads : List Read) : Answer → Type 0 where
  no_command : IsNoCommand words → reads ≡ [] → IsAnswer words reads usage
  not_read : {command : Command} {name : List ℕ} {fault : StoreFault} → Words words command → StopsAt (operands_of command) reads name fault → IsUnreadable fault
      → IsAnswer words reads (cannot_read name)
  over_long : {command : Command} {name : List ℕ} → Words words command → StopsAt (operands_of command) reads name TooLong → IsAnswer words reads file_limit
  decided : {command : Command} {texts : List (List ℕ)} {answer : Answer} → Words words command → AreRead (operands_of command) texts reads → IsAnswerTo command texts answer
      → IsAnswer words reads answer

-- The answer of held files, where no read fails.
abbrev pub IsAnswerOn : List (List ℕ) → Files → Answer → Type 0
IsAnswerOn words files answer = (reads : List Read) × AreTrue (Some files) ⊥ reads × IsAnswer words reads answer

-- How a call ends: with an answer that is right for what was read, of which each line was written by a write of its own, all in order; with such
-- an answer broken off by the first write that failed; or, only for a command, for want of memory.
pub data Ends (words : List (List ℕ)) (happened : List Read → Type 0) (wrote : List Write → Type 0) (faulted : Type 0) (old new : Option (List ℕ)) : Status → Type 0 where
  answered : {reads : List Read} {answer : Answer} {writes : List Write} {status : Status} → happened reads → IsAnswer words reads answer → status ≡ status_of answer
      → wrote writes → AreWritten (lines_of (text_of answer)) writes → Appended old new (text_of answer) → Ends words happened wrote faulted old new status
  broken_off : {reads : List Read} {answer : Answer} {writes : List Write} {status : Status} → happened reads → IsAnswer words reads answer → status ≡ WriteFault
      → wrote writes → BreakOff (lines_of (text_of answer)) writes → WroteFront old new (text_of answer) → faulted → Ends words happened wrote faulted old new status
  out_of_memory : {command : Command} {status : Status} → Words words command → status ≡ NoMemory → Ends words happened wrote faulted old new status

-- the answer is yes exactly within the limits of a run, and else a limit that is passed
pub record KeepsToLimits (status : Status) (old new : Option (List ℕ)) (s : Sheet) (d : Trees) : Type 0 where
  pub yes : (status ≡ Yes) ↔ IsRunWithin s d
  pub limit : (status ≡ Limit) ↔ ¬ (IsRunWithin s d)
  pub limit_text : status ≡ Limit → (answer : Answer) × (status_of answer ≡ Limit) × Runs s d answer × Appended old new (text_of answer)
