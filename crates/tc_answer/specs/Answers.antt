-- What a call can answer: the status and the lines of each answer.
use Rattle.std.specs.Prelude.{ℕ, zero, suc, List, ◌++◌, codes, decimal}
use Rattle.tc_decide.specs.Rejections.{Rejection}
use Rattle.tc_decide.specs.RowCounts.{RowCount}
use Rattle.tc_answer.specs.Lines.{line, limit_line, limit_word, count_word, safe_line, unsafe_lines, unsafe_large_lines, included_line, not_included_lines, different_lines, rejected_line}
use Rattle.tc_answer.specs.SpotLines.{SpotUse, dead_count, spots_lines}
use Rattle.tc_decide.specs.declared.limits.TheConstants.{LONGEST_CERTIFICATE}
use Rattle.tc_answer.specs.declared.status.Status.{Status}
use Rattle.tc_answer.specs.declared.status.Status.TheVariants.{Yes, No, Usage, Refused, Limit, ReadFault}
use Rattle.tc_base.specs.declared.Limit as kinds
use Rattle.tc_base.specs.declared.limits.TheConstants.{LONGEST_FILE, LONGEST_TAG, MOST_NAMES, MOST_OPEN, MOST_SHOWN_NODES, MOST_WORK}
use Rattle.tc_model.specs.Printed.{printed}
use Rattle.tc_model.specs.Trees.{Trees}
use Rattle.tc_read.specs.Refusals.{reason_text}
use Rattle.tc_read.specs.declared.faults.Reason.{Reason}

pub data Answer : Type 0 where
  usage : Answer
  cannot_read : (name : List ℕ) → Answer
  file_limit : Answer
  safe : (tree_rows hedge_rows output_sets : ℕ) → Answer
  unsafe : (document output : Trees) → Answer
  -- its run on the document passes a limit
  unsafe_large : (document : Trees) → Answer
  -- there are more rows, or sets of pairs in them, than there may be
  rows_limit : (count : RowCount) (number : ℕ) → Answer
  -- all documents that could be shown are too large for it
  counterexample_limit : Answer
  -- the text of a certificate
  certificate : (text : List ℕ) → Answer
  -- the text of the certificate is too long
  certificate_limit : Answer
  accepted : Answer
  rejected : (why : Rejection) → Answer
  -- each document that is valid for the first schema is valid for the second
  included : (tree_rows hedge_rows : ℕ) → Answer
  -- this one isn't
  not_included : (document : Trees) → Answer
  -- the same documents are valid for both schemas
  equal : Answer
  -- this one is valid for the first alone
  first_only : (document : Trees) → Answer
  -- for the second alone
  second_only : (document : Trees) → Answer
  -- what is told of each rule, named body and branch of a stylesheet
  spots : (told : List SpotUse) → Answer
  -- the text of an operand is refused at a place
  refused : (name : List ℕ) (reason : Reason) (place : ℕ) → Answer
  over_limit : (kind : kinds.Limit) (number : ℕ) → Answer
  is_valid : Answer
  is_invalid : Answer
  -- a tag of a document that comes in pieces is too long
  tag_limit : Answer
  -- the names of the open elements of such a document have too many bytes
  names_limit : Answer
  has_result : (result : Trees) → Answer
  -- a run instantiates and puts out too much
  work_limit : Answer
  -- too many bodies and instructions of it stand within one another
  open_limit : Answer

-- yes exactly where none is dead
abbrev pub status_by_dead : ℕ → Status
status_by_dead zero = Yes
status_by_dead (suc more) = No

abbrev pub status_of : Answer → Status
status_of usage = Usage
status_of (cannot_read name) = ReadFault
status_of file_limit = Limit
status_of (safe tree_rows hedge_rows output_sets) = Yes
status_of (unsafe document output) = No
status_of (unsafe_large document) = No
status_of (rows_limit count number) = Limit
status_of counterexample_limit = Limit
status_of (certificate text) = Yes
status_of certificate_limit = Limit
status_of accepted = Yes
status_of (rejected why) = No
status_of (included tree_rows hedge_rows) = Yes
status_of (not_included document) = No
status_of equal = Yes
status_of (first_only document) = No
status_of (second_only document) = No
status_of (spots told) = status_by_dead (dead_count told)
status_of (refused name reason place) = Refused
status_of (over_limit kind number) = Limit
status_of is_valid = Yes
status_of is_invalid = No
status_of tag_limit = Limit
status_of names_limit = Limit
status_of (has_result result) = Yes
status_of work_limit = Limit
status_of open_limit = Limit

-- what an answer writes
abbrev pub text_of : Answer → List ℕ
text_of usage = line (codes "usage: check|prove [--limit N] IN OUT SHEET; verify IN OUT SHEET CERT; run SHEET DOC; valid SCHEMA DOC; demo N; upgrade CERT; dead IN SHEET; include A B; same A B; valid --stream N SCHEMA DOC")
text_of (cannot_read name) = line (codes "cannot read " ++ name)
text_of file_limit = limit_line (codes "file") LONGEST_FILE
text_of (safe tree_rows hedge_rows output_sets) = safe_line tree_rows hedge_rows output_sets
text_of (unsafe document output) = unsafe_lines document output
text_of (unsafe_large document) = unsafe_large_lines document
text_of (rows_limit count number) = limit_line (count_word count) number
text_of counterexample_limit = limit_line (codes "counterexample") MOST_SHOWN_NODES
text_of (certificate text) = text
text_of certificate_limit = limit_line (codes "certificate") LONGEST_CERTIFICATE
text_of accepted = line (codes "accepted")
text_of (rejected why) = rejected_line why
text_of (included tree_rows hedge_rows) = included_line tree_rows hedge_rows
text_of (not_included document) = not_included_lines document
text_of equal = line (codes "same")
text_of (first_only document) = different_lines (codes "first-only") document
text_of (second_only document) = different_lines (codes "second-only") document
text_of (spots told) = spots_lines told
text_of (refused name reason place) = line (codes "refused " ++ name ++ codes " " ++ reason_text reason ++ codes " at " ++ decimal place)
text_of (over_limit kind number) = limit_line (limit_word kind) number
text_of is_valid = line (codes "valid")
text_of is_invalid = line (codes "invalid")
text_of tag_limit = limit_line (codes "tag") LONGEST_TAG
text_of names_limit = limit_line (codes "names") MOST_NAMES
text_of (has_result result) = line (printed result)
text_of work_limit = limit_line (codes "work") MOST_WORK
text_of open_limit = limit_line (codes "open") MOST_OPEN
