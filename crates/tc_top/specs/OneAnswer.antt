-- That an answer is the only one: what the causes exclude, and what they leave open.
use Rattle.std.specs.Prelude.{◌≡◌, ◌⊎◌, ℕ, List, [], ◌∷◌, Option, Some}
use Rattle.tc_answer.specs.SpotLines.{Use, unused, used, used_large, SpotUse}
use Rattle.tc_answer.specs.declared.status.Status.{Status}
use Rattle.tc_io.specs.Faults.{Rose}
use Rattle.tc_io.specs.Sink.{Appended}
use Rattle.tc_io.specs.Store.{Files, Read}
use Rattle.tc_io.specs.Reads.{AreTrue}
use Rattle.tc_model.specs.RawTrees.{RawTrees}
use Rattle.tc_model.specs.SheetTextTrees.{Template}
use Rattle.tc_model.specs.SheetTextPhrases.{IsStylesheet}
use Rattle.tc_model.specs.Trees.{Trees}
use Rattle.tc_model.specs.XmlText.{XmlText}
use Rattle.tc_answer.specs.Answers.{Answer, cannot_read, unsafe, unsafe_large, not_included, first_only, second_only, spots, rows_limit, refused, work_limit, open_limit, status_of, text_of}
use Rattle.tc_top.specs.Answers.{IsAnswer, IsAnswerOn}
use Rattle.tc_decide.specs.RowCounts.{RowCount}
use Rattle.tc_decide.specs.Texts.{IsRefusedDtd}
use Rattle.tc_read.specs.Refusals.{IsRefusedDocument, IsRefusedSheet}
use Rattle.tc_read.specs.declared.faults.Reason.{Reason}
use Rattle.tc_read.specs.declared.faults.Reason.TheVariants.{Malformed, Unsupported, TooDeep}

-- a text may be refused for several of these, at several places, and which is told is left open
abbrev pub IsOpen : Reason → Type 0
IsOpen Malformed = Unit {0}
IsOpen (Unsupported why) = Unit {0}
IsOpen TooDeep = Unit {0}
IsOpen _ = ⊥

-- the same is told of two spots, but for which document is shown
pub data AreUsedAlike : Use → Use → Type 0 where
  both_unused : AreUsedAlike unused unused
  both_used : {document other_document : Trees} → AreUsedAlike (used document) (used other_document)
  both_used_large : AreUsedAlike used_large used_large

-- and of the same spots
pub data AreToldAlike : List SpotUse → List SpotUse → Type 0 where
  none_told : AreToldAlike [] []
  one_told : {u v : SpotUse} {us vs : List SpotUse} → u.spot ≡ v.spot → AreUsedAlike u.found v.found → AreToldAlike us vs → AreToldAlike (u ∷ us) (v ∷ vs)

-- One answer, but for what is left open: which least counterexample is shown, and so whether its result is; which least document two schemas
-- are shown to differ by, and which shows that a spot is used; which limit is told where several numbers of rows pass theirs, and of a run that passes both; and for which of the
-- reasons above, and where, the text of an operand is refused.
pub data AreAlike : Answer → Answer → Type 0 where
  same_answer : {a : Answer} → AreAlike a a
  counterexamples : {document result other_document other_result : Trees} → AreAlike (unsafe document result) (unsafe other_document other_result)
  large_counterexamples : {document other_document : Trees} → AreAlike (unsafe_large document) (unsafe_large other_document)
  large_or_not : {document result other_document : Trees} → AreAlike (unsafe document result) (unsafe_large other_document)
  not_large_or_large : {document other_document other_result : Trees} → AreAlike (unsafe_large document) (unsafe other_document other_result)
  documents_not_included : {document other_document : Trees} → AreAlike (not_included document) (not_included other_document)
  documents_of_first : {document other_document : Trees} → AreAlike (first_only document) (first_only other_document)
  documents_of_second : {document other_document : Trees} → AreAlike (second_only document) (second_only other_document)
  spots_alike : {told other_told : List SpotUse} → AreToldAlike told other_told → AreAlike (spots told) (spots other_told)
  row_limits : {count other_count : RowCount} {number other_number : ℕ} → AreAlike (rows_limit count number) (rows_limit other_count other_number)
  work_or_open : AreAlike work_limit open_limit
  open_or_work : AreAlike open_limit work_limit
  open_reasons : {name : List ℕ} {reason other_reason : Reason} {place other_place : ℕ} → IsOpen reason → IsOpen other_reason
      → AreAlike (refused name reason place) (refused name other_reason other_place)

-- this answer is given, with its lines
pub record Gives (status : Status) (old new : Option (List ℕ)) (answer : Answer) : Type 0 where
  pub status_is : status ≡ status_of answer
  pub written : Appended old new (text_of answer)

-- an answer to the words is given that held files have, by its cause
abbrev pub GivesOn : List (List ℕ) → Files → Status → Option (List ℕ) → Option (List ℕ) → Type 0
GivesOn words files status old new = (answer : Answer) × IsAnswerOn words files answer × Gives status old new answer

-- words and what was read have one answer
abbrev pub HasOneAnswer : Type 0
HasOneAnswer = (words : List (List ℕ)) (reads : List Read) (a b : Answer) → IsAnswer words reads a → IsAnswer words reads b → AreAlike a b

-- and so have words and held files, where no read fails
abbrev pub HasOneAnswerOn : Type 0
HasOneAnswerOn = (words : List (List ℕ)) (files : Files) (a b : Answer) → IsAnswerOn words files a → IsAnswerOn words files b → AreAlike a b

-- it says that an operand can't be read, since a read failed
abbrev pub IsOfFault : Type 0 → Answer → Type 0
IsOfFault rose (cannot_read name) = rose
IsOfFault rose _ = ⊥

-- a call that reads these files, whose count of faults went from one number to another, has that answer, unless it tells of such a fault
abbrev pub HasAnswerOfCall : Type 0
HasAnswerOfCall = (words : List (List ℕ)) (files : Files) (before after : ℕ) (reads : List Read) (a b : Answer)
    → IsAnswerOn words files a → AreTrue (Some files) (Rose before after) reads → IsAnswer words reads b → AreAlike a b ⊎ IsOfFault (Rose before after) b

-- what is refused for this reason is refused at one place
abbrev pub IsPlaced : Reason → Type 0
IsPlaced Malformed = ⊥
IsPlaced _ = Unit {0}

-- declarations of elements are refused for one reason, at one place unless they are malformed
abbrev pub HasOneReasonOfDtd : Type 0
HasOneReasonOfDtd = (bytes : List ℕ) (r q : Reason) (k m : ℕ) → IsRefusedDtd bytes r k → IsRefusedDtd bytes q m → (r ≡ q) × (IsPlaced r → k ≡ m)

-- this stands in a text, up to which it was read
abbrev pub IsConstruct : Reason → Type 0
IsConstruct (Unsupported why) = Unit {0}
IsConstruct TooDeep = Unit {0}
IsConstruct _ = ⊥

-- a document's text is refused for one reason, and at one place where that is a construct that isn't read, or an element that stands too deep
abbrev pub HasOneConstruct : Type 0
HasOneConstruct = (bytes : List ℕ) (r q : Reason) (k m : ℕ) → IsRefusedDocument bytes r k → IsRefusedDocument bytes q m → (r ≡ q) × (IsConstruct r → k ≡ m)

-- where a text spells a stylesheet but for the names of its templates and its calls, it is refused for one reason, at one place
abbrev pub HasOneFaultOfNames : Type 0
HasOneFaultOfNames = (bytes : List ℕ) (raw : RawTrees) (templates : List Template) (r q : Reason) (k m : ℕ) → XmlText bytes raw → IsStylesheet raw templates
    → IsRefusedSheet bytes r k → IsRefusedSheet bytes q m → (r ≡ q) × (k ≡ m)
