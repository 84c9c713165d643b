-- What a call decides that asks for the dead spots of a held stylesheet.
use Rattle.std.specs.Prelude.{◌≡◌, ◌≤◌, ◌⊎◌, ◌↔◌, ℕ, List, length, map, All, Contains, Option, Some}
use Rattle.tc_answer.specs.Lines.{limit_line, limit_word, count_word}
use Rattle.tc_answer.specs.SchemaWords.{file_of}
use Rattle.tc_answer.specs.SpotLines.{Use, unused, used, used_large, SpotUse, spots_lines}
use Rattle.tc_answer.specs.Words.{Words, dead}
use Rattle.tc_answer.specs.declared.status.Status.{Status}
use Rattle.tc_answer.specs.declared.status.Status.TheVariants.{Yes, No, Limit}
use Rattle.tc_base.specs.declared.Limit as kinds
use Rattle.tc_dead.specs.Instantiated.{IsDead}
use Rattle.tc_dead.specs.Spots.{Spot, spots_of}
use Rattle.tc_decide.specs.DeadSpots.{Uses, OfEach, KeepSpots, PassSpots}
use Rattle.tc_decide.specs.RowCounts.{row_count}
use Rattle.tc_decide.specs.declared.failure.Kind.{Kind}
use Rattle.tc_decide.specs.declared.failure.Kind.TheVariants.{Texts, Rows}
use Rattle.tc_decide.specs.declared.failure.RowCount.{RowCount}
use Rattle.tc_io.specs.Sink.{Appended}
use Rattle.tc_io.specs.Store.{Files, longest_file}
use Rattle.tc_model.specs.Grammars.{Grammar}
use Rattle.tc_model.specs.Printed.{printed}
use Rattle.tc_model.specs.Sheets.{Sheet}
use Rattle.tc_model.specs.Trees.{Trees}
use Rattle.tc_print.specs.ReadBack.{IsReadAs}
use Rattle.tc_read.specs.Sheets.{IsSheetOf}
use Rattle.tc_top.specs.DeadSpots.{IsUse}
use Rattle.tc_top.specs.SchemaTexts.{SchemaText}

-- the words ask for the dead spots of a held stylesheet by a held schema, whose texts spell these
pub record AsksFiles (words : List (List ℕ)) (files : Files) (i : Grammar) (s : Sheet) : Type 0 where
  pub input : List ℕ
  pub sheet : List ℕ
  pub words_are : Words words (dead input sheet)
  pub input_text : List ℕ
  pub sheet_text : List ℕ
  pub input_held : files (file_of input) ≡ Some input_text
  pub sheet_held : files sheet ≡ Some sheet_text
  pub input_spells : SchemaText input input_text i
  pub sheet_spells : IsSheetOf sheet_text s

-- and none of the files is longer than a file may be
pub record AsksShortFiles (words : List (List ℕ)) (files : Files) (i : Grammar) (s : Sheet) : Type 0 where
  pub asks : AsksFiles words files i s
  pub input_short : length asks.input_text ≤ longest_file
  pub sheet_short : length asks.sheet_text ≤ longest_file

-- the lines that are written tell of each spot, in order, and of what they tell this holds
pub record WritesSpots (old new : Option (List ℕ)) (s : Sheet) (Holds : Spot → Use → Type 0) : Type 0 where
  pub told : List SpotUse
  pub spots : map (λ u. u.spot) told ≡ spots_of s
  pub each : All (λ u. Holds u.spot u.found) told
  pub written : Appended old new (spots_lines told)

-- yes and no tell of spots
abbrev pub IsTold : Status → Type 0
IsTold status = (status ≡ Yes) ⊎ (status ≡ No)

-- a document that is shown is read back from its text
abbrev pub IsReadBack : Use → Type 0
IsReadBack unused = Unit {0}
IsReadBack (used document) = IsReadAs (printed document) document
IsReadBack used_large = Unit {0}

module _ (i : Grammar) (s : Sheet) where
  -- what is told to be dead is so
  abbrev pub IsUnusedSo : Spot → Use → Type 0
  IsUnusedSo p unused = IsDead i s p
  IsUnusedSo p (used document) = Unit {0}
  IsUnusedSo p used_large = Unit {0}

  -- a document that is shown is valid and instantiates the spot; and some such document does where none is shown and it isn't told to be dead
  abbrev pub IsShownSo : Spot → Use → Type 0
  IsShownSo p unused = Unit {0}
  IsShownSo p (used document) = Uses i s p document
  IsShownSo p used_large = (document : Trees) × Uses i s p document

  -- Yes exactly where no spot passes a limit and none is dead; no exactly where none passes a limit and one is dead; each with what is so of every spot. Without spots it is
  -- always yes. And else a limit that is passed: of those that are tried before rows the one that is; of rows one of those that the first spot passes that passes any.
  pub record DecidesSpots (status : Status) (old new : Option (List ℕ)) : Type 0 where
    pub yes : (status ≡ Yes) ↔ (KeepSpots i s (spots_of s) × OfEach (spots_of s) (λ p. ¬ (IsDead i s p)))
    pub no : (status ≡ No) ↔ (KeepSpots i s (spots_of s) × ((p : Spot) × Contains (spots_of s) p × IsDead i s p))
    pub limit : (status ≡ Limit) ↔ ((kind : Kind) × (number : ℕ) × PassSpots i s (spots_of s) kind number)
    pub one : (status ≡ Yes) ⊎ ((status ≡ No) ⊎ (status ≡ Limit))
    pub told : IsTold status → WritesSpots old new s (λ p u. IsUse i s p u × IsReadBack u)
    pub before_rows_text : (kind : kinds.Limit) (number : ℕ) → PassSpots i s (spots_of s) (Texts kind) number → Appended old new (limit_line (limit_word kind) number)
    pub rows_text : (count : RowCount) (number : ℕ) → PassSpots i s (spots_of s) (Rows count) number
        → (named : RowCount) × (most : ℕ) × PassSpots i s (spots_of s) (Rows named) most × Appended old new (limit_line (count_word (row_count named)) most)
