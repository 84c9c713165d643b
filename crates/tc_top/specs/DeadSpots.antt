-- What is found of the spots of a stylesheet: its rules, its named bodies and its branches. A spot is dead where no valid document instantiates it.
use Rattle.std.specs.Prelude.{◌≡◌, ℕ, List, map, All}
use Rattle.tc_answer.specs.Answers.{Answer, spots, refused, over_limit, rows_limit}
use Rattle.tc_answer.specs.SpotLines.{Use, unused, used, used_large, SpotUse}
use Rattle.tc_base.specs.declared.Limit.{Limit}
use Rattle.tc_dead.specs.Instantiated.{IsDead}
use Rattle.tc_dead.specs.Spots.{Spot, spots_of}
use Rattle.tc_decide.specs.DeadSpots.{IsLeastUse, HasLargeUses, KeepSpots, PassSpots}
use Rattle.tc_decide.specs.RowCounts.{row_count}
use Rattle.tc_decide.specs.declared.failure.Kind.TheVariants.{Texts, Rows}
use Rattle.tc_decide.specs.declared.failure.RowCount.{RowCount}
use Rattle.tc_model.specs.Grammars.{Grammar}
use Rattle.tc_model.specs.Sheets.{Sheet}
use Rattle.tc_read.specs.Refusals.{IsRefusedSheet}
use Rattle.tc_read.specs.Sheets.{IsSheetOf}
use Rattle.tc_read.specs.declared.faults.Reason.{Reason}
use Rattle.tc_top.specs.SchemaTexts.{SchemaText, IsRefusedText}

module _ (i : Grammar) (s : Sheet) where
  -- what is told of a spot: that it is dead; or a valid document with the fewest nodes of all that instantiate it; or that all that do are too large to be shown
  abbrev pub IsUse : Spot → Use → Type 0
  IsUse p unused = IsDead i s p
  IsUse p (used document) = IsLeastUse i s p document
  IsUse p used_large = HasLargeUses i s p

  -- it is told of each spot of the stylesheet, in order, and is so
  pub record AreUses (told : List SpotUse) : Type 0 where
    pub spots : map (λ u. u.spot) told ≡ spots_of s
    pub each : All (λ u. IsUse u.spot u.found) told

  -- What a schema and a stylesheet decide: a limit that a spot passes, while none passes one that is tried before it; and else of each spot. A stylesheet
  -- without spots passes no limit.
  pub data FindsSpots : Answer → Type 0 where
    spots_pass_before_rows : {kind : Limit} {number : ℕ} → PassSpots i s (spots_of s) (Texts kind) number → FindsSpots (over_limit kind number)
    spots_pass_rows : {count : RowCount} {number : ℕ} → PassSpots i s (spots_of s) (Rows count) number → FindsSpots (rows_limit (row_count count) number)
    finds_spots : {told : List SpotUse} → KeepSpots i s (spots_of s) → AreUses told → FindsSpots (spots told)

-- what `dead` answers on the texts of its operands
pub data TellsDead (input sheet input_text sheet_text : List ℕ) : Answer → Type 0 where
  input_refused : {reason : Reason} {place : ℕ} → IsRefusedText input input_text reason place → TellsDead input sheet input_text sheet_text (refused input reason place)
  spots_refused : {i : Grammar} {reason : Reason} {place : ℕ} → SchemaText input input_text i → IsRefusedSheet sheet_text reason place
      → TellsDead input sheet input_text sheet_text (refused sheet reason place)
  spots_read : {i : Grammar} {s : Sheet} {answer : Answer} → SchemaText input input_text i → IsSheetOf sheet_text s → FindsSpots i s answer → TellsDead input sheet input_text sheet_text answer
