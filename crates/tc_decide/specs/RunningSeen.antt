-- What contracts see of a run.
use Rattle.std.specs.Prelude.{◌≡◌, ℕ, List, Result, Ok, Err}
use Rattle.std.specs.Global.{Vec}
use Rattle.tc_base.specs.declared.limits.TheConstants.{MOST_WORK, MOST_OPEN}
use Rattle.tc_decide.specs.Limits.{symbols_of_sheet, IsWithinSheetLimits, IsRunWithin}
use Rattle.tc_decide.specs.Running.{PassesRun, TellsRefusalOfRun}
use Rattle.tc_decide.specs.declared.failure.Failure.{Failure}
use Rattle.tc_decide.specs.declared.failure.Failure.TheVariants.{Refused, Passes, NoMemory}
use Rattle.tc_decide.specs.declared.failure.Kind.TheVariants.{Work, Open}
use Rattle.tc_model.specs.Sheets.{Sheet}
use Rattle.tc_model.specs.Trees.{Trees}
use Rattle.tc_print.specs.ReadBack.{IsReadAs}
use Rattle.tc_read.specs.Sheets.{IsSheetOf}
use Rattle.tc_decide.specs.declared.running.SheetParts.{SheetParts}
use Rattle.tc_rules.specs.Kept.{IsRulesOf, told}
use Rattle.tc_run.specs.Limits.{IsTextOfResult}
use Rattle.tc_run.specs.declared.RunFault.{RunFault}
use Rattle.tc_run.specs.declared.RunFault.TheVariants as run

-- the failure that a fault of a run is
abbrev pub of_run : RunFault → Failure
of_run run.TooMuchWork = Passes Work MOST_WORK
of_run run.TooOpen = Passes Open MOST_OPEN
of_run run.NoMemory = NoMemory

-- what a stylesheet and a document give
abbrev pub IsRun : Sheet → Trees → Result (Vec ℕ) Failure → Type 0
IsRun s d (Ok text) = IsRunWithin s d × IsTextOfResult s d text.items
IsRun s d (Err (Refused which reason at)) = ⊥
IsRun s d (Err (Passes kind number)) = PassesRun s d kind number
IsRun s d (Err NoMemory) = Unit {0}

-- and what their texts do
pub record IsFoundOfRun (sheet document : List ℕ) (answer : Result (Vec ℕ) Failure) : Type 0 where
  pub refusal : TellsRefusalOfRun sheet document answer
  pub found : (s : Sheet) (d : Trees) → IsSheetOf sheet s → IsReadAs document d → IsRun s d answer

-- the rules of a stylesheet that passes no limit, over its symbols
pub record IsSheetParts (s : Sheet) (parts : SheetParts) : Type 0 where
  pub rules : IsRulesOf parts.alphabet parts.rules
  pub sheet : (told parts.rules).sheet ≡ s
  pub within : IsWithinSheetLimits (symbols_of_sheet s) s
