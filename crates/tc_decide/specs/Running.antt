-- What a run of a stylesheet on a document gives, by their texts.
use Rattle.std.specs.Prelude.{◌≡◌, ◌<◌, ◌↔◌, ℕ, List, Result, Ok, Err}
use Rattle.tc_base.specs.declared.limits.TheConstants.{MOST_WORK, MOST_OPEN}
use Rattle.tc_decide.specs.Limits.{symbols_of_sheet, IsWithinSheetLimits, SheetPasses, IsRunWithin}
use Rattle.tc_decide.specs.Told.{IsToldLimit}
use Rattle.tc_decide.specs.declared.failure.Failure.{Failure}
use Rattle.tc_decide.specs.declared.failure.Failure.TheVariants.{Refused, Passes, NoMemory}
use Rattle.tc_decide.specs.declared.failure.Kind.{Kind}
use Rattle.tc_decide.specs.declared.failure.Kind.TheVariants.{Texts, Work, Open}
use Rattle.tc_decide.specs.declared.failure.Which.{Which}
use Rattle.tc_decide.specs.declared.failure.Which.TheVariants as which
use Rattle.tc_model.specs.Outcomes.{Outcome}
use Rattle.tc_model.specs.Safety.{Transforms}
use Rattle.tc_model.specs.Sheets.{Sheet}
use Rattle.tc_model.specs.Trees.{Trees}
use Rattle.tc_model.specs.Views.{place}
use Rattle.tc_print.specs.ReadBack.{IsReadAs}
use Rattle.tc_read.specs.Refusals.{IsRefusedDocument, IsRefusedSheet}
use Rattle.tc_read.specs.Sheets.{IsSheetOf}
use Rattle.tc_read.specs.declared.faults.Reason.{Reason}

-- something is given
abbrev pub IsGiven : {V : Type 0} → Result V Failure → Type 0
IsGiven (Ok given) = Unit {0}
IsGiven (Err failure) = ⊥

-- the texts spell a stylesheet and a document
pub record AreRunAccepted (sheet document : List ℕ) : Type 0 where
  pub sheet_spells : (s : Sheet) × IsSheetOf sheet s
  pub document_spells : (d : Trees) × IsReadAs document d

-- this one of the two is refused, for this reason, which stands at this place, and the one before it is accepted
abbrev pub IsFirstRefusedOfRun : List ℕ → List ℕ → Which → Reason → ℕ → Type 0
IsFirstRefusedOfRun sheet document which.Input reason at = ⊥
IsFirstRefusedOfRun sheet document which.Output reason at = ⊥
IsFirstRefusedOfRun sheet document which.Sheet reason at = IsRefusedSheet sheet reason at
IsFirstRefusedOfRun sheet document which.Document reason at = ((s : Sheet) × IsSheetOf sheet s) × IsRefusedDocument document reason at

-- the text that is told to be refused is so, and where none is told to be, both are accepted
abbrev pub TellsRefusalOfRun : {V : Type 0} → List ℕ → List ℕ → Result V Failure → Type 0
TellsRefusalOfRun sheet document (Ok given) = AreRunAccepted sheet document
TellsRefusalOfRun sheet document (Err (Refused which reason at)) = IsFirstRefusedOfRun sheet document which reason (place at)
TellsRefusalOfRun sheet document (Err (Passes kind number)) = AreRunAccepted sheet document
TellsRefusalOfRun sheet document (Err NoMemory) = Unit {0}

module _ (s : Sheet) (d : Trees) where
  -- the run does more work than it may, or has more bodies and instructions within one another
  abbrev pub HasMuchWork : Type 0
  HasMuchWork = (o : Outcome) × Transforms s d o × (MOST_WORK < o.work)

  abbrev pub IsTooOpen : Type 0
  IsTooOpen = (o : Outcome) × Transforms s d o × (MOST_OPEN < o.nesting)

  -- This is passed, which has this number: by the stylesheet, where nothing that is tried before it is passed; and then by the run. Which limit is told
  -- of a run that passes both is left open.
  abbrev pub PassesRun : Kind → ℕ → Type 0
  PassesRun (Texts kind) number = SheetPasses (symbols_of_sheet s) s kind number
  PassesRun Work number = IsWithinSheetLimits (symbols_of_sheet s) s × HasMuchWork × (number ≡ MOST_WORK)
  PassesRun Open number = IsWithinSheetLimits (symbols_of_sheet s) s × IsTooOpen × (number ≡ MOST_OPEN)
  PassesRun _ number = ⊥

  -- the result is given exactly where the stylesheet and its run keep to their limits; and a limit is told exactly where one is passed
  pub record DecidesRun {V : Type 0} (answer : Result V Failure) : Type 0 where
    pub yes : IsGiven answer ↔ IsRunWithin s d
    pub limit : IsToldLimit answer ↔ ((kind : Kind) × (number : ℕ) × PassesRun kind number)

  -- the limit that a failure tells
  abbrev pub TellsRunLimit : {V : Type 0} → Result V Failure → Type 0
  TellsRunLimit (Err (Passes kind number)) = PassesRun kind number
  TellsRunLimit _ = Unit {0}
