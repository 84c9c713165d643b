-- What contracts see of spots as they are told of one after the other.
use Rattle.std.specs.Prelude.{◌≡◌, ℕ, List, map, All, Result, Ok, Err}
use Rattle.tc_dead.specs.Instantiated.{IsDead}
use Rattle.tc_dead.specs.Marked.{marked_at, plain_schema}
use Rattle.tc_dead.specs.Spots.{Spot, spots_of}
use Rattle.tc_dead.specs.Tells.{Tells}
use Rattle.tc_dead.specs.Views.{seen}
use Rattle.tc_decide.specs.Checking.{IsLeastCounter, HasLargeCounters}
use Rattle.tc_decide.specs.DeadSpots.{Answer, IsLeastUse, HasLargeUses, KeepsSpot, PassSpots, stage, TellsRefusalOfTwo, IsFirstRefusedOfTwo}
use Rattle.tc_decide.specs.Deciding.{KeepsAll, PassesFirst}
use Rattle.tc_decide.specs.MachinesSeen.{IsLawful, IsReadOf}
use Rattle.tc_decide.specs.Texts.{Spells, IsSchemaOf}
use Rattle.tc_decide.specs.declared.failure.Failure.{Failure}
use Rattle.tc_decide.specs.declared.failure.Failure.TheVariants.{Refused, Passes, NoMemory}
use Rattle.tc_decide.specs.declared.failure.Kind.{Kind}
use Rattle.tc_decide.specs.declared.failure.Kind.TheVariants.{Texts, Rows, Nodes, Certificate, Work, Open, Pieces}
use Rattle.tc_decide.specs.declared.limits.TheConstants.{MOST_ROWS}
use Rattle.tc_decide.specs.declared.schemas.SchemaText.{SchemaText}
use Rattle.tc_decide.specs.declared.spots.Marking.{Marking}
use Rattle.tc_decide.specs.declared.spots.Told.{Told}
use Rattle.tc_decide.specs.declared.spots.Told.TheVariants.{Dead, Used, UsedTooLarge}
use Rattle.tc_model.specs.Grammars.{Grammar}
use Rattle.tc_model.specs.Safety.{IsSafe, IsResultOf}
use Rattle.tc_model.specs.Sheets.{Sheet}
use Rattle.tc_model.specs.Trees.{Trees, none}
use Rattle.tc_model.specs.Views as see
use Rattle.tc_model.specs.WellFormed.{IsSheet}
use Rattle.tc_read.specs.Sheets.{IsSheetOf}

-- not the limit on nodes, which no spot passes, nor one of what is made then
abbrev pub IsBeforeNodes : Kind → Type 0
IsBeforeNodes (Texts kind) = Unit {0}
IsBeforeNodes (Rows count) = Unit {0}
IsBeforeNodes Nodes = ⊥
IsBeforeNodes Certificate = ⊥
IsBeforeNodes Work = ⊥
IsBeforeNodes Open = ⊥
IsBeforeNodes (Pieces measure) = ⊥

abbrev pub stage_of : Failure → ℕ
stage_of (Passes kind number) = stage kind
stage_of (Refused which reason at) = 0
stage_of NoMemory = 0

-- a schema, the plain one, and a stylesheet whose spots are asked for
pub record IsMarking (m : Marking) : Type 0 where
  pub input : IsLawful m.input
  pub plain : IsReadOf plain_schema m.plain
  pub sheet : IsSheet (see.sheet m.sheet)

-- those of texts
pub record IsMarkingOf (input : SchemaText) (sheet : List ℕ) (m : Marking) : Type 0 where
  pub is : IsMarking m
  pub schema : IsSchemaOf input m.input
  pub spells : IsSheetOf sheet (see.sheet m.sheet)

-- one of the texts is refused, or memory was
abbrev pub StopsTwo : SchemaText → List ℕ → Failure → Type 0
StopsTwo input sheet (Refused which reason at) = IsFirstRefusedOfTwo input sheet which reason (see.place at)
StopsTwo input sheet (Passes kind number) = ⊥
StopsTwo input sheet NoMemory = Unit {0}

-- results of the stylesheet in which a spot is marked tell whether it is instantiated
pub record IsTelling (s : Sheet) (p : Spot) : Type 0 where
  pub sheet : IsSheet (marked_at p s)
  pub tells : (d out : Trees) → IsResultOf (marked_at p s) d out → Tells p s d out

-- what rows tell of a stylesheet between two schemas
abbrev pub IsToldByRows : Grammar → Grammar → Sheet → Result Told Failure → Type 0
IsToldByRows i o s (Ok Dead) = KeepsAll i o s MOST_ROWS × IsSafe i o s
IsToldByRows i o s (Ok (Used document)) = KeepsAll i o s MOST_ROWS × IsLeastCounter i o s (see.before document none)
IsToldByRows i o s (Ok UsedTooLarge) = KeepsAll i o s MOST_ROWS × HasLargeCounters i o s
IsToldByRows i o s (Err (Passes (Rows count) number)) = PassesFirst i o s MOST_ROWS (Rows count) number
IsToldByRows i o s (Err (Passes _ number)) = ⊥
IsToldByRows i o s (Err (Refused which reason at)) = ⊥
IsToldByRows i o s (Err NoMemory) = Unit {0}

module _ (i : Grammar) (s : Sheet) where
  -- what is told of a spot that passes no limit
  abbrev pub IsTold : Spot → Told → Type 0
  IsTold p Dead = IsDead i s p
  IsTold p (Used document) = IsLeastUse i s p (see.before document none)
  IsTold p UsedTooLarge = HasLargeUses i s p

  pub record IsToldOf (p : Spot) (told : Told) : Type 0 where
    pub keeps : KeepsSpot i s p
    pub tells : IsTold p told

  -- what a spot passes
  abbrev pub StopsSpot : Spot → Failure → Type 0
  StopsSpot p (Passes kind number) = PassesFirst i plain_schema (marked_at p s) MOST_ROWS kind number × IsBeforeNodes kind
  StopsSpot p (Refused which reason at) = ⊥
  StopsSpot p NoMemory = Unit {0}

  -- what some of several spots pass
  abbrev pub StopsSpots : List Spot → Failure → Type 0
  StopsSpots ps (Passes kind number) = PassSpots i s ps kind number
  StopsSpots ps (Refused which reason at) = ⊥
  StopsSpots ps NoMemory = Unit {0}

  -- what is found of all
  abbrev pub IsFoundOfSpots : Answer → Type 0
  IsFoundOfSpots (Ok told) = (map (λ t. seen t.spot) told.now ≡ spots_of s) × All (λ t. IsToldOf (seen t.spot) t.told) told.now
  IsFoundOfSpots (Err failure) = StopsSpots (spots_of s) failure

-- and of those of texts
pub record IsFoundOfTwo (input : SchemaText) (sheet : List ℕ) (answer : Answer) : Type 0 where
  pub refusal : TellsRefusalOfTwo input sheet answer
  pub found : (i : Grammar) (s : Sheet) → Spells input i → IsSheetOf sheet s → IsFoundOfSpots i s answer
