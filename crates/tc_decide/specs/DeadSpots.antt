-- What is told of the spots of a stylesheet: which of them no valid document instantiates, and of each other one a least document that does; and the limits on
-- the stylesheets in which they are marked.
use Rattle.std.specs.Prelude.{◌≡◌, ◌↔◌, ◌++◌, ◌<◌, ◌≤◌, ℕ, List, ◌∷◌, map, All, Contains, Result, Ok, Err, IfOk}
use Rattle.std.specs.Borrow.{Bor}
use Rattle.tc_base.specs.declared.Limit.{Limit}
use Rattle.tc_base.specs.declared.Limit.TheVariants.{Calls, Entries}
use Rattle.tc_base.specs.declared.limits.TheConstants.{DEEPEST_CALLS, MOST_ENTRIES, MOST_INPUT_STATES, MOST_OUTPUT_STATES, MOST_SHOWN_NODES}
use Rattle.tc_dead.specs.Instantiated.{IsInstantiated, IsDead}
use Rattle.tc_dead.specs.Marked.{marked_at, plain_schema}
use Rattle.tc_dead.specs.Spots.{Spot, spots_of}
use Rattle.tc_dead.specs.Views.{seen}
use Rattle.tc_decide.specs.Checking.{most_of, IsWithinTripleLimits, PassesTripleLimit, HasManyEntries, HasManyRows, HasFewRows, IsPlain}
use Rattle.tc_decide.specs.Limits.{IsWithinLimits, IsWithinSheetLimits}
use Rattle.tc_decide.specs.RowCounts.{row_count}
use Rattle.tc_decide.specs.Texts.{IsSpelled, IsRefused}
use Rattle.tc_decide.specs.Told.{IsToldLimit}
use Rattle.tc_decide.specs.declared.failure.Failure.{Failure}
use Rattle.tc_decide.specs.declared.failure.Failure.TheVariants.{Refused, Passes, NoMemory}
use Rattle.tc_decide.specs.declared.failure.Kind.{Kind}
use Rattle.tc_decide.specs.declared.failure.Kind.TheVariants.{Texts, Rows, Nodes, Certificate, Work, Open, Pieces}
use Rattle.tc_decide.specs.declared.failure.Which.{Which}
use Rattle.tc_decide.specs.declared.failure.Which.TheVariants as which
use Rattle.tc_decide.specs.declared.limits.TheConstants.{MOST_ROWS}
use Rattle.tc_decide.specs.declared.schemas.SchemaText.{SchemaText}
use Rattle.tc_decide.specs.declared.spots.SpotTold.{SpotTold}
use Rattle.tc_decide.specs.declared.spots.Told.{Told}
use Rattle.tc_decide.specs.declared.spots.Told.TheVariants.{Dead, Used, UsedTooLarge}
use Rattle.tc_model.specs.Grammars.{Grammar}
use Rattle.tc_model.specs.Sheets.{Sheet}
use Rattle.tc_model.specs.States as side
use Rattle.tc_model.specs.Symbols.{symbols_of}
use Rattle.tc_model.specs.Trees.{Trees, none, node_count}
use Rattle.tc_model.specs.Validity.{IsValid}
use Rattle.tc_model.specs.Views.{before, place}
use Rattle.tc_read.specs.Refusals.{IsRefusedSheet}
use Rattle.tc_read.specs.Sheets.{IsSheetOf}
use Rattle.tc_read.specs.declared.faults.Reason.{Reason}
use Rattle.tc_rows.specs.Counts.{PassCalls}

-- the texts spell a schema and a stylesheet
pub record AreBothAccepted (input : SchemaText) (sheet : List ℕ) : Type 0 where
  pub input_spells : IsSpelled input
  pub sheet_spells : (s : Sheet) × IsSheetOf sheet s

-- this one of the two is refused, for this reason, which stands at this place, and the one before it is accepted
abbrev pub IsFirstRefusedOfTwo : SchemaText → List ℕ → Which → Reason → ℕ → Type 0
IsFirstRefusedOfTwo input sheet which.Input reason at = IsRefused input reason at
IsFirstRefusedOfTwo input sheet which.Output reason at = ⊥
IsFirstRefusedOfTwo input sheet which.Sheet reason at = IsSpelled input × IsRefusedSheet sheet reason at
IsFirstRefusedOfTwo input sheet which.Document reason at = ⊥

-- the text that is told to be refused is so, and where none is told to be, both are accepted
abbrev pub TellsRefusalOfTwo : {V : Type 0} → SchemaText → List ℕ → Result V Failure → Type 0
TellsRefusalOfTwo input sheet (Ok told) = AreBothAccepted input sheet
TellsRefusalOfTwo input sheet (Err (Refused which reason at)) = IsFirstRefusedOfTwo input sheet which reason (place at)
TellsRefusalOfTwo input sheet (Err (Passes kind number)) = AreBothAccepted input sheet
TellsRefusalOfTwo input sheet (Err NoMemory) = Unit {0}

-- what is told of each spot
abbrev pub Answer : Type 0
Answer = Result (Bor (List SpotTold)) Failure

abbrev pub IsAnswered : Answer → Type 0
IsAnswered (Ok told) = Unit {0}
IsAnswered (Err failure) = ⊥

-- where a limit is told, this holds of it and its number
abbrev pub IfPassed : Answer → (Kind → ℕ → Type 0) → Type 0
IfPassed (Err (Passes kind number)) P = P kind number
IfPassed _ P = Unit {0}

-- where a spot is told to be dead, this holds
abbrev pub OnDead : Told → Type 0 → Type 0
OnDead Dead P = P
OnDead _ P = Unit {0}

-- where a document is shown, this holds of it
abbrev pub IfShown : Told → (Trees → Type 0) → Type 0
IfShown (Used document) P = P (before document none)
IfShown _ P = Unit {0}

-- and of some document where all are told to be too large
abbrev pub IfUsed : Told → (Trees → Type 0) → Type 0
IfUsed (Used document) P = P (before document none)
IfUsed UsedTooLarge P = (document : Trees) × P document
IfUsed Dead P = Unit {0}

abbrev pub IsToldDead : Told → Type 0
IsToldDead Dead = Unit {0}
IsToldDead _ = ⊥

abbrev pub IsToldUsed : Told → Type 0
IsToldUsed (Used document) = Unit {0}
IsToldUsed _ = ⊥

abbrev pub IsToldTooLarge : Told → Type 0
IsToldTooLarge UsedTooLarge = Unit {0}
IsToldTooLarge _ = ⊥

-- In which order limits are tried: those of schemas and of stylesheets, of all spots; then calls, of all spots; then entries, of all spots; and then rows.
abbrev pub stage : Kind → ℕ
stage (Texts Calls) = 1
stage (Texts Entries) = 2
stage (Texts kind) = 0
stage (Rows count) = 3
stage Nodes = 4
stage Certificate = 4
stage Work = 4
stage Open = 4
stage (Pieces measure) = 4

module _ (i : Grammar) (s : Sheet) (p : Spot) where
  -- a valid document that instantiates the spot
  abbrev pub Uses : Trees → Type 0
  Uses document = IsValid i document × IsInstantiated s document p

  -- one that can be shown, with texts `t` and fresh names, and the fewest nodes of all
  pub record IsLeastUse (document : Trees) : Type 0 where
    pub uses : Uses document
    pub plain : IsPlain i plain_schema (marked_at p s) document
    pub few : node_count document ≤ MOST_SHOWN_NODES
    pub least : (other : Trees) → Uses other → node_count document ≤ node_count other

  -- some can be shown
  abbrev pub HasSmallUse : Type 0
  HasSmallUse = (document : Trees) × Uses document × (node_count document ≤ MOST_SHOWN_NODES)

  -- there are some, and all have too many nodes to be shown
  pub record HasLargeUses : Type 0 where
    pub some : (document : Trees) × Uses document
    pub large : (document : Trees) → Uses document → MOST_SHOWN_NODES < node_count document

  -- dead exactly where no valid document instantiates it; used exactly where one that can be shown does, and then with a least one; and too large
  -- exactly where each that does has too many nodes
  pub record TellsSpot (told : Told) : Type 0 where
    pub dead : IsToldDead told ↔ IsDead i s p
    pub used : IsToldUsed told ↔ HasSmallUse
    pub least : IfShown told IsLeastUse
    pub large : IsToldTooLarge told ↔ HasLargeUses

  -- none of the limits is passed that are tried before calls: of the schema, of the plain one, and of the stylesheet in which the spot is marked
  pub record KeepsSheetLimits : Type 0 where
    pub input : IsWithinLimits i side.input MOST_INPUT_STATES
    pub output : IsWithinLimits plain_schema side.output MOST_OUTPUT_STATES
    pub sheet : IsWithinSheetLimits (symbols_of i plain_schema (marked_at p s)) (marked_at p s)

  -- and calls neither
  abbrev pub KeepsCalls : Type 0
  KeepsCalls = KeepsSheetLimits × ¬ (PassCalls (marked_at p s) DEEPEST_CALLS)

  -- none that is tried before rows are
  abbrev pub IsWithinSpotLimits : Type 0
  IsWithinSpotLimits = IsWithinTripleLimits i plain_schema (marked_at p s)

  -- and none at all
  abbrev pub KeepsSpot : Type 0
  KeepsSpot = IsWithinSpotLimits × HasFewRows i plain_schema (marked_at p s) MOST_ROWS

-- it holds of each spot of these
abbrev pub OfEach : List Spot → (Spot → Type 0) → Type 0
OfEach ps P = (p : Spot) → Contains ps p → P p

module _ (i : Grammar) (s : Sheet) (ps : List Spot) where
  -- none of these spots passes a limit
  abbrev pub KeepSpots : Type 0
  KeepSpots = OfEach ps (KeepsSpot i s)

  -- This is passed by one of these spots, which has this number, and nothing that is tried before it by any; of rows by the first that passes some.
  pub data PassSpots : Kind → ℕ → Type 0 where
    by_text : {kind : Limit} {number : ℕ} (p : Spot) → stage (Texts kind) ≡ 0 → Contains ps p → PassesTripleLimit i plain_schema (marked_at p s) kind number → PassSpots (Texts kind) number
    by_calls : (p : Spot) → OfEach ps (KeepsSheetLimits i s) → Contains ps p → PassCalls (marked_at p s) DEEPEST_CALLS → PassSpots (Texts Calls) DEEPEST_CALLS
    by_entries : (p : Spot) → OfEach ps (KeepsCalls i s) → Contains ps p → HasManyEntries i plain_schema (marked_at p s) → PassSpots (Texts Entries) MOST_ENTRIES
    by_rows : {count : _} (p : Spot) (earlier later : List Spot) → OfEach ps (IsWithinSpotLimits i s) → ps ≡ earlier ++ p ∷ later → OfEach earlier (KeepsSpot i s)
        → HasManyRows i plain_schema (marked_at p s) MOST_ROWS (row_count count) → PassSpots (Rows count) (most_of MOST_ROWS (row_count count))

module _ (i : Grammar) (s : Sheet) where
  -- Each spot is told of, in order, exactly where none passes a limit, and else a limit that is passed: of the stage of any that is.
  pub record TellsSpots (answer : Answer) : Type 0 where
    pub answered : IsAnswered answer ↔ KeepSpots i s (spots_of s)
    pub spots : IfOk answer (λ told. map (λ t. seen t.spot) told.now ≡ spots_of s)
    pub each : IfOk answer (λ told. All (λ t. TellsSpot i s (seen t.spot) t.told) told.now)
    pub limit : IsToldLimit answer ↔ ((kind : Kind) × (number : ℕ) × PassSpots i s (spots_of s) kind number)
    pub passed : IfPassed answer (PassSpots i s (spots_of s))
    pub first : IfPassed answer (λ told number. (kind : Kind) (n : ℕ) → PassSpots i s (spots_of s) kind n → stage kind ≡ stage told)
