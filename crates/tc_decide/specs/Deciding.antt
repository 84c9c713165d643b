-- What is decided of the texts of two schemas and a stylesheet.
use Rattle.std.specs.Prelude.{◌≡◌, ◌⊎◌, ◌↔◌, ℕ, List, Result, Ok, Err}
use Rattle.tc_base.specs.declared.limits.TheConstants.{MOST_SHOWN_NODES}
use Rattle.tc_decide.specs.Checking.{most_of, IsWithinTripleLimits, PassesTripleLimit, HasManyRows, HasFewRows, AreRowCounts, IsLeastCounter, HasFewestNodes, HasSmallCounter, HasLargeCounters, IsLargeRun}
use Rattle.tc_decide.specs.RowCounts.{row_count}
use Rattle.tc_decide.specs.Texts.{IsSpelled, IsRefused}
use Rattle.tc_decide.specs.Told.{IsToldLimit}
use Rattle.tc_decide.specs.declared.failure.Failure.{Failure}
use Rattle.tc_decide.specs.declared.failure.Failure.TheVariants.{Refused, Passes, NoMemory}
use Rattle.tc_decide.specs.declared.failure.Kind.{Kind}
use Rattle.tc_decide.specs.declared.failure.Kind.TheVariants.{Texts, Rows, Nodes}
use Rattle.tc_decide.specs.declared.failure.Which.{Which}
use Rattle.tc_decide.specs.declared.failure.Which.TheVariants as which
use Rattle.tc_decide.specs.declared.schemas.SchemaText.{SchemaText}
use Rattle.tc_decide.specs.declared.verdict.Output.{Output}
use Rattle.tc_decide.specs.declared.verdict.Output.TheVariants.{Shown, TooLarge}
use Rattle.tc_decide.specs.declared.verdict.Verdict.{Verdict}
use Rattle.tc_decide.specs.declared.verdict.Verdict.TheVariants.{Safe, Unsafe}
use Rattle.tc_model.specs.Grammars.{Grammar}
use Rattle.tc_model.specs.Safety.{IsSafe, IsCounterexample, IsResultOf}
use Rattle.tc_model.specs.Sheets.{Sheet}
use Rattle.tc_model.specs.Trees.{Trees, none}
use Rattle.tc_model.specs.Views.{before, trees, place}
use Rattle.tc_read.specs.Refusals.{IsRefusedSheet}
use Rattle.tc_read.specs.Sheets.{IsSheetOf}
use Rattle.tc_read.specs.declared.faults.Reason.{Reason}
use Rattle.tc_run.specs.Limits.{KeepsLimits}

-- where it is yes, this holds
abbrev pub OnSafe : Result Verdict Failure → Type 0 → Type 0
OnSafe (Ok (Safe counts)) P = P
OnSafe _ P = Unit {0}

-- where it is no, this holds of the document and of what is told of its result
abbrev pub IfUnsafe : Result Verdict Failure → (Trees → Output → Type 0) → Type 0
IfUnsafe (Ok (Unsafe document output)) P = P (before document none) output
IfUnsafe _ P = Unit {0}

abbrev pub IsYes : Result Verdict Failure → Type 0
IsYes (Ok (Safe counts)) = Unit {0}
IsYes _ = ⊥

abbrev pub IsNo : Result Verdict Failure → Type 0
IsNo (Ok (Unsafe document output)) = Unit {0}
IsNo _ = ⊥

-- the texts spell schemas and a stylesheet
pub record AreAccepted (input output : SchemaText) (sheet : List ℕ) : Type 0 where
  pub input_spells : IsSpelled input
  pub output_spells : IsSpelled output
  pub sheet_spells : (s : Sheet) × IsSheetOf sheet s

-- this one of the texts is refused, for this reason, which stands at this place, and those before it are accepted
abbrev pub IsFirstRefused : SchemaText → SchemaText → List ℕ → Which → Reason → ℕ → Type 0
IsFirstRefused input output sheet which.Input reason at = IsRefused input reason at
IsFirstRefused input output sheet which.Output reason at = IsSpelled input × IsRefused output reason at
IsFirstRefused input output sheet which.Sheet reason at = IsSpelled input × IsSpelled output × IsRefusedSheet sheet reason at
IsFirstRefused input output sheet which.Document reason at = ⊥

-- the text that is told to be refused is so, and where none is told to be, all are accepted
abbrev pub TellsRefusal : {V : Type 0} → SchemaText → SchemaText → List ℕ → Result V Failure → Type 0
TellsRefusal input output sheet (Ok verdict) = AreAccepted input output sheet
TellsRefusal input output sheet (Err (Refused which reason at)) = IsFirstRefused input output sheet which reason (place at)
TellsRefusal input output sheet (Err (Passes kind number)) = AreAccepted input output sheet
TellsRefusal input output sheet (Err NoMemory) = Unit {0}

module _ (i o : Grammar) (s : Sheet) where
  -- what is shown is a counterexample, and its result unless that is too large
  abbrev pub IsShownBy : Trees → Output → Type 0
  IsShownBy document (Shown output) = IsCounterexample i o s document (trees output.now)
  IsShownBy document TooLarge = (result : Trees) × IsCounterexample i o s document result

  -- none of the limits is passed, on schemas and stylesheets and on rows
  abbrev pub KeepsAll : ℕ → Type 0
  KeepsAll most = IsWithinTripleLimits i o s × HasFewRows i o s most

  -- This is passed, which has this number, and nothing that is tried before it: a limit on schemas and stylesheets; then one on rows; and then the limit
  -- on nodes, by all documents that are counterexamples.
  abbrev pub PassesFirst : ℕ → Kind → ℕ → Type 0
  PassesFirst most (Texts kind) number = PassesTripleLimit i o s kind number
  PassesFirst most (Rows count) number = IsWithinTripleLimits i o s × HasManyRows i o s most (row_count count) × (number ≡ most_of most (row_count count))
  PassesFirst most Nodes number = KeepsAll most × HasLargeCounters i o s × (number ≡ MOST_SHOWN_NODES)
  PassesFirst most _ number = ⊥

-- the result, exactly where the run keeps to its limits
abbrev pub IsOutputOf : Sheet → Trees → Output → Type 0
IsOutputOf s document (Shown output) = KeepsLimits s document × IsResultOf s document (trees output.now)
IsOutputOf s document TooLarge = IsLargeRun s document

-- Yes exactly where the stylesheet is safe; no exactly where some counterexample can be shown, with one of the fewest nodes and its result.
pub record DecidesSafety (i o : Grammar) (s : Sheet) (result : Result Verdict Failure) : Type 0 where
  pub yes : IsYes result ↔ IsSafe i o s
  pub no : IsNo result ↔ HasSmallCounter i o s
  pub least : IfUnsafe result (λ document output. IsShownBy i o s document output × HasFewestNodes i o s document)

module _ (most : ℕ) (i o : Grammar) (s : Sheet) where
  -- So by limits: yes exactly where none is passed and the stylesheet is safe; no exactly where none is passed and some counterexample can be shown, with a
  -- plain one of the fewest nodes, and its result exactly where its run keeps to the limits; and else a limit, exactly where one is passed.
  pub record DecidesWithin (result : Result Verdict Failure) : Type 0 where
    pub yes : IsYes result ↔ (KeepsAll i o s most × IsSafe i o s)
    pub no : IsNo result ↔ (KeepsAll i o s most × HasSmallCounter i o s)
    pub least : IfUnsafe result (λ document output. IsLeastCounter i o s document × IsOutputOf s document output)
    pub limit : IsToldLimit result ↔ ((kind : Kind) × (number : ℕ) × PassesFirst i o s most kind number)

  -- the numbers of rows of a yes, and the limit that a failure tells
  abbrev pub TellsCounts : Result Verdict Failure → Type 0
  TellsCounts (Ok (Safe counts)) = AreRowCounts i o s counts.trees counts.hedges counts.outputs
  TellsCounts (Ok (Unsafe document output)) = Unit {0}
  TellsCounts (Err (Refused which reason at)) = Unit {0}
  TellsCounts (Err (Passes kind number)) = PassesFirst i o s most kind number
  TellsCounts (Err NoMemory) = Unit {0}

  -- all of it, unless memory is refused
  pub record IsCounted (result : Result Verdict Failure) : Type 0 where
    pub limits : (result ≡ Err NoMemory) ⊎ DecidesWithin result
    pub numbers : TellsCounts result
