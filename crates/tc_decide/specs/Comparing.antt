-- What is asked of two schemas, whether the first is included in the second and whether both have the same valid documents, and what is decided of it.
use Rattle.std.specs.Prelude.{◌≡◌, ◌<◌, ◌≤◌, ◌⊎◌, ◌↔◌, ◌++◌, ℕ, List, Result, Ok, Err}
use Rattle.tc_base.specs.declared.Limit.{Limit}
use Rattle.tc_base.specs.declared.Limit.TheVariants.{Symbols}
use Rattle.tc_base.specs.declared.limits.TheConstants.{MOST_INPUT_STATES, MOST_SHOWN_NODES, MOST_SYMBOLS}
use Rattle.tc_decide.specs.Limits.{IsWithinLimits, PassesLimit, AreFew, symbols_of_mentions}
use Rattle.tc_decide.specs.RowCounts.{RowCount, trees, hedges, row_count}
use Rattle.tc_decide.specs.Texts.{IsSpelled, IsRefused}
use Rattle.tc_decide.specs.Told.{IsToldLimit}
use Rattle.tc_decide.specs.declared.failure.Failure.{Failure}
use Rattle.tc_decide.specs.declared.failure.Failure.TheVariants.{Refused, Passes, NoMemory}
use Rattle.tc_decide.specs.declared.failure.Kind.{Kind}
use Rattle.tc_decide.specs.declared.failure.Kind.TheVariants.{Texts, Rows, Nodes}
use Rattle.tc_decide.specs.declared.failure.Which.{Which}
use Rattle.tc_decide.specs.declared.failure.Which.TheVariants as which
use Rattle.tc_decide.specs.declared.limits.TheConstants.{MOST_ROWS}
use Rattle.tc_decide.specs.declared.schemas.SchemaText.{SchemaText}
use Rattle.tc_decide.specs.declared.verdict.Equality.{Equality}
use Rattle.tc_decide.specs.declared.verdict.Equality.TheVariants.{Same, FirstOnly, SecondOnly}
use Rattle.tc_decide.specs.declared.verdict.Inclusion.{Inclusion}
use Rattle.tc_decide.specs.declared.verdict.Inclusion.TheVariants.{Included, Not}
use Rattle.tc_incl.specs.Counts.{IsRowOfLiveTree, IsRowOfLiveHedge}
use Rattle.tc_incl.specs.Derivations.{ArePlain}
use Rattle.tc_incl.specs.Schemas.{Schemas, IsIncluded, IsDifference}
use Rattle.tc_model.specs.Grammars.{Grammar}
use Rattle.tc_model.specs.States.{input}
use Rattle.tc_model.specs.Symbols.{Mention, mentions_in_grammar, symbol_count}
use Rattle.tc_model.specs.Trees.{Trees, none, node_count}
use Rattle.tc_model.specs.Views.{before, place}
use Rattle.tc_read.specs.declared.faults.Reason.{Reason}
use Rattle.tc_rows.specs.Counts.{Counts, Pass}

-- what is asked of two schemas
pub data Question : Type 0 where
  -- whether each document that is valid for the first is valid for the second
  inclusion : Question
  -- whether both have the same valid documents
  equality : Question

-- the cover counts of a direction: there are more rows of trees, or of lists of trees, that are live for the first schema than there may be
pub data HasManyCovers (x : Schemas) : RowCount → Type 0 where
  many_trees : Pass (IsRowOfLiveTree x) MOST_ROWS → HasManyCovers x trees
  many_hedges : Pass (IsRowOfLiveHedge x) MOST_ROWS → HasManyCovers x hedges

abbrev pub HasFewCovers : Schemas → Type 0
HasFewCovers x = (count : RowCount) → ¬ (HasManyCovers x count)

-- both texts spell schemas
abbrev pub AreSpelled : SchemaText → SchemaText → Type 0
AreSpelled first second = IsSpelled first × IsSpelled second

-- this one of the two is refused, for this reason, which stands at this place, and the one before it is accepted
abbrev pub IsFirstRefusedOfPair : SchemaText → SchemaText → Which → Reason → ℕ → Type 0
IsFirstRefusedOfPair first second which.Input reason at = IsRefused first reason at
IsFirstRefusedOfPair first second which.Output reason at = IsSpelled first × IsRefused second reason at
IsFirstRefusedOfPair first second which.Sheet reason at = ⊥
IsFirstRefusedOfPair first second which.Document reason at = ⊥

-- the text that is told to be refused is so, and where none is told to be, both are accepted
abbrev pub TellsRefusalOfPair : {V : Type 0} → SchemaText → SchemaText → Result V Failure → Type 0
TellsRefusalOfPair first second (Ok verdict) = AreSpelled first second
TellsRefusalOfPair first second (Err (Refused which reason at)) = IsFirstRefusedOfPair first second which reason (place at)
TellsRefusalOfPair first second (Err (Passes kind number)) = AreSpelled first second
TellsRefusalOfPair first second (Err NoMemory) = Unit {0}

-- it is so, or not, or a limit is told

abbrev pub IsToldIncluded : Result Inclusion Failure → Type 0
IsToldIncluded (Ok (Included tree_rows hedge_rows)) = Unit {0}
IsToldIncluded _ = ⊥

abbrev pub IsToldNot : Result Inclusion Failure → Type 0
IsToldNot (Ok (Not document)) = Unit {0}
IsToldNot _ = ⊥

abbrev pub OnIncluded : Result Inclusion Failure → Type 0 → Type 0
OnIncluded (Ok (Included tree_rows hedge_rows)) P = P
OnIncluded _ P = Unit {0}

abbrev pub IfNotIncluded : Result Inclusion Failure → (Trees → Type 0) → Type 0
IfNotIncluded (Ok (Not document)) P = P (before document none)
IfNotIncluded _ P = Unit {0}

abbrev pub IsToldSame : Result Equality Failure → Type 0
IsToldSame (Ok Same) = Unit {0}
IsToldSame _ = ⊥

abbrev pub IsToldDifferent : Result Equality Failure → Type 0
IsToldDifferent (Ok (FirstOnly document)) = Unit {0}
IsToldDifferent (Ok (SecondOnly document)) = Unit {0}
IsToldDifferent _ = ⊥

abbrev pub OnSame : Result Equality Failure → Type 0 → Type 0
OnSame (Ok Same) P = P
OnSame _ P = Unit {0}

abbrev pub IfShown : Result Equality Failure → (Trees → Type 0) → Type 0
IfShown (Ok (FirstOnly document)) P = P (before document none)
IfShown (Ok (SecondOnly document)) P = P (before document none)
IfShown _ P = Unit {0}

module _ (a b : Grammar) where
  -- the symbols of both
  abbrev pub symbols_of_both : List Mention
  symbols_of_both = symbols_of_mentions (mentions_in_grammar a ++ mentions_in_grammar b)

  -- neither passes a limit that is tried before rows are, and nor do both together
  pub record AreWithinPairLimits : Type 0 where
    pub first : IsWithinLimits a input MOST_INPUT_STATES
    pub second : IsWithinLimits b input MOST_INPUT_STATES
    pub few : AreFew symbols_of_both

  -- the first of these limits that is passed, and its number
  pub data PassesPairLimit : Limit → ℕ → Type 0 where
    by_first : {kind : Limit} {number : ℕ} → PassesLimit a input MOST_INPUT_STATES kind number → PassesPairLimit kind number
    by_second : {kind : Limit} {number : ℕ} → IsWithinLimits a input MOST_INPUT_STATES → PassesLimit b input MOST_INPUT_STATES kind number → PassesPairLimit kind number
    by_symbols : IsWithinLimits a input MOST_INPUT_STATES → IsWithinLimits b input MOST_INPUT_STATES → MOST_SYMBOLS < symbol_count symbols_of_both → PassesPairLimit Symbols MOST_SYMBOLS

  -- the two directions: of the first in the second, and of the second in the first
  abbrev pub forward : Schemas
  forward = record { first = a; second = b; symbols = symbols_of_both }

  abbrev pub backward : Schemas
  backward = record { first = b; second = a; symbols = symbols_of_both }

  -- a document can be shown: its texts are `t`, its names those that stand for their symbols, and its nodes few
  pub record IsShown (document : Trees) : Type 0 where
    pub plain : ArePlain forward document
    pub few : node_count document ≤ MOST_SHOWN_NODES

  -- it is valid for exactly one of both
  abbrev pub IsOfOne : Trees → Type 0
  IsOfOne document = IsDifference a b document ⊎ IsDifference b a document

  -- the counts that inclusion tries are kept, and those that equality tries
  abbrev pub AreKept : Question → Type 0
  AreKept inclusion = AreWithinPairLimits × HasFewCovers forward
  AreKept equality = AreWithinPairLimits × HasFewCovers forward × HasFewCovers backward

  -- the schemas are as is asked
  abbrev pub IsSo : Question → Type 0
  IsSo inclusion = IsIncluded a b
  IsSo equality = IsIncluded a b × IsIncluded b a

  -- a document shows that they aren't
  abbrev pub Refutes : Question → Trees → Type 0
  Refutes inclusion document = IsDifference a b document
  Refutes equality document = IsOfOne document

  -- a direction that is asked for has too many rows, and those before it haven't
  pub data AreTooMany : Question → RowCount → Type 0 where
    in_inclusion : {count : RowCount} → HasManyCovers forward count → AreTooMany inclusion count
    in_first : {count : RowCount} → HasManyCovers forward count → AreTooMany equality count
    in_second : {count : RowCount} → HasFewCovers forward → HasManyCovers backward count → AreTooMany equality count

  module _ (question : Question) where
    -- a document that refutes can be shown
    abbrev pub HasSmallRefutation : Type 0
    HasSmallRefutation = (document : Trees) × Refutes question document × (node_count document ≤ MOST_SHOWN_NODES)

    -- there are documents that refute, and all have too many nodes to be shown
    pub record HasLargeRefutations : Type 0 where
      pub some : (document : Trees) × Refutes question document
      pub large : (document : Trees) → Refutes question document → MOST_SHOWN_NODES < node_count document

    -- it refutes, and none that does has fewer nodes
    pub record IsLeastRefutation (document : Trees) : Type 0 where
      pub refutes : Refutes question document
      pub least : (other : Trees) → Refutes question other → node_count document ≤ node_count other

    -- This is passed, which has this number, and nothing that is tried before it: a limit on the schemas; then one on rows, of which any is told; and
    -- then the limit on nodes, by all documents that refute.
    abbrev pub PassesComparison : Kind → ℕ → Type 0
    PassesComparison (Texts kind) number = PassesPairLimit kind number
    PassesComparison (Rows count) number = AreWithinPairLimits × AreTooMany question (row_count count) × (number ≡ MOST_ROWS)
    PassesComparison Nodes number = AreKept question × HasLargeRefutations × (number ≡ MOST_SHOWN_NODES)
    PassesComparison _ number = ⊥

    abbrev pub HasPassed : Type 0
    HasPassed = (kind : Kind) × (number : ℕ) × PassesComparison kind number

    -- the limit that a failure tells
    abbrev pub TellsPairLimit : {V : Type 0} → Result V Failure → Type 0
    TellsPairLimit (Err (Passes kind number)) = PassesComparison kind number
    TellsPairLimit _ = Unit {0}

  -- a document that is shown is valid for the one that is told alone; for the second only where none that is valid for the first alone has as few nodes
  abbrev pub IfDifferent : Result Equality Failure → Type 0
  IfDifferent (Ok (FirstOnly document)) = IsDifference a b (before document none)
  IfDifferent (Ok (SecondOnly document)) = IsDifference b a (before document none) × ((other : Trees) → IsDifference a b other → node_count (before document none) < node_count other)
  IfDifferent _ = Unit {0}

  -- Included exactly where no limit is passed and it is so; not exactly where none is passed and a document that can be shown is valid for the first
  -- alone, with one of the fewest nodes; and else a limit, exactly where one is passed.
  pub record DecidesInclusion (result : Result Inclusion Failure) : Type 0 where
    pub yes : IsToldIncluded result ↔ (AreKept inclusion × IsSo inclusion)
    pub no : IsToldNot result ↔ (AreKept inclusion × HasSmallRefutation inclusion)
    pub least : IfNotIncluded result (λ document. IsLeastRefutation inclusion document × IsShown document)
    pub limit : IsToldLimit result ↔ HasPassed inclusion

  -- so of equality
  pub record DecidesEquality (result : Result Equality Failure) : Type 0 where
    pub yes : IsToldSame result ↔ (AreKept equality × IsSo equality)
    pub no : IsToldDifferent result ↔ (AreKept equality × HasSmallRefutation equality)
    pub least : IfShown result (λ document. IsLeastRefutation equality document × IsShown document)
    pub limit : IsToldLimit result ↔ HasPassed equality

  -- the numbers of rows where it is included, and the limit that a failure tells
  abbrev pub TellsInclusionCounts : Result Inclusion Failure → Type 0
  TellsInclusionCounts (Ok (Included tree_rows hedge_rows)) = Counts (IsRowOfLiveTree forward) tree_rows × Counts (IsRowOfLiveHedge forward) hedge_rows
  TellsInclusionCounts (Ok (Not document)) = Unit {0}
  TellsInclusionCounts (Err failure) = TellsPairLimit inclusion {V = Inclusion} (Err failure)

  abbrev pub TellsEqualityLimit : Result Equality Failure → Type 0
  TellsEqualityLimit result = TellsPairLimit equality result
