-- What contracts see of two schemas that are compared, and of what rows tell of them.
use Rattle.std.specs.Prelude.{◌≡◌, ◌<◌, ◌≤◌, ℕ, Result, Ok, Err}
use Rattle.tc_base.specs.declared.limits.TheConstants.{MOST_SHOWN_NODES}
use Rattle.tc_base.specs.declared.Limit.{Limit}
use Rattle.tc_decide.specs.Comparing.{inclusion, equality, AreWithinPairLimits, PassesPairLimit, forward, backward, IsShown, IsOfOne, AreKept, IsSo, IsLeastRefutation, PassesComparison, TellsRefusalOfPair, IsFirstRefusedOfPair}
use Rattle.tc_decide.specs.Texts.{Spells}
use Rattle.tc_decide.specs.declared.comparing.Pair.{Pair}
use Rattle.tc_decide.specs.declared.failure.Failure.{Failure}
use Rattle.tc_decide.specs.declared.failure.Failure.TheVariants.{Refused, Passes, NoMemory}
use Rattle.tc_decide.specs.declared.failure.Kind.TheVariants.{Texts, Rows}
use Rattle.tc_decide.specs.declared.failure.RowCount.TheVariants.{Trees as TreeRows, Hedges as HedgeRows}
use Rattle.tc_decide.specs.declared.limits.TheConstants.{MOST_ROWS}
use Rattle.tc_decide.specs.declared.schemas.SchemaText.{SchemaText}
use Rattle.tc_decide.specs.declared.verdict.Equality.{Equality}
use Rattle.tc_decide.specs.declared.verdict.Equality.TheVariants.{Same, FirstOnly, SecondOnly}
use Rattle.tc_decide.specs.declared.verdict.Inclusion as verdict
use Rattle.tc_decide.specs.declared.verdict.Inclusion.TheVariants as told
use Rattle.tc_incl.specs.Counts.{IsRowOfLiveTree, IsRowOfLiveHedge}
use Rattle.tc_incl.specs.Covers.{AreOf}
use Rattle.tc_incl.specs.Schemas.{IsDifference}
use Rattle.tc_incl.specs.declared.inclusion.Cover.{Cover}
use Rattle.tc_incl.specs.declared.inclusion.Cover.TheVariants.{Included, Not, NotLarge}
use Rattle.tc_incl.specs.declared.inclusion.InclFault.{InclFault}
use Rattle.tc_incl.specs.declared.inclusion.InclFault.TheVariants as fault
use Rattle.tc_model.specs.Grammars.{Grammar}
use Rattle.tc_model.specs.Trees.{Trees, none, node_count}
use Rattle.tc_model.specs.Views.{before, place}
use Rattle.tc_rows.specs.Counts.{Counts}

-- the failure that a fault of rows is
abbrev pub of_covers : InclFault → Failure
of_covers fault.TooManyTrees = Passes (Rows TreeRows) MOST_ROWS
of_covers fault.TooManyHedges = Passes (Rows HedgeRows) MOST_ROWS
of_covers fault.NoMemory = NoMemory

-- a document that is told has few nodes
abbrev pub HasFewNodes : Cover → Type 0
HasFewNodes (Included tree_rows hedge_rows) = Unit {0}
HasFewNodes (Not document) = node_count (before document none) ≤ MOST_SHOWN_NODES
HasFewNodes NotLarge = Unit {0}

-- the automata of two schemas within their limits, and the symbols of both, for each direction
pub record IsPairOf (a b : Grammar) (pair : Pair) : Type 0 where
  pub within_limits : AreWithinPairLimits a b
  pub forth : AreOf pair.first pair.second pair.alphabet (forward a b)
  pub back : AreOf pair.second pair.first pair.alphabet (backward a b)

module _ (a b : Grammar) where
  -- what is found where inclusion is asked for
  abbrev pub FindsInclusion : Result verdict.Inclusion Failure → Type 0
  FindsInclusion (Ok (told.Included tree_rows hedge_rows)) =
      AreKept a b inclusion × IsSo a b inclusion × Counts (IsRowOfLiveTree (forward a b)) tree_rows × Counts (IsRowOfLiveHedge (forward a b)) hedge_rows
  FindsInclusion (Ok (told.Not document)) = AreKept a b inclusion × IsLeastRefutation a b inclusion (before document none) × IsShown a b (before document none)
  FindsInclusion (Err (Refused which reason at)) = ⊥
  FindsInclusion (Err (Passes kind number)) = PassesComparison a b inclusion kind number
  FindsInclusion (Err NoMemory) = Unit {0}

  -- a document that is valid for one alone, with the fewest nodes of all that are valid for one alone: for the second only where those that are valid for
  -- the first alone have more nodes
  abbrev pub FindsOneOnly : Equality → Type 0
  FindsOneOnly Same = ⊥
  FindsOneOnly (FirstOnly document) =
      AreKept a b equality × IsLeastRefutation a b equality (before document none) × IsShown a b (before document none) × IsDifference a b (before document none)
  FindsOneOnly (SecondOnly document) =
      AreKept a b equality × IsLeastRefutation a b equality (before document none) × IsShown a b (before document none)
      × IsDifference b a (before document none) × ((other : Trees) → IsDifference a b other → node_count (before document none) < node_count other)

  -- what is found where it is asked whether both have the same valid documents
  abbrev pub FindsEquality : Result Equality Failure → Type 0
  FindsEquality (Ok Same) = AreKept a b equality × IsSo a b equality
  FindsEquality (Ok (FirstOnly document)) = FindsOneOnly (FirstOnly document)
  FindsEquality (Ok (SecondOnly document)) = FindsOneOnly (SecondOnly document)
  FindsEquality (Err (Refused which reason at)) = ⊥
  FindsEquality (Err (Passes kind number)) = PassesComparison a b equality kind number
  FindsEquality (Err NoMemory) = Unit {0}

-- the schemas that two texts spell, by their automata
pub record IsPairOfTexts (first second : SchemaText) (pair : Pair) : Type 0 where
  pub a : Grammar
  pub b : Grammar
  pub first_spells : Spells first a
  pub second_spells : Spells second b
  pub is : IsPairOf a b pair

-- the texts pass a limit that is tried before rows are
pub record ArePassedOfPair (first second : SchemaText) (kind : Limit) (number : ℕ) : Type 0 where
  pub a : Grammar
  pub b : Grammar
  pub first_spells : Spells first a
  pub second_spells : Spells second b
  pub passes : PassesPairLimit a b kind number

-- one of the texts is refused, or they pass a limit that is tried before rows are
abbrev pub StopsPair : SchemaText → SchemaText → Failure → Type 0
StopsPair first second (Refused which reason at) = IsFirstRefusedOfPair first second which reason (place at)
StopsPair first second (Passes (Texts kind) number) = ArePassedOfPair first second kind number
StopsPair first second (Passes _ number) = ⊥
StopsPair first second NoMemory = Unit {0}

-- what is found of the schemas that texts spell, and which text is refused
pub record IsFoundOfPair {V : Type 0} (Found : Grammar → Grammar → Result V Failure → Type 0) (first second : SchemaText) (result : Result V Failure) : Type 0 where
  pub refusal : TellsRefusalOfPair first second result
  pub found : (a b : Grammar) → Spells first a → Spells second b → Found a b result
