-- What is answered of two schemas: whether the first is included in the second, and whether both have the same valid documents.
use Rattle.std.specs.Prelude.{◌<◌, ◌≤◌, ℕ, List}
use Rattle.tc_base.specs.declared.limits.TheConstants.{MOST_SHOWN_NODES}
use Rattle.tc_answer.specs.Answers.{Answer, included, not_included, equal, first_only, second_only, rows_limit, counterexample_limit, over_limit, refused}
use Rattle.tc_base.specs.declared.Limit.{Limit}
use Rattle.tc_decide.specs.Comparing.{Question, inclusion, equality, HasManyCovers, HasFewCovers, AreWithinPairLimits, PassesPairLimit, forward, backward, IsShown, IsOfOne}
use Rattle.tc_decide.specs.RowCounts.{RowCount}
use Rattle.tc_decide.specs.declared.limits.TheConstants.{MOST_ROWS}
use Rattle.tc_incl.specs.Counts.{IsRowOfLiveTree, IsRowOfLiveHedge}
use Rattle.tc_incl.specs.Schemas.{IsIncluded, IsDifference}
use Rattle.tc_model.specs.Grammars.{Grammar}
use Rattle.tc_model.specs.Trees.{Trees, node_count}
use Rattle.tc_read.specs.declared.faults.Reason.{Reason}
use Rattle.tc_rows.specs.Counts.{Counts}
use Rattle.tc_top.specs.SchemaTexts.{SchemaText, IsRefusedText}

module _ (a b : Grammar) where
  -- what is found where inclusion is asked for
  pub data FindsInclusion : Answer → Type 0 where
    inclusion_passes : {kind : Limit} {number : ℕ} → PassesPairLimit a b kind number → FindsInclusion (over_limit kind number)
    inclusion_covers : (count : RowCount) → AreWithinPairLimits a b → HasManyCovers (forward a b) count → FindsInclusion (rows_limit count MOST_ROWS)
    -- with the cover counts
    finds_included : {tree_rows hedge_rows : ℕ} → AreWithinPairLimits a b → HasFewCovers (forward a b) → IsIncluded a b → Counts (IsRowOfLiveTree (forward a b)) tree_rows → Counts (IsRowOfLiveHedge (forward a b)) hedge_rows
        → FindsInclusion (included tree_rows hedge_rows)
    -- a document that is valid for the first alone, with the fewest nodes
    finds_not_included : {document : Trees} → AreWithinPairLimits a b → HasFewCovers (forward a b) → IsDifference a b document → IsShown a b document
        → ((other : Trees) → IsDifference a b other → node_count document ≤ node_count other) → FindsInclusion (not_included document)
    -- all such documents are too large to be shown
    finds_none_shown : {document : Trees} → AreWithinPairLimits a b → HasFewCovers (forward a b) → IsDifference a b document
        → ((other : Trees) → IsDifference a b other → MOST_SHOWN_NODES < node_count other) → FindsInclusion counterexample_limit

  -- what is found where it is asked whether both have the same valid documents
  pub data FindsEquality : Answer → Type 0 where
    equality_passes : {kind : Limit} {number : ℕ} → PassesPairLimit a b kind number → FindsEquality (over_limit kind number)
    equality_covers_forward : (count : RowCount) → AreWithinPairLimits a b → HasManyCovers (forward a b) count → FindsEquality (rows_limit count MOST_ROWS)
    equality_covers_backward : (count : RowCount) → AreWithinPairLimits a b → HasFewCovers (forward a b) → HasManyCovers (backward a b) count → FindsEquality (rows_limit count MOST_ROWS)
    finds_equal : AreWithinPairLimits a b → HasFewCovers (forward a b) → HasFewCovers (backward a b) → IsIncluded a b → IsIncluded b a → FindsEquality equal
    -- a document that is valid for the first alone, with the fewest nodes of all that are valid for one alone
    finds_first_only : {document : Trees} → AreWithinPairLimits a b → HasFewCovers (forward a b) → HasFewCovers (backward a b) → IsDifference a b document → IsShown a b document
        → ((other : Trees) → IsOfOne a b other → node_count document ≤ node_count other) → FindsEquality (first_only document)
    -- one that is valid for the second alone, where those that are valid for the first alone have more nodes
    finds_second_only : {document : Trees} → AreWithinPairLimits a b → HasFewCovers (forward a b) → HasFewCovers (backward a b) → IsDifference b a document → IsShown a b document
        → ((other : Trees) → IsDifference a b other → node_count document < node_count other)
        → ((other : Trees) → IsDifference b a other → node_count document ≤ node_count other) → FindsEquality (second_only document)
    finds_no_one_shown : {document : Trees} → AreWithinPairLimits a b → HasFewCovers (forward a b) → HasFewCovers (backward a b) → IsOfOne a b document
        → ((other : Trees) → IsOfOne a b other → MOST_SHOWN_NODES < node_count other) → FindsEquality counterexample_limit

  abbrev pub FindsBoth : Question → Answer → Type 0
  FindsBoth inclusion answer = FindsInclusion answer
  FindsBoth equality answer = FindsEquality answer

-- what is answered of two texts
pub data Compares (question : Question) (first second first_text second_text : List ℕ) : Answer → Type 0 where
  first_refused : {reason : Reason} {place : ℕ} → IsRefusedText first first_text reason place → Compares question first second first_text second_text (refused first reason place)
  second_refused : {a : Grammar} {reason : Reason} {place : ℕ} → SchemaText first first_text a → IsRefusedText second second_text reason place
      → Compares question first second first_text second_text (refused second reason place)
  both_schemas : {a b : Grammar} {answer : Answer} → SchemaText first first_text a → SchemaText second second_text b → FindsBoth a b question answer
      → Compares question first second first_text second_text answer
