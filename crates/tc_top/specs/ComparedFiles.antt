-- What a comparison of held files decides.
use Rattle.std.specs.Prelude.{◌≡◌, ◌<◌, ◌≤◌, ◌⊎◌, ◌↔◌, ℕ, List, length, Option, Some, codes}
use Rattle.tc_base.specs.declared.limits.TheConstants.{MOST_SHOWN_NODES}
use Rattle.tc_decide.specs.RowCounts.{RowCount}
use Rattle.tc_answer.specs.Lines.{line, limit_line, limit_word, count_word, included_line, not_included_lines, different_lines}
use Rattle.tc_answer.specs.SchemaWords.{file_of}
use Rattle.tc_answer.specs.Words.{Command, include, same, Words}
use Rattle.tc_decide.specs.declared.limits.TheConstants.{MOST_ROWS}
use Rattle.tc_answer.specs.declared.status.Status.{Status}
use Rattle.tc_answer.specs.declared.status.Status.TheVariants.{Yes, No, Limit}
use Rattle.tc_base.specs.declared.Limit as kinds
use Rattle.tc_incl.specs.Counts.{IsRowOfLiveTree, IsRowOfLiveHedge}
use Rattle.tc_incl.specs.Schemas.{IsDifference}
use Rattle.tc_io.specs.Store.{Files, longest_file}
use Rattle.tc_io.specs.Sink.{Appended}
use Rattle.tc_model.specs.Grammars.{Grammar}
use Rattle.tc_model.specs.Printed.{printed}
use Rattle.tc_model.specs.Trees.{Trees, node_count}
use Rattle.tc_print.specs.ReadBack.{IsReadAs}
use Rattle.tc_rows.specs.Counts.{Counts}
use Rattle.tc_top.specs.SchemaTexts.{SchemaText}
use Rattle.tc_decide.specs.Comparing.{Question, inclusion, equality, AreWithinPairLimits, PassesPairLimit, forward, IsShown, AreKept, IsSo, HasSmallRefutation, HasLargeRefutations, IsLeastRefutation, AreTooMany}

-- the words that ask this of two files
abbrev pub asks : Question → List ℕ → List ℕ → Command
asks inclusion first second = include first second
asks equality first second = same first second

-- the words ask this of held files, none longer than a file may be, whose texts spell two schemas
pub record ComparesFiles (words : List (List ℕ)) (files : Files) (question : Question) (a b : Grammar) : Type 0 where
  pub first : List ℕ
  pub second : List ℕ
  pub words_are : Words words (asks question first second)
  pub first_text : List ℕ
  pub second_text : List ℕ
  pub first_held : files (file_of first) ≡ Some first_text
  pub second_held : files (file_of second) ≡ Some second_text
  pub first_short : length first_text ≤ longest_file
  pub second_short : length second_text ≤ longest_file
  pub first_spells : SchemaText first first_text a
  pub second_spells : SchemaText second second_text b

module _ (a b : Grammar) where
  -- a limit is told, which is passed while none is that is tried before it
  pub data IsLimited (question : Question) : Type 0 where
    limited_before_rows : {kind : kinds.Limit} {number : ℕ} → PassesPairLimit a b kind number → IsLimited question
    limited_in_rows : (count : RowCount) → AreWithinPairLimits a b → AreTooMany a b question count → IsLimited question
    limited_in_nodes : AreKept a b question → HasLargeRefutations a b question → IsLimited question

  -- what is written where they are as is asked: the numbers of rows, or that they are the same
  abbrev pub ShowsSo : Question → Option (List ℕ) → Option (List ℕ) → Type 0
  ShowsSo inclusion old new =
      (tree_rows : ℕ) × (hedge_rows : ℕ) × Counts (IsRowOfLiveTree (forward a b)) tree_rows × Counts (IsRowOfLiveHedge (forward a b)) hedge_rows × Appended old new (included_line tree_rows hedge_rows)
  ShowsSo equality old new = Appended old new (line (codes "same"))

  -- what is written where they aren't: the document, and of `same` for which of both it is valid, for the first wherever one of the least is
  pub data Shows (old new : Option (List ℕ)) (document : Trees) : Question → Type 0 where
    shows_difference : Appended old new (not_included_lines document) → Shows old new document inclusion
    shows_first : IsDifference a b document → Appended old new (different_lines (codes "first-only") document) → Shows old new document equality
    shows_second : IsDifference b a document → ((other : Trees) → IsDifference a b other → node_count document < node_count other) → Appended old new (different_lines (codes "second-only") document)
        → Shows old new document equality

  -- yes exactly where no limit is passed and the schemas are as is asked; no exactly where none is passed and a document that can be shown refutes it,
  -- with one of the fewest nodes, which is read back; and else a limit that is passed
  pub record DecidesComparison (status : Status) (old new : Option (List ℕ)) (question : Question) : Type 0 where
    pub yes : (status ≡ Yes) ↔ (AreKept a b question × IsSo a b question)
    pub no : (status ≡ No) ↔ (AreKept a b question × HasSmallRefutation a b question)
    pub limit : (status ≡ Limit) ↔ IsLimited question
    pub one : (status ≡ Yes) ⊎ ((status ≡ No) ⊎ (status ≡ Limit))
    pub yes_text : status ≡ Yes → ShowsSo question old new
    pub no_text : status ≡ No → (document : Trees) × IsLeastRefutation a b question document × IsShown a b document × IsReadAs (printed document) document × Shows old new document question
    pub before_rows_text : (kind : kinds.Limit) (number : ℕ) → PassesPairLimit a b kind number → Appended old new (limit_line (limit_word kind) number)
    pub rows_text : (count : RowCount) → AreWithinPairLimits a b → AreTooMany a b question count → (named : RowCount) × AreTooMany a b question named × Appended old new (limit_line (count_word named) MOST_ROWS)
    pub nodes_text : AreKept a b question → HasLargeRefutations a b question → Appended old new (limit_line (codes "counterexample") MOST_SHOWN_NODES)
