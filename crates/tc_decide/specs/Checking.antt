-- The limits of a check, in the order in which they are tried, and what a check finds of two schemas and a stylesheet.
use Rattle.std.specs.Prelude.{◌<◌, ◌≤◌, ◌⊎◌, ℕ}
use Rattle.tc_base.specs.declared.Limit.{Limit}
use Rattle.tc_base.specs.declared.Limit.TheVariants.{Calls, Entries}
use Rattle.tc_base.specs.declared.limits.TheConstants.{DEEPEST_CALLS, MOST_ENTRIES, MOST_INPUT_STATES, MOST_OPEN, MOST_OUTPUTS, MOST_OUTPUT_STATES, MOST_SHOWN_NODES, MOST_WORK}
use Rattle.tc_close.specs.Triples.{IsTripleOf}
use Rattle.tc_model.specs.Grammars.{Grammar}
use Rattle.tc_model.specs.Outcomes.{Outcome}
use Rattle.tc_model.specs.Safety.{IsCounterexample, Transforms}
use Rattle.tc_model.specs.Sheets.{Sheet}
use Rattle.tc_model.specs.States.{input, output}
use Rattle.tc_model.specs.Symbols.{symbols_of}
use Rattle.tc_model.specs.Trees.{Trees, node_count}
use Rattle.tc_rows.specs.Counts.{Counts, Pass, IsRowOfLiveTree, IsRowOfLiveHedge, IsOutput, PassCalls, PassEntries}
use Rattle.tc_rows.specs.Derivations.{ArePlain}
use Rattle.tc_rows.specs.Triples.{Triple}
use Rattle.tc_decide.specs.Limits.{IsWithinLimits, PassesLimit, IsWithinSheetLimits, SheetPasses}
use Rattle.tc_decide.specs.RowCounts.{RowCount, trees, hedges, outputs}

-- how many there may be of what is counted
abbrev pub most_of : ℕ → RowCount → ℕ
most_of most trees = most
most_of most hedges = most
most_of most outputs = MOST_OUTPUTS

module _ (i o : Grammar) (s : Sheet) where
  -- Well-formed schemas and a well-formed stylesheet within the limits of the stylesheet have a triple, and all of theirs have the same rows: law_of_triples of tc_close.

  -- rows have too many entries
  abbrev pub HasManyEntries : Type 0
  HasManyEntries = (x : Triple) × IsTripleOf i o s x × PassEntries x MOST_ENTRIES

  -- none of the limits is passed that are tried before rows are
  pub record IsWithinTripleLimits : Type 0 where
    pub input : IsWithinLimits i input MOST_INPUT_STATES
    pub output : IsWithinLimits o output MOST_OUTPUT_STATES
    pub sheet : IsWithinSheetLimits (symbols_of i o s) s
    pub calls : ¬ (PassCalls s DEEPEST_CALLS)
    pub entries : ¬ HasManyEntries

  -- the first of them that is passed, and its number
  pub data PassesTripleLimit : Limit → ℕ → Type 0 where
    by_input : {kind : Limit} {number : ℕ} → PassesLimit i input MOST_INPUT_STATES kind number → PassesTripleLimit kind number
    by_output : {kind : Limit} {number : ℕ} → IsWithinLimits i input MOST_INPUT_STATES → PassesLimit o output MOST_OUTPUT_STATES kind number → PassesTripleLimit kind number
    by_sheet : {kind : Limit} {number : ℕ} → IsWithinLimits i input MOST_INPUT_STATES → IsWithinLimits o output MOST_OUTPUT_STATES
        → SheetPasses (symbols_of i o s) s kind number → PassesTripleLimit kind number
    by_calls : IsWithinLimits i input MOST_INPUT_STATES → IsWithinLimits o output MOST_OUTPUT_STATES → IsWithinSheetLimits (symbols_of i o s) s
        → PassCalls s DEEPEST_CALLS → PassesTripleLimit Calls DEEPEST_CALLS
    by_entries : IsWithinLimits i input MOST_INPUT_STATES → IsWithinLimits o output MOST_OUTPUT_STATES → IsWithinSheetLimits (symbols_of i o s) s
        → ¬ (PassCalls s DEEPEST_CALLS) → HasManyEntries → PassesTripleLimit Entries MOST_ENTRIES

  -- there are more rows, or sets of pairs in them, than there may be
  abbrev pub HasManyRows : ℕ → RowCount → Type 0
  HasManyRows most trees = (x : Triple) × IsTripleOf i o s x × Pass (IsRowOfLiveTree x) most
  HasManyRows most hedges = (x : Triple) × IsTripleOf i o s x × Pass (IsRowOfLiveHedge x) most
  HasManyRows most outputs = (x : Triple) × IsTripleOf i o s x × Pass (IsOutput x) MOST_OUTPUTS

  abbrev pub HasFewRows : ℕ → Type 0
  HasFewRows most = (count : RowCount) → ¬ (HasManyRows most count)

  -- there are so many rows of live trees, so many of live lists of trees, and so many sets of pairs in them
  pub record AreRowCounts (tree_rows hedge_rows output_sets : ℕ) : Type 0 where
    pub triple : Triple
    pub of : IsTripleOf i o s triple
    pub trees : Counts (IsRowOfLiveTree triple) tree_rows
    pub hedges : Counts (IsRowOfLiveHedge triple) hedge_rows
    pub outputs : Counts (IsOutput triple) output_sets

  -- a valid document whose result isn't valid
  abbrev pub IsCounter : Trees → Type 0
  IsCounter document = (result : Trees) × IsCounterexample i o s document result

  -- its texts are `t`, and its names those that stand for their symbols
  abbrev pub IsPlain : Trees → Type 0
  IsPlain document = (x : Triple) × IsTripleOf i o s x × ArePlain x document

  -- it has few enough nodes to be shown, and no counterexample has fewer
  pub record HasFewestNodes (document : Trees) : Type 0 where
    pub few : node_count document ≤ MOST_SHOWN_NODES
    pub least : (other : Trees) → IsCounter other → node_count document ≤ node_count other

  -- a counterexample that can be shown, with the fewest nodes of all
  pub record IsLeastCounter (document : Trees) : Type 0 where
    pub counter : IsCounter document
    pub plain : IsPlain document
    pub fewest : HasFewestNodes document

  -- some counterexample can be shown
  abbrev pub HasSmallCounter : Type 0
  HasSmallCounter = (document : Trees) × IsCounter document × (node_count document ≤ MOST_SHOWN_NODES)

  -- there are counterexamples, and all have too many nodes to be shown
  pub record HasLargeCounters : Type 0 where
    pub some : (document : Trees) × IsCounter document
    pub large : (document : Trees) → IsCounter document → MOST_SHOWN_NODES < node_count document

-- the run of the stylesheet on the document passes a limit
abbrev pub IsLargeRun : Sheet → Trees → Type 0
IsLargeRun s document = (o : Outcome) × Transforms s document o × ((MOST_WORK < o.work) ⊎ (MOST_OPEN < o.nesting))
