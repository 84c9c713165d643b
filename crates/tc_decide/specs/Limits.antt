-- The limits on the counts of a schema, and of a stylesheet and its runs, in the order in which they are tried.
use Rattle.std.specs.Prelude.{◌<◌, ◌≤◌, ℕ, List, flat_map}
use Rattle.tc_base.specs.declared.Limit.{Limit}
use Rattle.tc_base.specs.declared.Limit.TheVariants.{States, Symbols, Predicates, Ancestors, Selects}
use Rattle.tc_base.specs.declared.limits.TheConstants.{MOST_INPUT_STATES, MOST_SYMBOLS, MOST_PREDICATES, MOST_ANCESTORS, MOST_SELECTS}
use Rattle.tc_model.specs.Grammars.{Grammar}
use Rattle.tc_model.specs.Sheets.{Sheet}
use Rattle.tc_model.specs.SimplifiesCounts.{IsWithinCounts}
use Rattle.tc_model.specs.SchemaStates.{states_of_input, states_of_output}
use Rattle.tc_model.specs.States.{Side, input, output}
use Rattle.tc_model.specs.Symbols.{Mention, mention_cmp, in_order, with_namespace, mentions_in_grammar, mentions_in_sheet, symbol_count}
use Rattle.tc_model.specs.Trees.{Trees}
use Rattle.tc_model.specs.StateCounts.{PassNone, PassPredicates, PassAncestors, PassSelects}
use Rattle.tc_read.specs.Schemas.{PassesSize}
use Rattle.tc_run.specs.Limits.{KeepsLimits}

-- the symbols of what is mentioned, but for the last, which is that of all other names
abbrev pub symbols_of_mentions : List Mention → List Mention
symbols_of_mentions mentions = in_order mention_cmp (flat_map with_namespace mentions)

abbrev pub symbols_of_schema : Grammar → List Mention
symbols_of_schema g = symbols_of_mentions (mentions_in_grammar g)

abbrev pub symbols_of_sheet : Sheet → List Mention
symbols_of_sheet s = symbols_of_mentions (mentions_in_sheet s)

abbrev pub AreFew : List Mention → Type 0
AreFew symbols = symbol_count symbols ≤ MOST_SYMBOLS

-- how many states the schema has on this side
abbrev pub states_on : Grammar → Side → ℕ
states_on g input = states_of_input g
states_on g output = states_of_output g

-- the schema passes none of its own limits: on its size, and on its states on this side, of which there may be so many
pub record IsWithinLimits (g : Grammar) (side : Side) (most : ℕ) : Type 0 where
  pub counts : IsWithinCounts g
  pub states : states_on g side ≤ most

-- the first of its own limits that the schema passes, and its number
pub data PassesLimit (g : Grammar) (side : Side) (most : ℕ) : Limit → ℕ → Type 0 where
  passes_size : {kind : Limit} {number : ℕ} → PassesSize g kind number → PassesLimit g side most kind number
  passes_states : IsWithinCounts g → most < states_on g side → PassesLimit g side most States most

-- the schema passes none of the limits of `valid`
pub record IsValidityWithin (g : Grammar) : Type 0 where
  pub schema : IsWithinLimits g input MOST_INPUT_STATES
  pub symbols : AreFew (symbols_of_schema g)

-- by these symbols the stylesheet passes none of the limits that are tried before a run
pub record IsWithinSheetLimits (symbols : List Mention) (s : Sheet) : Type 0 where
  pub few : AreFew symbols
  pub numbers : PassNone symbols s

-- the first limit that the stylesheet passes by these symbols, and its number
pub data SheetPasses (symbols : List Mention) (s : Sheet) : Limit → ℕ → Type 0 where
  sheet_symbols : MOST_SYMBOLS < symbol_count symbols → SheetPasses symbols s Symbols MOST_SYMBOLS
  sheet_predicates : AreFew symbols → PassPredicates symbols s → SheetPasses symbols s Predicates MOST_PREDICATES
  sheet_ancestors : AreFew symbols → ¬ (PassPredicates symbols s) → PassAncestors symbols s → SheetPasses symbols s Ancestors MOST_ANCESTORS
  sheet_selects : AreFew symbols → ¬ (PassPredicates symbols s) → ¬ (PassAncestors symbols s) → PassSelects symbols s → SheetPasses symbols s Selects MOST_SELECTS

-- neither the stylesheet nor its run on a document passes a limit
pub record IsRunWithin (s : Sheet) (doc : Trees) : Type 0 where
  pub sheet : IsWithinSheetLimits (symbols_of_sheet s) s
  pub keeps : KeepsLimits s doc
