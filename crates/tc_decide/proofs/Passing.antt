-- What passes a limit isn't within it.
use Rattle.std.proofs.Common.{ℕ, List, arith}
use Rattle.tc_base.specs.declared.Limit.{Limit}
use Rattle.tc_decide.specs.Checking.{IsWithinTripleLimits, PassesTripleLimit, by_input, by_output, by_sheet, by_calls, by_entries}
use Rattle.tc_decide.specs.Limits.{IsWithinLimits, PassesLimit, passes_size, passes_states, IsWithinSheetLimits, SheetPasses, sheet_symbols, sheet_predicates, sheet_ancestors, sheet_selects}
use Rattle.tc_model.specs.Grammars.{Grammar}
use Rattle.tc_model.specs.Sheets.{Sheet}
use Rattle.tc_model.specs.SimplifiesCounts.{IsWithinCounts}
use Rattle.tc_model.specs.States.{Side}
use Rattle.tc_model.specs.Symbols.{Mention}
use Rattle.tc_read.specs.Schemas.{PassesSize, passes_pattern, passes_depth, passes_elements}

pub too_large : {g : Grammar} {kind : Limit} {number : ℕ} → PassesSize g kind number → IsWithinCounts g → ⊥
too_large (passes_pattern p) w = omega (arith, p, w.nodes)
too_large (passes_depth p) w = omega (arith, p.1, w.depth)
too_large (passes_elements p) w = omega (arith, p.2, w.elements)

pub over_schema : {g : Grammar} {side : Side} {most : ℕ} {kind : Limit} {number : ℕ} → PassesLimit g side most kind number → IsWithinLimits g side most → ⊥
over_schema (passes_size p) w = too_large p w.counts
over_schema (passes_states c p) w = omega (arith, p, w.states)

pub over_sheet : {symbols : List Mention} {s : Sheet} {kind : Limit} {number : ℕ} → SheetPasses symbols s kind number → IsWithinSheetLimits symbols s → ⊥
over_sheet (sheet_symbols p) w = omega (arith, p, w.few)
over_sheet (sheet_predicates q p) w = w.numbers.0 p
over_sheet (sheet_ancestors q a p) w = w.numbers.1 p
over_sheet (sheet_selects q a b p) w = w.numbers.2 p

pub over_triple : {i o : Grammar} {s : Sheet} {kind : Limit} {number : ℕ} → PassesTripleLimit i o s kind number → IsWithinTripleLimits i o s → ⊥
over_triple (by_input p) w = over_schema p w.input
over_triple (by_output v p) w = over_schema p w.output
over_triple (by_sheet v x p) w = over_sheet p w.sheet
over_triple (by_calls v x y p) w = w.calls p
over_triple (by_entries v x y n p) w = w.entries p
