-- When trees of rows are built.
use Rattle.std.specs.Prelude.{◌<◌, ◌≤◌, ℕ, List}
use Rattle.tc_base.specs.declared.limits.TheConstants.{MOST_SHOWN_NODES}
use Rattle.tc_model.specs.Symbols.{Mention, symbol_count}
use Rattle.tc_settle.specs.declared.closed.Closed.{Closed}
use Rattle.tc_settle.specs.Held.{Held}
use Rattle.tc_settle.specs.Closed.{IsClosure, hedge_cost, tree_cost}

-- the rows are a closure, and each of their symbols has a name
abbrev pub IsBuildable : Held → List Mention → Closed → Type 0
IsBuildable s symbols c = IsClosure s c × (s.symbols ≤ symbol_count symbols)

-- a row, with at most 2,000 nodes
abbrev pub IsNearTree : Held → Closed → ℕ → Type 0
IsNearTree s c t = (t < s.trees) × (tree_cost c t ≤ MOST_SHOWN_NODES)

abbrev pub IsNearHedge : Held → Closed → ℕ → Type 0
IsNearHedge s c h = (h < s.hedges) × (hedge_cost c h ≤ MOST_SHOWN_NODES)
