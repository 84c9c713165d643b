use Rattle.std.proofs.Common.{◌≡◌, arith}
use Rattle.tc_settle.specs.Closed.{IsCause}
use Rattle.tc_settle.specs.declared.closed.CloseFault.TheVariants.{NoMemory}
use Rattle.tc_settle.proofs.Exits.{no_ok, err_is}
use Rattle.tc_settle.proofs.Tried.{fault_cause, wrap_dead, wrap_known, wrap_new, wrap_too_many}
use Rattle.tc_settle.proofs.trying.try_wrap.Goals as goal

pub wrap-requires-clause-symbol : goal.wrap-requires-clause-symbol
wrap-requires-clause-symbol g c = c.requires.costs.0

pub wrap-requires-clause-hedge : goal.wrap-requires-clause-hedge
wrap-requires-clause-hedge g c = c.requires.costs.1.hedge

pub wrap-requires-clause-room : goal.wrap-requires-clause-room
wrap-requires-clause-room g c = let few = c.requires.at.few in omega (arith, few.trees, few.limit)

pub returns-in_err-number-clause-tried : goal.returns-in_err-number-clause-tried
returns-in_err-number-clause-tried g c = no_ok c.from_residual.result _ _ c.from_residual.ensures.1

pub returns-in_err-number-clause-cause : goal.returns-in_err-number-clause-cause
returns-in_err-number-clause-cause g c =
    let e = c.in_err-number.ensures in
    let cause = fault_cause (g.R.NumberedRows.is_full c.wrap.new.self) c.args.most (g.R.NumberedRows.held c.args.rows.now) (g.R.NumberedRows.held c.wrap.new.self) c.args.closed.now c.in_err-number.field-0.0 c.requires.at.kept e.grows e.fault e.full in
    err_is c.from_residual.result _ (IsCause (g.R.NumberedRows.is_full c.wrap.new.self) c.args.most (g.R.NumberedRows.held c.wrap.new.self)) c.from_residual.ensures.1 cause

pub returns-in_default-clause-tried : goal.returns-in_default-clause-tried
returns-in_default-clause-tried g c = wrap_dead (g.R.NumberedRows.held c.args.rows.now) (g.R.NumberedRows.held c.wrap.new.self) c.args.closed.now c.args.most c.args.cost c.in_ok-number.ensures.grows c.requires.at c.args.symbol c.args.hedge c.requires.costs.0 c.requires.costs.1 c.in_ok-number.ensures.hedges c.in_ok-number.field-0 c.in_ok-number.ensures.made c.in_default.is

pub returns-in_default-clause-cause : goal.returns-in_default-clause-cause
returns-in_default-clause-cause g c = tt

pub returns-in_err-keep_tree-clause-tried : goal.returns-in_err-keep_tree-clause-tried
returns-in_err-keep_tree-clause-tried g c = no_ok c.from_residual-in_err-keep_tree.result _ _ c.from_residual-in_err-keep_tree.ensures.1

pub returns-in_err-keep_tree-clause-cause : goal.returns-in_err-keep_tree-clause-cause
returns-in_err-keep_tree-clause-cause g c = err_is c.from_residual-in_err-keep_tree.result NoMemory (IsCause (g.R.NumberedRows.is_full c.wrap.new.self) c.args.most (g.R.NumberedRows.held c.wrap.new.self)) c.from_residual-in_err-keep_tree.ensures.1 tt

pub returns-then-number-most-clause-tried : goal.returns-then-number-most-clause-tried
returns-then-number-most-clause-tried g c = tt

pub returns-then-number-most-clause-cause : goal.returns-then-number-most-clause-cause
returns-then-number-most-clause-cause g c =
    let last : c.in-Some.number ≡ (g.R.NumberedRows.held c.args.rows.now).trees = omega (arith, c.if-number-len.true, c.len.ensures, c.requires.at.kept.tree_count) in
    wrap_too_many (g.R.NumberedRows.held c.args.rows.now) (g.R.NumberedRows.held c.wrap.new.self) c.args.closed.now c.args.most c.args.cost c.in_ok-number.ensures.grows c.requires.at c.args.symbol c.args.hedge c.requires.costs.0 c.requires.costs.1 c.in_ok-number.ensures.hedges c.in_ok-number.field-0 c.in_ok-number.ensures.made c.in-Some.number c.in-Some.is last c.keep_tree.new.self c.in_ok-keep_tree.ensures c.if-number-most.true

pub returns-else-number-most-clause-tried : goal.returns-else-number-most-clause-tried
returns-else-number-most-clause-tried g c =
    let last : c.in-Some.number ≡ (g.R.NumberedRows.held c.args.rows.now).trees = omega (arith, c.if-number-len.true, c.len.ensures, c.requires.at.kept.tree_count) in
    wrap_new (g.R.NumberedRows.held c.args.rows.now) (g.R.NumberedRows.held c.wrap.new.self) c.args.closed.now c.args.most c.args.cost c.in_ok-number.ensures.grows c.requires.at c.args.symbol c.args.hedge c.requires.costs.0 c.requires.costs.1 c.in_ok-number.ensures.hedges c.in_ok-number.field-0 c.in_ok-number.ensures.made c.in-Some.number c.in-Some.is last c.keep_tree.new.self c.in_ok-keep_tree.ensures (omega (arith, c.if-number-most.false))

pub returns-else-number-most-clause-cause : goal.returns-else-number-most-clause-cause
returns-else-number-most-clause-cause g c = tt

pub returns-else-number-len-clause-tried : goal.returns-else-number-len-clause-tried
returns-else-number-len-clause-tried g c =
    wrap_known (g.R.NumberedRows.held c.args.rows.now) (g.R.NumberedRows.held c.wrap.new.self) c.args.closed.now c.args.most c.args.cost c.in_ok-number.ensures.grows c.requires.at c.args.symbol c.args.hedge c.requires.costs.0 c.requires.costs.1 c.in_ok-number.ensures.hedges c.in_ok-number.field-0 c.in_ok-number.ensures.made c.in-Some.number c.in-Some.is (λ last. c.if-number-len.false (omega (arith, last, c.len.ensures, c.requires.at.kept.tree_count)))

pub returns-else-number-len-clause-cause : goal.returns-else-number-len-clause-cause
returns-else-number-len-clause-cause g c = tt
