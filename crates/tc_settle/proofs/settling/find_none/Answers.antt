use Rattle.std.proofs.Common.{arith}
use Rattle.tc_settle.specs.Closed.{IsCause}
use Rattle.tc_settle.specs.declared.closed.CloseFault.TheVariants.{NoMemory}
use Rattle.tc_settle.proofs.Begun.{kept_nothing, begun_kept, begun_hedges, none_kept}
use Rattle.tc_settle.proofs.Exits.{no_ok, err_is}
use Rattle.tc_settle.proofs.Tried.{all_derive, fault_cause}
use Rattle.tc_settle.proofs.settling.find_none.Goals as goal

pub returns-then-most-eq0-clause-cause : goal.returns-then-most-eq0-clause-cause
returns-then-most-eq0-clause-cause g c =
    let s = g.R.NumberedRows.held c.args.rows.now in
    let r = g.R.NumberedRows.held c.none.new.self in
    let old = c.new-closed.result in
    let n = c.new-closed.ensures in
    let nothing = kept_nothing s old c.requires n.hedges n.hedge_costs n.trees n.tree_costs in
    let e = c.in_ok-_number.ensures in
    let one = begun_hedges s r old c.keep_hedge.new.self e.grows c.requires nothing e.trees c.in_ok-_number._number e.made.0 e.made.1 c.in_ok-keep_hedge.ensures in
    let kept = begun_kept s r old c.keep_hedge.new.self e.grows c.requires nothing e.trees c.in_ok-_number._number e.made.0 e.made.1 c.in_ok-keep_hedge.ensures in
    (omega (arith, one, c.if-most-eq0.true), all_derive r c.keep_hedge.new.self kept)

pub returns-clause-kept : goal.returns-clause-kept
returns-clause-kept g c =
    let s = g.R.NumberedRows.held c.args.rows.now in
    let r = g.R.NumberedRows.held c.none.new.self in
    let old = c.new-closed.result in
    let n = c.new-closed.ensures in
    let nothing = kept_nothing s old c.requires n.hedges n.hedge_costs n.trees n.tree_costs in
    let e = c.in_ok-_number.ensures in
    none_kept s r old c.keep_hedge.new.self e.grows c.requires nothing e.trees c.in_ok-_number._number e.made.0 e.made.1 c.in_ok-keep_hedge.ensures c.args.most (omega (arith, c.if-most-eq0.false))

pub returns-in_err-_number-clause-kept : goal.returns-in_err-_number-clause-kept
returns-in_err-_number-clause-kept g c = no_ok c.from_residual.result _ _ c.from_residual.ensures.1

pub returns-in_err-_number-clause-cause : goal.returns-in_err-_number-clause-cause
returns-in_err-_number-clause-cause g c =
    let s = g.R.NumberedRows.held c.args.rows.now in
    let r = g.R.NumberedRows.held c.none.new.self in
    let old = c.new-closed.result in
    let n = c.new-closed.ensures in
    let nothing = kept_nothing s old c.requires n.hedges n.hedge_costs n.trees n.tree_costs in
    let e = c.in_err-_number.ensures in
    let full = g.R.NumberedRows.is_full c.none.new.self in
    err_is c.from_residual.result _ (IsCause full c.args.most r) c.from_residual.ensures.1 (fault_cause full c.args.most s r old c.in_err-_number.field-0.0 nothing e.grows e.fault e.full)

pub returns-in_err-keep_hedge-clause-kept : goal.returns-in_err-keep_hedge-clause-kept
returns-in_err-keep_hedge-clause-kept g c = no_ok c.from_residual-in_err-keep_hedge.result _ _ c.from_residual-in_err-keep_hedge.ensures.1

pub returns-in_err-keep_hedge-clause-cause : goal.returns-in_err-keep_hedge-clause-cause
returns-in_err-keep_hedge-clause-cause g c =
    let rows = c.none.new.self in
    err_is c.from_residual-in_err-keep_hedge.result NoMemory (IsCause (g.R.NumberedRows.is_full rows) c.args.most (g.R.NumberedRows.held rows)) c.from_residual-in_err-keep_hedge.ensures.1 tt

pub returns-then-most-eq0-clause-kept : goal.returns-then-most-eq0-clause-kept
returns-then-most-eq0-clause-kept g c = tt

pub returns-clause-cause : goal.returns-clause-cause
returns-clause-cause g c = tt
