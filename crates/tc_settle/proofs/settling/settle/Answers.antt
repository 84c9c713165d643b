use Rattle.std.proofs.Common.{◌≡◌, List, ℕ, sym, subst, arith}
use Rattle.tc_settle.specs.Closed.{IsCause}
use Rattle.tc_settle.specs.Settled.{IsReady, IsFar, IsWhole}
use Rattle.tc_settle.specs.declared.closed.CloseFault.TheVariants.{NoMemory}
use Rattle.tc_settle.proofs.Begun.{begun_ready}
use Rattle.tc_settle.proofs.Exits.{no_ok, err_is}
use Rattle.tc_settle.proofs.Whole.{ready_whole, ready_far}
use Rattle.tc_settle.proofs.settling.settle.Goals as goal

-- no memory, or a cause that was told
pub returns-in_err-starts-clause-whole : goal.returns-in_err-starts-clause-whole
returns-in_err-starts-clause-whole g c = no_ok c.from_residual.result _ (λ d. IsWhole c.args.most (g.R.NumberedRows.held c.args.rows.now) c.args.closed.now) c.from_residual.ensures.1

pub returns-in_err-starts-clause-cause : goal.returns-in_err-starts-clause-cause
returns-in_err-starts-clause-cause g c =
    let rows = c.args.rows.now in
    err_is c.from_residual.result NoMemory (IsCause (g.R.NumberedRows.is_full rows) c.args.most (g.R.NumberedRows.held rows)) c.from_residual.ensures.1 tt

pub returns-in_err-wrapped-clause-whole : goal.returns-in_err-wrapped-clause-whole
returns-in_err-wrapped-clause-whole g c = no_ok c.from_residual-in_err-wrapped.result _ (λ d. IsWhole c.args.most (g.R.NumberedRows.held c.level.new.rows) c.level.new.closed) c.from_residual-in_err-wrapped.ensures.1

pub returns-in_err-wrapped-clause-cause : goal.returns-in_err-wrapped-clause-cause
returns-in_err-wrapped-clause-cause g c =
    let rows = c.level.new.rows in
    err_is c.from_residual-in_err-wrapped.result _ (IsCause (g.R.NumberedRows.is_full rows) c.args.most (g.R.NumberedRows.held rows)) c.from_residual-in_err-wrapped.ensures.1 c.in_err-wrapped.ensures.cause

-- cost by cost
pub loop-cost-init : goal.loop-cost-init
loop-cost-init g c = begun_ready c.args.most (g.R.NumberedRows.held c.args.rows.now) c.args.closed.now c.in_ok-starts.starts.items c.requires c.in_ok-starts.ensures

pub level-requires-clause-ready : goal.level-requires-clause-ready
level-requires-clause-ready g c = c.loop-cost.invariant

pub reach-requires-clause-hedges : goal.reach-requires-clause-hedges
reach-requires-clause-hedges g c =
    let ready = c.in_ok-wrapped.ensures.ready in
    (λ i j l low. ready.kept.hedges_in_order i j l (omega (arith, low, ready.kept.hedge_count)), λ u low. omega (arith, ready.hedges u (omega (arith, low, ready.kept.hedge_count)), c.loop-cost-test.true))

pub reach-requires-clause-trees : goal.reach-requires-clause-trees
reach-requires-clause-trees g c =
    let ready = c.in_ok-wrapped.ensures.ready in
    (λ i j l low. ready.kept.trees_in_order i j l (omega (arith, low, ready.kept.tree_count)), λ u low. omega (arith, (ready.trees u (omega (arith, low, ready.kept.tree_count))).1, c.loop-cost-test.true))

pub returns-then-reach-cost-clause-whole : goal.returns-then-reach-cost-clause-whole
returns-then-reach-cost-clause-whole g c =
    let ready = c.in_ok-wrapped.ensures.ready in
    ready_whole c.args.most c.loop-cost.cost c.in_ok-wrapped.wrapped c.reach.result (g.R.NumberedRows.held c.level.new.rows) c.level.new.closed c.level.new.starts.items ready
    (λ h low. c.reach.ensures.wraps h (omega (arith, low, ready.kept.hedge_count)))
    (λ h t low last. c.reach.ensures.appends h t (omega (arith, low, ready.kept.hedge_count)) (omega (arith, last, ready.kept.tree_count))) c.if-reach-cost.true

pub loop-cost-preserved : goal.loop-cost-preserved
loop-cost-preserved g c = c.in_ok-wrapped.ensures.ready

-- costs past 2,000
pub all_far-requires : goal.all_far-requires
all_far-requires g c =
    let s = g.R.NumberedRows.held c.loop-cost.rows in
    let all : c.loop-cost.cost ≡ 2001 = omega arith in
    let ready = subst (λ k. IsReady c.args.most k s c.loop-cost.closed c.loop-cost.starts.items c.loop-cost.wrapped) all c.loop-cost.invariant in
    subst (λ (ns : List ℕ). IsFar c.args.most s c.loop-cost.closed ns 0) (sym c.as_slice.ensures.value) (ready_far c.args.most c.loop-cost.wrapped s c.loop-cost.closed c.loop-cost.starts.items ready)

pub returns-clause-whole : goal.returns-clause-whole
returns-clause-whole g c = c.all_far.ensures.whole

pub returns-clause-cause : goal.returns-clause-cause
returns-clause-cause g c = c.all_far.ensures.cause
