use Rattle.std.proofs.Common.{◌≡◌, inr, refl, arith}
use Rattle.std.proofs.lemmas.List.{get_or_read}
use Rattle.tc_settle.specs.Closed.{hedge_cost}
use Rattle.tc_settle.proofs.Going.{steps_nothing}
use Rattle.tc_settle.proofs.levels.wrap_far.Goals as goal

pub returns-then-index-lt-FAR-clause-tried : goal.returns-then-index-lt-FAR-clause-tried
returns-then-index-lt-FAR-clause-tried g c =
    let d = c.args.closed.now in
    let (low, below) = c.requires.near in
    let x : c.index.result.now ≡ hedge_cost d c.args.hedge = get_or_read d.hedge_costs.items _ _ (omega (arith, low, c.requires.at.kept.hedge_count)) c.index.ensures 0 in
    record {
      steps = steps_nothing c.args.most 2001 (g.R.NumberedRows.held c.args.rows.now) c.args.closed.now c.requires.at;
      hedges = refl;
      done = below.wraps c.args.hedge low (omega (arith, x, c.if-index-lt-FAR.true));
    }

pub returns-then-index-lt-FAR-clause-cause : goal.returns-then-index-lt-FAR-clause-cause
returns-then-index-lt-FAR-clause-cause g c = tt

pub wrap_symbols-requires-clause-at : goal.wrap_symbols-requires-clause-at
wrap_symbols-requires-clause-at g c = c.requires.at

pub wrap_symbols-requires-clause-costs : goal.wrap_symbols-requires-clause-costs
wrap_symbols-requires-clause-costs g c =
    let d = c.args.closed.now in
    let low = c.requires.near.0 in
    let x : c.index.result.now ≡ hedge_cost d c.args.hedge = get_or_read d.hedge_costs.items _ _ (omega (arith, low, c.requires.at.kept.hedge_count)) c.index.ensures 0 in
    record { hedge = low; sum = inr (omega (arith, x, c.if-index-lt-FAR.false), refl) }

pub returns-clause-tried : goal.returns-clause-tried
returns-clause-tried g c = c.wrap_symbols.ensures.tried

pub returns-clause-cause : goal.returns-clause-cause
returns-clause-cause g c = c.wrap_symbols.ensures.cause

pub index-requires : goal.index-requires
index-requires g c = omega (arith, c.requires.near.0, c.requires.at.kept.hedge_count)

pub overflow_add-index : goal.overflow_add-index
overflow_add-index g c =
    let d = c.args.closed.now in
    let low = c.requires.near.0 in
    let x : c.index.result.now ≡ hedge_cost d c.args.hedge = get_or_read d.hedge_costs.items _ _ (omega (arith, low, c.requires.at.kept.hedge_count)) c.index.ensures 0 in
    omega (arith, x, c.requires.at.up_to.hedges c.args.hedge low)
