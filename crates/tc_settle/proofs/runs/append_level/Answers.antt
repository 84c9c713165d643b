use Rattle.std.proofs.Common.{◌≡◌, ◌<◌, ◌+◌, ◌-◌, ◌∙◌, inl, refl, arith}
use Rattle.std.proofs.lemmas.List.{get_or_read}
use Rattle.tc_settle.specs.Closed.{hedge_cost, IsCause}
use Rattle.tc_settle.proofs.Exits.{no_ok, err_is}
use Rattle.tc_settle.proofs.Going.{steps_nothing, steps_twice}
use Rattle.tc_settle.proofs.AtOneCost.{next_sums}
use Rattle.tc_settle.proofs.runs.append_level.Goals as goal

pub loop-hedge-preserved : goal.loop-hedge-preserved
loop-hedge-preserved g c =
    let s = g.R.NumberedRows.held c.args.rows.now in
    let v = c.loop-hedge.invariant in
    let level = c.requires.level in
    let low : c.loop-hedge.hedge < s.hedges = omega (arith, level.within, c.loop-hedge-test.true) in
    let x : c.index.result.now ≡ hedge_cost c.loop-hedge.closed c.loop-hedge.hedge = get_or_read c.loop-hedge.closed.hedge_costs.items _ _ (omega (arith, low, v.steps.goes.grows.hedges, v.steps.at.kept.hedge_count)) c.index.ensures 0 in
    let less : c.index.result.now < c.args.cost = omega (arith, x, v.steps.goes.hedge_costs c.loop-hedge.hedge low, level.lower c.loop-hedge.hedge c.loop-hedge-test.true) in
    let r = g.R.NumberedRows.held c.loop-hedge.rows in
    let q = g.R.NumberedRows.held c.append_trees.new.rows in
    let e = c.in_ok-append_trees.ensures.tried in
    record {
      steps = steps_twice c.args.most c.args.cost s r q c.args.closed.now c.loop-hedge.closed c.append_trees.new.closed v.steps e.steps;
      trees = e.trees ∙ v.trees;
      done = next_sums c.args.cost s r q c.args.closed.now c.loop-hedge.closed c.append_trees.new.closed v.steps.goes e.steps.goes v.trees e.trees c.args.starts.now level.begun
          c.loop-hedge.hedge c.index.result.now low x less level.count v.done e.done;
    }

pub loop-hedge-init : goal.loop-hedge-init
loop-hedge-init g c = record {
  steps = steps_nothing c.args.most c.args.cost (g.R.NumberedRows.held c.args.rows.now) c.args.closed.now c.requires.at;
  trees = refl;
  done = λ h t low _ _. absurd (omega (arith, low));
}

pub index-requires : goal.index-requires
index-requires g c = omega (arith, c.requires.level.within, c.loop-hedge-test.true, c.loop-hedge.invariant.steps.goes.grows.hedges, c.loop-hedge.invariant.steps.at.kept.hedge_count)

pub overflow_sub-left : goal.overflow_sub-left
overflow_sub-left g c =
    let s = g.R.NumberedRows.held c.args.rows.now in
    let v = c.loop-hedge.invariant in
    let level = c.requires.level in
    let low : c.loop-hedge.hedge < s.hedges = omega (arith, level.within, c.loop-hedge-test.true) in
    let x : c.index.result.now ≡ hedge_cost c.loop-hedge.closed c.loop-hedge.hedge = get_or_read c.loop-hedge.closed.hedge_costs.items _ _ (omega (arith, low, v.steps.goes.grows.hedges, v.steps.at.kept.hedge_count)) c.index.ensures 0 in
    let less : c.index.result.now < c.args.cost = omega (arith, x, v.steps.goes.hedge_costs c.loop-hedge.hedge low, level.lower c.loop-hedge.hedge c.loop-hedge-test.true) in
    omega (arith, less)

pub bounds-starts-left : goal.bounds-starts-left
bounds-starts-left g c = omega (arith, c.requires.level.count)

pub bounds-starts-left-in-loop-hedge : goal.bounds-starts-left-in-loop-hedge
bounds-starts-left-in-loop-hedge g c =
    let s = g.R.NumberedRows.held c.args.rows.now in
    let v = c.loop-hedge.invariant in
    let level = c.requires.level in
    let low : c.loop-hedge.hedge < s.hedges = omega (arith, level.within, c.loop-hedge-test.true) in
    let x : c.index.result.now ≡ hedge_cost c.loop-hedge.closed c.loop-hedge.hedge = get_or_read c.loop-hedge.closed.hedge_costs.items _ _ (omega (arith, low, v.steps.goes.grows.hedges, v.steps.at.kept.hedge_count)) c.index.ensures 0 in
    let less : c.index.result.now < c.args.cost = omega (arith, x, v.steps.goes.hedge_costs c.loop-hedge.hedge low, level.lower c.loop-hedge.hedge c.loop-hedge-test.true) in
    omega (arith, less, level.count)

pub append_trees-requires-clause-at : goal.append_trees-requires-clause-at
append_trees-requires-clause-at g c = c.loop-hedge.invariant.steps.at

pub append_trees-requires-clause-costs : goal.append_trees-requires-clause-costs
append_trees-requires-clause-costs g c =
    let s = g.R.NumberedRows.held c.args.rows.now in
    let v = c.loop-hedge.invariant in
    let level = c.requires.level in
    let low : c.loop-hedge.hedge < s.hedges = omega (arith, level.within, c.loop-hedge-test.true) in
    let x : c.index.result.now ≡ hedge_cost c.loop-hedge.closed c.loop-hedge.hedge = get_or_read c.loop-hedge.closed.hedge_costs.items _ _ (omega (arith, low, v.steps.goes.grows.hedges, v.steps.at.kept.hedge_count)) c.index.ensures 0 in
    let less : c.index.result.now < c.args.cost = omega (arith, x, v.steps.goes.hedge_costs c.loop-hedge.hedge low, level.lower c.loop-hedge.hedge c.loop-hedge-test.true) in
    let first = level.begun (c.args.cost - c.index.result.now) (omega (arith, level.count)) in
    let next = level.begun (c.args.cost - c.index.result.now + 1) (omega (arith, less, level.count)) in
    λ t from to.
    let inside : t < s.trees = omega (arith, to, next.0) in
    let same = v.steps.goes.tree_costs t inside in
    let least = first.1 t inside from in
    let most = next.2 t inside to in
    record {
      hedge = omega (arith, low, v.steps.goes.grows.hedges);
      tree = omega (arith, inside, v.trees);
      sum = inl (omega (arith, x, less, same, least, most, level.near), omega (arith, x, less, same, least, most));
    }

pub returns-in_err-append_trees-clause-tried : goal.returns-in_err-append_trees-clause-tried
returns-in_err-append_trees-clause-tried g c = no_ok c.from_residual.result _ _ c.from_residual.ensures.1

pub returns-in_err-append_trees-clause-cause : goal.returns-in_err-append_trees-clause-cause
returns-in_err-append_trees-clause-cause g c =
    let rows = c.append_trees.new.rows in
    err_is c.from_residual.result _ (IsCause (g.R.NumberedRows.is_full rows) c.args.most (g.R.NumberedRows.held rows)) c.from_residual.ensures.1 c.in_err-append_trees.ensures.cause

pub returns-clause-tried : goal.returns-clause-tried
returns-clause-tried g c =
    let v = c.loop-hedge.invariant in
    record { steps = v.steps; trees = v.trees; done = λ h t low last sum. v.done h t (omega (arith, low, c.loop-hedge-test.false)) last sum }

pub returns-clause-cause : goal.returns-clause-cause
returns-clause-cause g c = tt
