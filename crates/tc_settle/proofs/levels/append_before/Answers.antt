use Rattle.std.proofs.Common.{◌≡◌, ◌∙◌, refl, subst, arith}
use Rattle.tc_settle.specs.Closed.{IsCause}
use Rattle.tc_settle.specs.Settled.{AreRangesDone}
use Rattle.tc_settle.proofs.Exits.{no_ok, err_is}
use Rattle.tc_settle.proofs.Going.{append_costs_stay, steps_nothing, steps_twice}
use Rattle.tc_settle.proofs.Far.{next_ranges}
use Rattle.tc_settle.proofs.levels.append_before.Goals as goal

pub loop-earlier-init : goal.loop-earlier-init
loop-earlier-init g c = record {
  steps = steps_nothing c.args.most 2001 (g.R.NumberedRows.held c.args.rows.now) c.args.closed.now c.requires.at;
  trees = refl;
  done = λ h t low _ _. absurd (omega (arith, low));
}

pub loop-earlier-preserved : goal.loop-earlier-preserved
loop-earlier-preserved g c =
    let s = g.R.NumberedRows.held c.args.rows.now in
    let r = g.R.NumberedRows.held c.loop-earlier.rows in
    let q = g.R.NumberedRows.held c.append_trees.new.rows in
    let v = c.loop-earlier.invariant in
    let e = c.in_ok-append_trees.ensures.tried in
    record {
      steps = steps_twice c.args.most 2001 s r q c.args.closed.now c.loop-earlier.closed c.append_trees.new.closed v.steps e.steps;
      trees = e.trees ∙ v.trees;
      done = next_ranges 2001 r q c.loop-earlier.closed c.append_trees.new.closed c.loop-earlier.earlier c.args.from c.args.to e.steps.goes
          (λ t from to. let costs = c.requires.costs c.loop-earlier.earlier t c.loop-earlier-test.true from to in (omega (arith, costs.hedge, v.steps.goes.grows.hedges), omega (arith, costs.tree, v.trees))) v.done e.done;
    }

pub returns-in_err-append_trees-clause-tried : goal.returns-in_err-append_trees-clause-tried
returns-in_err-append_trees-clause-tried g c = no_ok c.from_residual.result _ _ c.from_residual.ensures.1

pub returns-in_err-append_trees-clause-cause : goal.returns-in_err-append_trees-clause-cause
returns-in_err-append_trees-clause-cause g c =
    let rows = c.append_trees.new.rows in
    err_is c.from_residual.result _ (IsCause (g.R.NumberedRows.is_full rows) c.args.most (g.R.NumberedRows.held rows)) c.from_residual.ensures.1 c.in_err-append_trees.ensures.cause

pub append_trees-requires-clause-at : goal.append_trees-requires-clause-at
append_trees-requires-clause-at g c = c.loop-earlier.invariant.steps.at

pub append_trees-requires-clause-costs : goal.append_trees-requires-clause-costs
append_trees-requires-clause-costs g c = λ t from to.
    append_costs_stay 2001 (g.R.NumberedRows.held c.args.rows.now) (g.R.NumberedRows.held c.loop-earlier.rows) c.args.closed.now c.loop-earlier.closed c.loop-earlier.invariant.steps.goes c.loop-earlier.earlier t 2001
    (c.requires.costs c.loop-earlier.earlier t c.loop-earlier-test.true from to)

pub returns-clause-tried : goal.returns-clause-tried
returns-clause-tried g c =
    let v = c.loop-earlier.invariant in
    let all : c.loop-earlier.earlier ≡ c.args.hedge = omega arith in
    record { steps = v.steps; trees = v.trees; done = subst (λ k. AreRangesDone (g.R.NumberedRows.held c.loop-earlier.rows) c.loop-earlier.closed k c.args.from c.args.to) all v.done }

pub returns-clause-cause : goal.returns-clause-cause
returns-clause-cause g c = tt
