use Rattle.std.proofs.Common.{◌≡◌, ◌<◌, ◌-◌, ◌∙◌, inr, refl, subst, arith}
use Rattle.std.proofs.lemmas.List.{get_or_read}
use Rattle.tc_settle.specs.Closed.{hedge_cost, IsCause}
use Rattle.tc_settle.specs.Settled.{AreRangesDone}
use Rattle.tc_settle.proofs.Exits.{no_ok, err_is}
use Rattle.tc_settle.proofs.Far.{far_next}
use Rattle.tc_settle.proofs.Going.{goes_on, starts_stay}
use Rattle.tc_settle.proofs.levels.far_hedge.Goals as goal

pub returns-clause-far : goal.returns-clause-far
returns-clause-far g c =
    let s = g.R.NumberedRows.held c.args.rows.now in
    let r = g.R.NumberedRows.held c.wrap_far.new.rows in
    let q = g.R.NumberedRows.held c.append_before.new.rows in
    let p = g.R.NumberedRows.held c.append_trees.new.rows in
    let d = c.wrap_far.new.closed in
    let e = c.append_before.new.closed in
    let f = c.append_trees.new.closed in
    let first = c.in_ok-wrap_far.ensures.tried in
    let second = c.in_ok-append_before.ensures.tried in
    let third = c.in_ok-append_trees.ensures.tried in
    let known : c.tree_count-known.result ≡ s.trees = c.tree_count-known.ensures ∙ c.requires.far.kept.tree_count in
    let trees : c.tree_count-trees.result ≡ r.trees = c.tree_count-trees.ensures ∙ first.steps.at.kept.tree_count in
    let ranges : AreRangesDone q e c.args.hedge s.trees r.trees = subst (λ k. AreRangesDone q e c.args.hedge k r.trees) known (subst (AreRangesDone q e c.args.hedge c.tree_count-known.result) trees second.done) in
    let x : c.index.result.now ≡ hedge_cost e c.args.hedge = get_or_read e.hedge_costs.items _ _ (omega (arith, c.requires.hedge, first.steps.goes.grows.hedges, second.steps.goes.grows.hedges, second.steps.at.kept.hedge_count)) c.index.ensures 0 in
    far_next c.args.most c.args.hedge c.index.result.now s r q p c.args.closed.now d e f c.args.starts.now c.requires.far c.requires.hedge first.steps first.hedges first.done second.steps second.trees ranges x third.steps third.trees
    (λ t from low. third.done t from (omega (arith, low, trees)))

pub tree_count-known-requires : goal.tree_count-known-requires
tree_count-known-requires g c = omega (arith, c.requires.far.kept.tree_count, c.requires.far.few.trees, c.requires.far.few.limit)

pub wrap_far-requires-clause-near : goal.wrap_far-requires-clause-near
wrap_far-requires-clause-near g c = (c.requires.hedge, c.requires.far.done)

pub returns-in_err-wrap_far-clause-far : goal.returns-in_err-wrap_far-clause-far
returns-in_err-wrap_far-clause-far g c = no_ok c.from_residual.result _ _ c.from_residual.ensures.1

pub returns-in_err-wrap_far-clause-cause : goal.returns-in_err-wrap_far-clause-cause
returns-in_err-wrap_far-clause-cause g c =
    let rows = c.wrap_far.new.rows in
    err_is c.from_residual.result _ (IsCause (g.R.NumberedRows.is_full rows) c.args.most (g.R.NumberedRows.held rows)) c.from_residual.ensures.1 c.in_err-wrap_far.ensures.cause

pub tree_count-trees-requires : goal.tree_count-trees-requires
tree_count-trees-requires g c = let steps = c.in_ok-wrap_far.ensures.tried.steps in omega (arith, steps.at.kept.tree_count, steps.at.few.trees, steps.at.few.limit)

pub append_before-requires-clause-at : goal.append_before-requires-clause-at
append_before-requires-clause-at g c = c.in_ok-wrap_far.ensures.tried.steps.at

pub append_before-requires-clause-costs : goal.append_before-requires-clause-costs
append_before-requires-clause-costs g c =
    let first = c.in_ok-wrap_far.ensures.tried in
    λ h t before from low.
    let within : t < (g.R.NumberedRows.held c.wrap_far.new.rows).trees = omega (arith, low, c.tree_count-trees.ensures, first.steps.at.kept.tree_count) in
    let far = first.steps.goes.new_trees t (omega (arith, from, c.tree_count-known.ensures, c.requires.far.kept.tree_count)) within in
    record { hedge = omega (arith, before, c.requires.hedge, first.hedges); tree = within; sum = inr (omega (arith, far), refl) }

pub returns-in_err-append_before-clause-far : goal.returns-in_err-append_before-clause-far
returns-in_err-append_before-clause-far g c = no_ok c.from_residual-in_err-append_before.result _ _ c.from_residual-in_err-append_before.ensures.1

pub returns-in_err-append_before-clause-cause : goal.returns-in_err-append_before-clause-cause
returns-in_err-append_before-clause-cause g c =
    let rows = c.append_before.new.rows in
    err_is c.from_residual-in_err-append_before.result _ (IsCause (g.R.NumberedRows.is_full rows) c.args.most (g.R.NumberedRows.held rows)) c.from_residual-in_err-append_before.ensures.1 c.in_err-append_before.ensures.cause

pub append_trees-requires-clause-at : goal.append_trees-requires-clause-at
append_trees-requires-clause-at g c = c.in_ok-append_before.ensures.tried.steps.at

pub append_trees-requires-clause-costs : goal.append_trees-requires-clause-costs
append_trees-requires-clause-costs g c =
    let s = g.R.NumberedRows.held c.args.rows.now in
    let r = g.R.NumberedRows.held c.wrap_far.new.rows in
    let q = g.R.NumberedRows.held c.append_before.new.rows in
    let d = c.wrap_far.new.closed in
    let e = c.append_before.new.closed in
    let first = c.in_ok-wrap_far.ensures.tried in
    let second = c.in_ok-append_before.ensures.tried in
    let far = c.requires.far in
    let x : c.index.result.now ≡ hedge_cost e c.args.hedge = get_or_read e.hedge_costs.items _ _ (omega (arith, c.requires.hedge, first.steps.goes.grows.hedges, second.steps.goes.grows.hedges, second.steps.at.kept.hedge_count)) c.index.ensures 0 in
    let there = starts_stay 2001 s q c.args.closed.now e (goes_on 2001 s r c.args.closed.now d first.steps.goes q e second.steps.goes) c.args.starts.now (inr (omega (arith, far.count))) far.begun in
    λ t from low.
    let within : t < q.trees = omega (arith, low, c.tree_count-trees.ensures, first.steps.at.kept.tree_count, second.trees) in
    record {
      hedge = omega (arith, c.requires.hedge, first.hedges, second.steps.goes.grows.hedges);
      tree = within;
      sum = inr (omega (arith, x, (there (2001 - c.index.result.now) (omega (arith, far.count))).1 t within from), refl);
    }

pub returns-in_err-append_trees-clause-far : goal.returns-in_err-append_trees-clause-far
returns-in_err-append_trees-clause-far g c = no_ok c.from_residual-in_err-append_trees.result _ _ c.from_residual-in_err-append_trees.ensures.1

pub returns-in_err-append_trees-clause-cause : goal.returns-in_err-append_trees-clause-cause
returns-in_err-append_trees-clause-cause g c =
    let rows = c.append_trees.new.rows in
    err_is c.from_residual-in_err-append_trees.result _ (IsCause (g.R.NumberedRows.is_full rows) c.args.most (g.R.NumberedRows.held rows)) c.from_residual-in_err-append_trees.ensures.1 c.in_err-append_trees.ensures.cause

pub index-requires : goal.index-requires
index-requires g c = omega (arith, c.requires.hedge, c.in_ok-wrap_far.ensures.tried.steps.goes.grows.hedges, c.in_ok-append_before.ensures.tried.steps.goes.grows.hedges, c.in_ok-append_before.ensures.tried.steps.at.kept.hedge_count)

pub returns-clause-cause : goal.returns-clause-cause
returns-clause-cause g c = tt

pub wrap_far-requires-clause-at : goal.wrap_far-requires-clause-at
wrap_far-requires-clause-at g c = let far = c.requires.far in record { kept = far.kept; few = far.few; up_to = far.up_to }
