use Rattle.std.proofs.Common.{◌≡◌, ◌<◌, ◌+◌, [], ◌∷◌, ◌++◌, inl, List, ℕ, length, ap, ◌∙◌, sym, subst, arith}
use Rattle.tc_settle.specs.Closed.{IsCause}
use Rattle.tc_settle.specs.Settled.{AreStarts, AreSumsDone, IsReady}
use Rattle.tc_settle.specs.declared.closed.CloseFault.TheVariants.{NoMemory}
use Rattle.tc_settle.proofs.AtOneCost.{ready_next, ready_starts, ready_count}
use Rattle.tc_settle.proofs.Exits.{no_ok, err_is}
use Rattle.tc_settle.proofs.levels.level.Goals as goal

pub returns-clause-ready : goal.returns-clause-ready
returns-clause-ready g c =
    let s = g.R.NumberedRows.held c.args.rows.now in
    let r = g.R.NumberedRows.held c.wrap_hedges.new.rows in
    let q = g.R.NumberedRows.held c.append_level.new.rows in
    let d = c.wrap_hedges.new.closed in
    let f = c.append_level.new.closed in
    let first = c.in_ok-wrap_hedges.ensures.tried in
    let second = c.in_ok-append_level.ensures.tried in
    let count : c.hedge_count-count.result ≡ s.hedges = c.hedge_count-count.ensures ∙ c.requires.ready.kept.hedge_count in
    let trees : c.tree_count.result ≡ r.trees = c.tree_count.ensures ∙ first.steps.at.kept.tree_count in
    let pushed = c.in_ok-push_start.ensures ∙ ap (λ t. c.args.starts.now.items ++ t ∷ []) trees in
    let sums = subst (λ k. AreSumsDone q f k c.args.cost) count second.done in
    let next = ready_next c.args.most c.args.cost c.args.wrapped s r c.args.closed.now d c.args.starts.now.items c.push_start.new.starts.items c.requires.ready first.steps first.hedges pushed q f second.steps second.trees
    (λ h from low. first.done h from (omega (arith, low, count))) sums in
    subst (IsReady c.args.most (c.args.cost + 1) q f c.push_start.new.starts.items) (sym count) next

pub hedge_count-count-requires : goal.hedge_count-count-requires
hedge_count-count-requires g c = omega (arith, c.requires.ready.kept.hedge_count, c.requires.ready.few.hedges, c.requires.ready.few.limit)

pub wrap_hedges-requires-clause-at : goal.wrap_hedges-requires-clause-at
wrap_hedges-requires-clause-at g c =
    let ready = c.requires.ready in
    record { kept = ready.kept; few = ready.few; up_to = record { hedges = λ u low. omega (arith, ready.hedges u low); trees = λ t last. (ready.trees t last).1 } }

pub wrap_hedges-requires-clause-costs : goal.wrap_hedges-requires-clause-costs
wrap_hedges-requires-clause-costs g c = λ h from low.
    let s = g.R.NumberedRows.held c.args.rows.now in
    let inside : h < s.hedges = omega (arith, low, c.hedge_count-count.ensures, c.requires.ready.kept.hedge_count) in
    let behind = c.requires.ready.behind h from inside in
    record { hedge = inside; sum = inl (omega (arith, behind, c.requires.near), sym behind) }

pub returns-in_err-wrap_hedges-clause-ready : goal.returns-in_err-wrap_hedges-clause-ready
returns-in_err-wrap_hedges-clause-ready g c = no_ok c.from_residual.result _ _ c.from_residual.ensures.1

pub returns-in_err-wrap_hedges-clause-cause : goal.returns-in_err-wrap_hedges-clause-cause
returns-in_err-wrap_hedges-clause-cause g c =
    let rows = c.wrap_hedges.new.rows in
    err_is c.from_residual.result _ (IsCause (g.R.NumberedRows.is_full rows) c.args.most (g.R.NumberedRows.held rows)) c.from_residual.ensures.1 c.in_err-wrap_hedges.ensures.cause

pub tree_count-requires : goal.tree_count-requires
tree_count-requires g c = let steps = c.in_ok-wrap_hedges.ensures.tried.steps in omega (arith, steps.at.kept.tree_count, steps.at.few.trees, steps.at.few.limit)

pub returns-in_err-push_start-clause-ready : goal.returns-in_err-push_start-clause-ready
returns-in_err-push_start-clause-ready g c = no_ok c.from_residual-in_err-push_start.result _ _ c.from_residual-in_err-push_start.ensures.1

pub returns-in_err-push_start-clause-cause : goal.returns-in_err-push_start-clause-cause
returns-in_err-push_start-clause-cause g c =
    let rows = c.wrap_hedges.new.rows in
    err_is c.from_residual-in_err-push_start.result NoMemory (IsCause (g.R.NumberedRows.is_full rows) c.args.most (g.R.NumberedRows.held rows)) c.from_residual-in_err-push_start.ensures.1 tt

pub returns-in_err-append_level-clause-ready : goal.returns-in_err-append_level-clause-ready
returns-in_err-append_level-clause-ready g c = no_ok c.from_residual-in_err-append_level.result _ _ c.from_residual-in_err-append_level.ensures.1

pub returns-in_err-append_level-clause-cause : goal.returns-in_err-append_level-clause-cause
returns-in_err-append_level-clause-cause g c =
    let rows = c.append_level.new.rows in
    err_is c.from_residual-in_err-append_level.result _ (IsCause (g.R.NumberedRows.is_full rows) c.args.most (g.R.NumberedRows.held rows)) c.from_residual-in_err-append_level.ensures.1 c.in_err-append_level.ensures.cause

pub append_level-requires-clause-at : goal.append_level-requires-clause-at
append_level-requires-clause-at g c = c.in_ok-wrap_hedges.ensures.tried.steps.at

pub append_level-requires-clause-level : goal.append_level-requires-clause-level
append_level-requires-clause-level g c =
    let s = g.R.NumberedRows.held c.args.rows.now in
    let r = g.R.NumberedRows.held c.wrap_hedges.new.rows in
    let d = c.wrap_hedges.new.closed in
    let first = c.in_ok-wrap_hedges.ensures.tried in
    let ready = c.requires.ready in
    let trees : c.tree_count.result ≡ r.trees = c.tree_count.ensures ∙ first.steps.at.kept.tree_count in
    let pushed = c.in_ok-push_start.ensures ∙ ap (λ t. c.args.starts.now.items ++ t ∷ []) trees in
    let begun = ready_starts c.args.most c.args.cost c.args.wrapped s r c.args.closed.now d c.args.starts.now.items c.push_start.new.starts.items ready first.steps first.hedges pushed in
    let count = ready_count c.args.most c.args.cost c.args.wrapped s r c.args.closed.now d c.args.starts.now.items c.push_start.new.starts.items ready first.steps first.hedges pushed in
    record {
      near = c.requires.near;
      within = omega (arith, c.hedge_count-count.ensures, ready.kept.hedge_count, first.hedges);
      lower = λ h low.
          let inside : h < s.hedges = omega (arith, low, c.hedge_count-count.ensures, ready.kept.hedge_count) in
          omega (arith, ready.hedges h inside, first.steps.goes.hedge_costs h inside);
      count = omega (arith, count, ap length c.as_slice.ensures.value);
      begun = subst (λ (ns : List ℕ). AreStarts r d ns) (sym c.as_slice.ensures.value) begun;
    }
