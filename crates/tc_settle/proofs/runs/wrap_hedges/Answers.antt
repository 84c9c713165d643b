use Rattle.std.proofs.Common.{◌+◌, inl, inr, refl, ◌∙◌, sym, subst, arith}
use Rattle.tc_settle.specs.Settled.{AreWrapsDone}
use Rattle.tc_settle.proofs.Kept.{below_or_last}
use Rattle.tc_settle.proofs.Going.{steps_nothing, steps_twice, wraps_done_stay, wrap_costs_stay}
use Rattle.tc_settle.proofs.runs.wrap_hedges.Goals as goal

pub loop-hedge-init : goal.loop-hedge-init
loop-hedge-init g c = record {
  steps = steps_nothing c.args.most c.args.cost (g.R.NumberedRows.held c.args.rows.now) c.args.closed.now c.requires.at;
  hedges = refl;
  done = λ h from to. absurd (omega (arith, from, to));
}

pub wrap_symbols-requires-clause-at : goal.wrap_symbols-requires-clause-at
wrap_symbols-requires-clause-at g c = c.loop-hedge.invariant.steps.at

pub wrap_symbols-requires-clause-costs : goal.wrap_symbols-requires-clause-costs
wrap_symbols-requires-clause-costs g c =
    wrap_costs_stay c.args.cost (g.R.NumberedRows.held c.args.rows.now) (g.R.NumberedRows.held c.loop-hedge.rows) c.args.closed.now c.loop-hedge.closed c.loop-hedge.invariant.steps.goes c.loop-hedge.hedge c.args.cost
    (c.requires.costs c.loop-hedge.hedge c.loop-hedge.auto.hedge c.loop-hedge-test.true)

pub loop-hedge-preserved : goal.loop-hedge-preserved
loop-hedge-preserved g c =
    let s = g.R.NumberedRows.held c.args.rows.now in
    let r = g.R.NumberedRows.held c.loop-hedge.rows in
    let q = g.R.NumberedRows.held c.wrap_symbols.new.rows in
    let v = c.loop-hedge.invariant in
    let e = c.in_ok-wrap_symbols.ensures.tried in
    record {
      steps = steps_twice c.args.most c.args.cost s r q c.args.closed.now c.loop-hedge.closed c.wrap_symbols.new.closed v.steps e.steps;
      hedges = e.hedges ∙ v.hedges;
      done = λ h from to. elim (below_or_last h c.loop-hedge.hedge (c.loop-hedge.hedge + 1) (omega arith) to) [
        | inl low ↦
            let inside = (c.requires.costs h from (omega (arith, low, c.loop-hedge-test.true))).hedge in
            wraps_done_stay c.args.cost r q c.loop-hedge.closed c.wrap_symbols.new.closed e.steps.goes h (omega (arith, inside, v.hedges)) (v.done h from low)
        | inr same ↦ subst (AreWrapsDone q c.wrap_symbols.new.closed) (sym same) e.done
      ];
    }

pub returns-clause-tried : goal.returns-clause-tried
returns-clause-tried g c =
    let v = c.loop-hedge.invariant in
    record { steps = v.steps; hedges = v.hedges; done = λ h from to. v.done h from (omega (arith, to, c.loop-hedge-test.false)) }
