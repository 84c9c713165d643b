use Rattle.std.proofs.Common.{◌+◌, inl, inr, refl, ◌∙◌, sym, subst, arith}
use Rattle.tc_settle.specs.Settled.{IsWrapDone}
use Rattle.tc_settle.proofs.Kept.{below_or_last}
use Rattle.tc_settle.proofs.Going.{steps_nothing, steps_twice, wrap_done_stays, wrap_costs_stay}
use Rattle.tc_settle.proofs.runs.wrap_symbols.Goals as goal

pub loop-symbol-init : goal.loop-symbol-init
loop-symbol-init g c = record {
  steps = steps_nothing c.args.most c.args.cost (g.R.NumberedRows.held c.args.rows.now) c.args.closed.now c.requires.at;
  hedges = refl;
  done = λ a low. absurd (omega (arith, low));
}

pub try_wrap-requires-clause-at : goal.try_wrap-requires-clause-at
try_wrap-requires-clause-at g c = c.loop-symbol.invariant.steps.at

pub try_wrap-requires-clause-costs : goal.try_wrap-requires-clause-costs
try_wrap-requires-clause-costs g c = (
  omega (arith, c.loop-symbol.invariant.steps.goes.grows.symbols, c.loop-symbol-test.true, c.symbols-symbol-end.ensures.number),
  wrap_costs_stay c.args.cost (g.R.NumberedRows.held c.args.rows.now) (g.R.NumberedRows.held c.loop-symbol.rows) c.args.closed.now c.loop-symbol.closed c.loop-symbol.invariant.steps.goes c.args.hedge c.args.cost c.requires.costs,
)

pub loop-symbol-preserved : goal.loop-symbol-preserved
loop-symbol-preserved g c =
    let s = g.R.NumberedRows.held c.args.rows.now in
    let r = g.R.NumberedRows.held c.loop-symbol.rows in
    let q = g.R.NumberedRows.held c.try_wrap.new.rows in
    let v = c.loop-symbol.invariant in
    let e = c.in_ok-try_wrap.ensures.tried in
    record {
      steps = steps_twice c.args.most c.args.cost s r q c.args.closed.now c.loop-symbol.closed c.try_wrap.new.closed v.steps e.steps;
      hedges = e.hedges ∙ v.hedges;
      done = λ a to. elim (below_or_last a c.loop-symbol.symbol (c.loop-symbol.symbol + 1) (omega arith) to) [
        | inl low ↦ wrap_done_stays c.args.cost r q c.loop-symbol.closed c.try_wrap.new.closed e.steps.goes a c.args.hedge
            (omega (arith, v.steps.goes.grows.symbols, c.loop-symbol-test.true, c.symbols-symbol-end.ensures.number, low)) (omega (arith, c.requires.costs.hedge, v.steps.goes.grows.hedges)) (v.done a low)
        | inr same ↦ subst (λ k. IsWrapDone q c.try_wrap.new.closed k c.args.hedge) (sym same) e.done
      ];
    }

pub returns-clause-tried : goal.returns-clause-tried
returns-clause-tried g c =
    let v = c.loop-symbol.invariant in
    record { steps = v.steps; hedges = v.hedges; done = λ a low. v.done a (omega (arith, low, c.loop-symbol-test.false, c.symbols-symbol-end.ensures.number, v.steps.goes.grows.symbols)) }

pub returns-clause-cause : goal.returns-clause-cause
returns-clause-cause g c = tt
