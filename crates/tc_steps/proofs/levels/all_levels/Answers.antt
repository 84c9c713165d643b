use Rattle.std.proofs.Common.{◌≡◌, ◌∙◌, ap, sym, refl, subst, arith, length, length-append, All}
use Rattle.std.proofs.lemmas.List.Elements.{All-push}
use Rattle.tc_auto.specs.Stands as held
use Rattle.tc_steps.specs.declared.levels.Level.{Level}
use Rattle.tc_steps.proofs.FailedLaws.{no_value}
use Rattle.tc_steps.proofs.levels.all_levels.Goals as goal

pub loop-level-preserved : goal.loop-level-preserved
loop-level-preserved c =
    let old = c.loop-level.levels.items in
    let pushed = c.in_ok-push.ensures.items in
    let long = ap length pushed in
    let many = c.loop-level.invariant.0 in
    let IsSized = λ (r : Level). r.states.size ≡ held.states c.args.automaton.now in
    let IsFirst = λ (r : Level). r.symbol.0 ≡ 0 in (
      omega (arith, long, many, length-append {A = Level} old),
      subst (All IsSized) (sym pushed) (All-push IsSized old _ c.loop-level.invariant.1 (c.in_ok-states.ensures.size ∙ c.states.ensures.here)),
      subst (All IsFirst) (sym pushed) (All-push IsFirst old _ c.loop-level.invariant.2 refl),
    )

pub returns-in_err-levels-clause-count : goal.returns-in_err-levels-clause-count
returns-in_err-levels-clause-count c = no_value c.from_residual.result _ _ c.from_residual.ensures.1

pub returns-in_err-levels-clause-symbols : goal.returns-in_err-levels-clause-symbols
returns-in_err-levels-clause-symbols c = no_value c.from_residual.result _ _ c.from_residual.ensures.1

pub returns-in_err-levels-clause-sizes : goal.returns-in_err-levels-clause-sizes
returns-in_err-levels-clause-sizes c = no_value c.from_residual.result _ _ c.from_residual.ensures.1

pub returns-in_err-states-clause-count : goal.returns-in_err-states-clause-count
returns-in_err-states-clause-count c = no_value c.from_residual-in_err-states.result _ _ c.from_residual-in_err-states.ensures.1

pub returns-in_err-states-clause-symbols : goal.returns-in_err-states-clause-symbols
returns-in_err-states-clause-symbols c = no_value c.from_residual-in_err-states.result _ _ c.from_residual-in_err-states.ensures.1

pub returns-in_err-states-clause-sizes : goal.returns-in_err-states-clause-sizes
returns-in_err-states-clause-sizes c = no_value c.from_residual-in_err-states.result _ _ c.from_residual-in_err-states.ensures.1

pub returns-in_err-push-clause-count : goal.returns-in_err-push-clause-count
returns-in_err-push-clause-count c = no_value c.from_residual-in_err-push.result _ _ c.from_residual-in_err-push.ensures.1

pub returns-in_err-push-clause-symbols : goal.returns-in_err-push-clause-symbols
returns-in_err-push-clause-symbols c = no_value c.from_residual-in_err-push.result _ _ c.from_residual-in_err-push.ensures.1

pub returns-in_err-push-clause-sizes : goal.returns-in_err-push-clause-sizes
returns-in_err-push-clause-sizes c = no_value c.from_residual-in_err-push.result _ _ c.from_residual-in_err-push.ensures.1

pub returns-clause-symbols : goal.returns-clause-symbols
returns-clause-symbols c = c.loop-level.invariant.2

pub returns-clause-sizes : goal.returns-clause-sizes
returns-clause-sizes c = c.loop-level.invariant.1
