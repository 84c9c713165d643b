use Rattle.std.proofs.Common.{◌+◌, ap, ◌∙◌, sym, subst, arith}
use Rattle.std.proofs.lemmas.Bool.{true≢false}
use Rattle.tc_model.specs.States.{input}
use Rattle.tc_model.specs.Views as see
use Rattle.tc_sets.specs.Numbers.{Numbers}
use Rattle.tc_incl.specs.Sets.{IsFound}
use Rattle.tc_incl.specs.Sides.{IsAllowed}
use Rattle.tc_incl.proofs.Found.{found_none, found_more, found_same, found_all}
use Rattle.tc_incl.proofs.Taken.{no_pattern_of_none, some_pattern_of, allowed_low}
use Rattle.tc_incl.proofs.sides.allowed_for.Goals.{then-allows, else-allows}
use Rattle.tc_incl.proofs.HandedOn.{no_value}
use Rattle.tc_incl.proofs.sides.allowed_for.Goals as goal

pub loop-before-init : goal.loop-before-init
loop-before-init c = (
  c.in_ok-allowed.ensures.size,
  λ x st. found_none (IsAllowed x (see.name c.args.name.now)) c.in_ok-allowed.allowed c.in_ok-allowed.ensures.numbers (λ (e, at, inside). no_pattern_of_none x e at),
)

pub loop-before-preserved : goal.loop-before-preserved
loop-before-preserved c =
    elim c.if-allows.branch [
      | then-allows w ↦ (
        ap (λ (s : Numbers). s.size) w.allowed-is ∙ (w.add.ensures.size ∙ c.loop-before.invariant.0),
        λ x st.
            let (e, at) = some_pattern_of x c.args.automaton.now st (c.loop-before.before + 1) (omega arith) (omega (arith, c.loop-before-test.true, c.patterns-before-end.ensures.here)) in
            subst (λ (s : Numbers). IsFound (IsAllowed x (see.name c.args.name.now)) (c.loop-before.before + 1) s) (sym w.allowed-is)
            (found_more (IsAllowed x (see.name c.args.name.now)) c.loop-before.before c.loop-before.allowed w.add.new.self (c.loop-before.invariant.1 x st)
            (e, at, sym (c.allows.ensures input x st e at) ∙ w.if-allows.true) w.add.ensures.numbers),
      )
      | else-allows w ↦ (
        ap (λ (s : Numbers). s.size) w.allowed-is ∙ c.loop-before.invariant.0,
        λ x st. subst (λ (s : Numbers). IsFound (IsAllowed x (see.name c.args.name.now)) (c.loop-before.before + 1) s) (sym w.allowed-is)
            (found_same (IsAllowed x (see.name c.args.name.now)) c.loop-before.before c.loop-before.allowed (c.loop-before.invariant.1 x st)
            (λ (e, at, inside). true≢false (sym inside ∙ (sym (c.allows.ensures input x st e at) ∙ w.if-allows.false)))),
      )
    ]

pub returns-clause-numbers : goal.returns-clause-numbers
returns-clause-numbers c = λ x st.
    found_all (IsAllowed x (see.name c.args.name.now)) c.loop-before.before c.loop-before.allowed (c.loop-before.invariant.1 x st)
    (λ k (e, at, inside). allowed_low x c.args.automaton.now st c.loop-before.before (omega (arith, c.loop-before-test.false, c.patterns-before-end.ensures.here)) k e at)

pub returns-in_err-allowed-clause-size : goal.returns-in_err-allowed-clause-size
returns-in_err-allowed-clause-size c = no_value c.from_residual.result _ _ c.from_residual.ensures.1

pub returns-in_err-allowed-clause-numbers : goal.returns-in_err-allowed-clause-numbers
returns-in_err-allowed-clause-numbers c = no_value c.from_residual.result _ _ c.from_residual.ensures.1
