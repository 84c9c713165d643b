use Rattle.std.proofs.Common.{◌+◌, refl, ap, ◌∙◌, sym, subst, arith}
use Rattle.std.proofs.lemmas.Bool.{true≢false}
use Rattle.tc_model.specs.States.{input}
use Rattle.tc_model.specs.Views as see
use Rattle.tc_sets.specs.Numbers.{Numbers}
use Rattle.tc_steps.specs.Led.{IsAllowed}
use Rattle.tc_steps.proofs.Found.{IsFound, found_none, found_more, found_same, found_all}
use Rattle.tc_steps.proofs.LedLaws.{number_within}
use Rattle.tc_steps.proofs.Reaching.{some_pattern_of}
use Rattle.tc_steps.proofs.patterns.add_allowed.Goals.{then-allows, else-allows}
use Rattle.tc_steps.proofs.patterns.add_allowed.Goals as goal

pub loop-before-init : goal.loop-before-init
loop-before-init c = (
  refl,
  λ x st. found_none (IsAllowed x (see.name c.args.name.now)) c.args.numbers.now c.requires.none
      (λ (e, at, inside). let (low, high) = number_within x.elements 0 e at in omega (arith, low)),
)

pub loop-before-preserved : goal.loop-before-preserved
loop-before-preserved c =
    elim c.if-allows.branch [
      | then-allows w ↦ (
        ap (λ (s : Numbers). s.size) w.numbers-is ∙ (w.add.ensures.size ∙ c.loop-before.invariant.0),
        λ x st.
            let (e, at) = some_pattern_of x c.args.automaton.now st (c.loop-before.before + 1) (omega arith) (omega (arith, c.loop-before-test.true, c.patterns-before-end.ensures.here)) in
            subst (λ (s : Numbers). IsFound (IsAllowed x (see.name c.args.name.now)) (c.loop-before.before + 1) s) (sym w.numbers-is)
            (found_more (IsAllowed x (see.name c.args.name.now)) c.loop-before.before c.loop-before.numbers w.add.new.self (c.loop-before.invariant.1 x st)
            (e, at, sym (c.allows.ensures input x st e at) ∙ w.if-allows.true) w.add.ensures.numbers),
      )
      | else-allows w ↦ (
        ap (λ (s : Numbers). s.size) w.numbers-is ∙ c.loop-before.invariant.0,
        λ x st. subst (λ (s : Numbers). IsFound (IsAllowed x (see.name c.args.name.now)) (c.loop-before.before + 1) s) (sym w.numbers-is)
            (found_same (IsAllowed x (see.name c.args.name.now)) c.loop-before.before c.loop-before.numbers (c.loop-before.invariant.1 x st)
            (λ (e, at, inside). true≢false (sym inside ∙ (sym (c.allows.ensures input x st e at) ∙ w.if-allows.false)))),
      )
    ]

pub returns-clause-allowed : goal.returns-clause-allowed
returns-clause-allowed c = λ x st.
    found_all (IsAllowed x (see.name c.args.name.now)) c.loop-before.before c.loop-before.numbers (c.loop-before.invariant.1 x st)
    (λ k (e, at, inside).
    let (low, high) = number_within x.elements k e at in
    omega (arith, high, c.loop-before-test.false, c.patterns-before-end.ensures.schema input x st))
