use Rattle.std.proofs.Common.{ap, ◌∙◌, sym, subst, take, ◌+◌}
use Rattle.std.proofs.lemmas.Bool.{true≢false}
use Rattle.tc_sets.specs.Numbers.{Numbers}
use Rattle.tc_steps.proofs.Found.{IsEnded, ended_more, ended_same, ended_all}
use Rattle.tc_steps.proofs.arrows.add_ends.Goals.{then-has, else-has}
use Rattle.tc_steps.proofs.arrows.add_ends.Goals as goal

pub loop-arrow-preserved : goal.loop-arrow-preserved
loop-arrow-preserved c =
    let arrows = c.args.arrows.now in
    let k = c.loop-arrow.arrow-index in
    let More : Numbers → Type 0 = IsEnded arrows c.args.states.now c.args.ends.now (take (k + 1) arrows) in
    elim c.if-has.branch [
      | then-has w ↦ (
        ap (λ (s : Numbers). s.size) w.ends-is ∙ (w.add.ensures.size ∙ c.loop-arrow.invariant.0),
        subst More (sym w.ends-is) (ended_more arrows c.args.states.now c.args.ends.now k _ c.loop-arrow-test.true c.loop-arrow.ends w.add.new.self (c.has.ensures.0 w.if-has.true) c.loop-arrow.invariant.1 w.add.ensures.numbers),
      )
      | else-has w ↦ (
        ap (λ (s : Numbers). s.size) w.ends-is ∙ c.loop-arrow.invariant.0,
        subst More (sym w.ends-is) (ended_same arrows c.args.states.now c.args.ends.now k _ c.loop-arrow-test.true c.loop-arrow.ends (λ h. true≢false (sym (c.has.ensures.1 h) ∙ w.if-has.false)) c.loop-arrow.invariant.1),
      )
    ]

pub returns-clause-numbers : goal.returns-clause-numbers
returns-clause-numbers c = ended_all c.args.arrows.now c.args.states.now c.args.ends.now c.loop-arrow.arrow-index c.loop-arrow.ends c.loop-arrow-test.false c.loop-arrow.invariant.1
