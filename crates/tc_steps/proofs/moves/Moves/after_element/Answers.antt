use Rattle.std.proofs.Common.{sym, subst}
use Rattle.tc_steps.specs.Moving.{IsAfterElement}
use Rattle.tc_steps.specs.declared.known_sets.States.{States}
use Rattle.tc_steps.specs.declared.known_sets.States.TheVariants.{Numbered}
use Rattle.tc_steps.proofs.MovingLaws.{keeps_remembered, element_step, element_moved}
use Rattle.tc_steps.proofs.moves.Moves.after_element.Goals as goal

pub returns-clause-keeps : goal.returns-clause-keeps
returns-clause-keeps c = λ x right met.
    let mid = c.learn_element.new.self in
    let number = c.in-Numbered-Numbered.number in
    keeps_remembered x c.args.self.now mid c.remember.new.self c.remember.ensures.steps c.remember.ensures.sets
    (λ r. c.remember.ensures.right x r (λ k is. element_step x mid c.args.inner.now number c.in-Numbered-Numbered.ends k c.in-Numbered-Numbered.is-1
    (subst (λ (z : States). IsAfterElement x mid c.args.inner.now (Numbered number) z) is (subst (λ (z : States). IsAfterElement x mid c.args.inner.now z c.in_ok-to.to) c.in-Numbered-Numbered.is-0 (c.in_ok-to.ensures.after x right met)))))
    (c.in_ok-to.ensures.keeps x right met)

pub returns-clause-after : goal.returns-clause-after
returns-clause-after c = λ x right met.
    element_moved x c.learn_element.new.self c.remember.new.self c.args.inner.now c.args.from.now c.in_ok-to.to c.remember.ensures.sets c.remember.ensures.steps (c.in_ok-to.ensures.after x right met)
