use Rattle.std.proofs.Common.{sym, subst}
use Rattle.tc_steps.specs.Moving.{IsAfterText}
use Rattle.tc_steps.specs.declared.known_sets.States.{States}
use Rattle.tc_steps.specs.declared.known_sets.States.TheVariants.{Numbered}
use Rattle.tc_steps.proofs.MovingLaws.{keeps_remembered, text_step, text_moved}
use Rattle.tc_steps.proofs.moves.Moves.after_text.Goals as goal

pub returns-clause-keeps : goal.returns-clause-keeps
returns-clause-keeps c = λ x right.
    let mid = c.learn_text.new.self in
    keeps_remembered x c.args.self.now mid c.remember.new.self c.remember.ensures.steps c.remember.ensures.sets
    (λ r. c.remember.ensures.right x r (λ k is. text_step x mid c.in-Numbered.number k (subst (λ (z : States). IsAfterText x mid (Numbered c.in-Numbered.number) z) is (subst (λ (z : States). IsAfterText x mid z c.in_ok-to.to) c.in-Numbered.is (c.in_ok-to.ensures.after x right)))))
    (c.in_ok-to.ensures.keeps x right)

pub returns-clause-after : goal.returns-clause-after
returns-clause-after c = λ x right. text_moved x c.learn_text.new.self c.remember.new.self c.args.from.now c.in_ok-to.to c.remember.ensures.sets (c.in_ok-to.ensures.after x right)
