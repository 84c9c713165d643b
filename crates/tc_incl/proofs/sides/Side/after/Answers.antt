use Rattle.std.proofs.Common.{◌+◌, ◌∙◌, sym, ap, subst}
use Rattle.tc_incl.specs.Sides.{AreOfSize}
use Rattle.tc_incl.proofs.Stepped.{put_after}
use Rattle.tc_incl.proofs.HandedOn.{no_value}
use Rattle.tc_incl.proofs.sides.Side.after.Goals as goal

pub put_steps-requires-clause-count : goal.put_steps-requires-clause-count
put_steps-requires-clause-count c = let are = c.requires.steps.1 in c.requires.patterns ∙ (c.args.self.now.ended ∙ sym (ap (λ n. n + 1) are.count))

pub put_steps-requires-clause-sizes : goal.put_steps-requires-clause-sizes
put_steps-requires-clause-sizes c =
    let are = c.requires.steps.1 in subst (λ n. AreOfSize n c.args.steps.now.elements.items) (sym (c.in_ok-next.ensures.size ∙ c.states.ensures.here)) are.element_sizes

pub put_steps-requires-clause-text : goal.put_steps-requires-clause-text
put_steps-requires-clause-text c = let are = c.requires.steps.1 in are.text_size ∙ sym (c.in_ok-next.ensures.size ∙ c.states.ensures.here)

pub returns-clause-numbers : goal.returns-clause-numbers
returns-clause-numbers c = λ x states st are.
    put_after c.args.self.now.auto.now x st states c.args.steps.now are c.args.is_text c.args.patterns.now c.in_ok-next.next c.put_steps.new.next c.in_ok-next.ensures.numbers c.put_steps.ensures.numbers

pub returns-clause-set : goal.returns-clause-set
returns-clause-set c = c.size-size.ensures.set

pub returns-in_err-next-clause-set : goal.returns-in_err-next-clause-set
returns-in_err-next-clause-set c = no_value c.from_residual.result _ _ c.from_residual.ensures.1

pub returns-in_err-next-clause-size : goal.returns-in_err-next-clause-size
returns-in_err-next-clause-size c = no_value c.from_residual.result _ _ c.from_residual.ensures.1

pub returns-in_err-next-clause-numbers : goal.returns-in_err-next-clause-numbers
returns-in_err-next-clause-numbers c = no_value c.from_residual.result _ _ c.from_residual.ensures.1
