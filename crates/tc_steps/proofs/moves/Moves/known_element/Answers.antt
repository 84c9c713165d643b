use Rattle.std.proofs.Common.{sym, subst}
use Rattle.std.proofs.lemmas.Option.{IfSome_then}
use Rattle.tc_steps.specs.Moving.{IsAfterElement}
use Rattle.tc_steps.specs.declared.known_sets.States.{States}
use Rattle.tc_steps.specs.declared.known_sets.States.TheVariants.{Numbered}
use Rattle.tc_steps.proofs.MovingLaws.{element_remembered}
use Rattle.tc_steps.proofs.moves.Moves.known_element.Goals as goal

pub returns : goal.returns
returns c = λ x right. IfSome_then c.remembered.result (c.remembered.ensures x _ _ right.steps)
    (λ to i. subst (λ (z : States). IsAfterElement x c.args.self.now c.args.inner.now z (Numbered to)) (sym c.in-Numbered-Numbered.is-0)
    (element_remembered x c.args.self.now c.args.inner.now _ _ to c.in-Numbered-Numbered.is-1 i))
