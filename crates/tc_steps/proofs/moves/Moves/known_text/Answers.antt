use Rattle.std.proofs.Common.{sym, subst}
use Rattle.std.proofs.lemmas.Option.{IfSome_then}
use Rattle.tc_steps.specs.Moving.{IsAfterText}
use Rattle.tc_steps.specs.declared.known_sets.States.{States}
use Rattle.tc_steps.specs.declared.known_sets.States.TheVariants.{Numbered}
use Rattle.tc_steps.proofs.MovingLaws.{text_remembered}
use Rattle.tc_steps.proofs.moves.Moves.known_text.Goals as goal

pub returns : goal.returns
returns c = λ x right. IfSome_then c.remembered.result (c.remembered.ensures x _ _ right.steps)
    (λ to i. subst (λ (z : States). IsAfterText x c.args.self.now z (Numbered to)) (sym c.in-Numbered.is) (text_remembered x c.args.self.now _ to i))
