use Rattle.std.proofs.Common.{◌∙◌, ap, refl}
use Rattle.std.proofs.lemmas.Option.{IfSome_then}
use Rattle.tc_model.specs.Symbols.{symbol_of}
use Rattle.tc_steps.proofs.MovingLaws.{both_some, keeps_put, element_learned}
use Rattle.tc_steps.proofs.moves.Moves.learn_element.Goals as goal

pub returns-clause-keeps : goal.returns-clause-keeps
returns-clause-keeps c =
    IfSome_then c.keep.result c.keep.ensures.grown (λ to g x right met. keeps_put x c.args.self.now _ c.pass_element.ensures.auto c.pass_element.ensures.alphabet c.pass_element.ensures.classes g refl refl right)

pub returns-clause-after : goal.returns-clause-after
returns-clause-after c =
    both_some c.keep.result c.keep.ensures.states c.keep.ensures.grown (λ to at g x right met.
    element_learned x c.args.self.now _ c.args.inner.now c.args.from.now to c.in_ok-ends.ends c.in_ok-states.states c.pass_element.new.states c.in_ok-ends.ensures.numbers c.in_ok-states.ensures.numbers g at
    (λ n m kids inside symbol ended led. c.pass_element.ensures.led x n m kids inside right.right met (symbol ∙ ap (λ z. symbol_of z m) c.pass_element.ensures.alphabet) ended led))
