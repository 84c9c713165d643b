use Rattle.std.proofs.Common.{refl}
use Rattle.std.proofs.lemmas.Option.{IfSome_then}
use Rattle.tc_steps.proofs.MovingLaws.{both_some, keeps_put, text_learned}
use Rattle.tc_steps.proofs.moves.Moves.learn_text.Goals as goal

pub returns-clause-keeps : goal.returns-clause-keeps
returns-clause-keeps c =
    IfSome_then c.keep.result c.keep.ensures.grown (λ to g x right. keeps_put x c.args.self.now _ c.pass_text.ensures.auto c.pass_text.ensures.alphabet c.pass_text.ensures.classes g refl refl right)

pub returns-clause-after : goal.returns-clause-after
returns-clause-after c =
    both_some c.keep.result c.keep.ensures.states c.keep.ensures.grown
    (λ to at g x right. text_learned x c.args.self.now _ c.args.from.now to c.in_ok-states.states c.pass_text.new.states c.in_ok-states.ensures.numbers g at (λ n kids run white led. c.pass_text.ensures.led x n kids run right.right white led))
