use Rattle.std.proofs.Common.{refl}
use Rattle.tc_steps.proofs.MovingLaws.{step_remembered}
use Rattle.tc_steps.proofs.moves.Moves.remember.Goals as goal

pub returns-in-Numbered-clause-right : goal.returns-in-Numbered-clause-right
returns-in-Numbered-clause-right c = λ x right step. step_remembered x c.args.self.now _ refl refl refl (c.remember.ensures x _ _ right.steps (step c.in-Numbered.number c.in-Numbered.is)) right
