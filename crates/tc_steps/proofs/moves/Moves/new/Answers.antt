use Rattle.tc_steps.proofs.moves.Moves.new.Goals as goal

pub returns : goal.returns
returns c = λ x other sheet st e. record { right = c.in_ok-steps.ensures.right x other sheet st e; steps = c.in_ok-known.ensures x _ _; names = c.in_ok-names.ensures x _ _ _ }
