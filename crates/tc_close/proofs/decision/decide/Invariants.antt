use Rattle.tc_beh.specs.Machines.{IsMachineOf}
use Rattle.tc_close.proofs.decision.decide.Given as goal

abbrev pub ghosts-decide_over : goal.ghosts-decide_over
ghosts-decide_over a = record { is_of = λ x. IsMachineOf x a.machine.now }
