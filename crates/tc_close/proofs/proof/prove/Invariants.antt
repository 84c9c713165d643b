use Rattle.tc_beh.specs.Machines.{IsMachineOf}
use Rattle.tc_close.proofs.proof.prove.Given as goal

abbrev pub ghosts-prove_over : goal.ghosts-prove_over
ghosts-prove_over a = record { is_of = λ x. IsMachineOf x a.machine.now }
