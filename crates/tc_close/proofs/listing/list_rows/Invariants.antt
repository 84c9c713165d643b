use Rattle.tc_beh.specs.Machines.{IsMachineOf}
use Rattle.tc_close.proofs.listing.list_rows.Given as goal

abbrev pub ghosts-list_over : goal.ghosts-list_over
ghosts-list_over a = record { is_of = λ x. IsMachineOf x a.machine.now }
