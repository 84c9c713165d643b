use Rattle.std.proofs.Common.{sym, subst}
use Rattle.tc_beh.specs.Machines.{IsMachineOf}
use Rattle.tc_beh.specs.declared.machine.Machine.{Machine}
use Rattle.tc_tests_engine.proofs.rows.is_so.Goals as goal

pub shape-requires : goal.shape-requires
shape-requires c =
    let (x, are) = c.requires.rows in
    (x, subst (λ (m : Machine). IsMachineOf x m) (sym c.machine.ensures) are.machine)
