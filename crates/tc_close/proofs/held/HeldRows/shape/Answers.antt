use Rattle.std.proofs.Common.{subst, sym}
use Rattle.tc_beh.specs.Machines.{IsMachineOf}
use Rattle.tc_close.proofs.held.HeldRows.shape.Goals as goal

pub shape-requires : goal.shape-requires
shape-requires g c = let (x, o) = c.self.invariant.0.some in (x, subst (IsMachineOf x) (sym c.machine.ensures) (c.self.invariant.0.over x o))

pub returns-clause-stands : goal.returns-clause-stands
returns-clause-stands g c = λ x o. c.shape.ensures x (subst (IsMachineOf x) (sym c.machine.ensures) (c.self.invariant.0.over x o))
