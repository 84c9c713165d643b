use Rattle.std.proofs.Common.{length, ap, subst, sym, arith}
use Rattle.tc_settle.specs.Closed.{IsCause}
use Rattle.tc_close.specs.RowState.{RowState, held_of, IsFull}
use Rattle.tc_close.proofs.decision.settle.Goals as goal

pub close_fault-requires : goal.close_fault-requires
close_fault-requires g c = subst (λ (s : RowState). IsCause (IsFull g.K.Over.is_of s) c.args.most (held_of g.K.Over.is_of s) c.in-Err.fault) (sym c.once.view_is) c.in-Err.ensures.cause

pub close-requires-clause-trees : goal.close-requires-clause-trees
close-requires-clause-trees g c = ap length c.requires.1

pub close-requires-clause-hedges : goal.close-requires-clause-hedges
close-requires-clause-hedges g c = ap length c.requires.0

pub close-requires-clause-most : goal.close-requires-clause-most
close-requires-clause-most g c = omega (arith, c.requires.2)
