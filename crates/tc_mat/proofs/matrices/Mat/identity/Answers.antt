use Rattle.std.proofs.Common.{◌<◌, sym, subst}
use Rattle.tc_mat.proofs.Causes.{error_no_value}
use Rattle.tc_mat.proofs.matrices.Mat.identity.Goals as goal

pub returns-in_err-mat-clause-size : goal.returns-in_err-mat-clause-size
returns-in_err-mat-clause-size c = error_no_value c.from_residual.result _ _ c.from_residual.ensures.1

pub returns-in_err-mat-clause-pairs : goal.returns-in_err-mat-clause-pairs
returns-in_err-mat-clause-pairs c = error_no_value c.from_residual.result _ _ c.from_residual.ensures.1

pub returns-in_err-mat-clause-matrix : goal.returns-in_err-mat-clause-matrix
returns-in_err-mat-clause-matrix c = error_no_value c.from_residual.result _ _ c.from_residual.ensures.1

pub set-requires-clause-row : goal.set-requires-clause-row
set-requires-clause-row c = subst (λ n. c.loop-i.i < n) (sym c.loop-i.invariant.0) c.loop-i-test.true

pub set-requires-clause-column : goal.set-requires-clause-column
set-requires-clause-column c = subst (λ n. c.loop-i.i < n) (sym c.loop-i.invariant.0) c.loop-i-test.true

pub returns-clause-size : goal.returns-clause-size
returns-clause-size c = c.loop-i.invariant.0

pub returns-clause-matrix : goal.returns-clause-matrix
returns-clause-matrix c = c.loop-i.invariant.2
