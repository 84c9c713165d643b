use Rattle.tc_settle.specs.Closed.{IsCause}
use Rattle.tc_settle.specs.Settled.{IsWhole}
use Rattle.tc_settle.proofs.Exits.{no_ok, err_is}
use Rattle.tc_settle.proofs.settling.find.Goals as goal

-- no memory, or a cause that was told
pub returns-in_err-closed-clause-whole : goal.returns-in_err-closed-clause-whole
returns-in_err-closed-clause-whole g c = no_ok c.from_residual.result _ (λ d. IsWhole c.args.most (g.R.NumberedRows.held c.begin.new.rows) d) c.from_residual.ensures.1

pub returns-in_err-closed-clause-cause : goal.returns-in_err-closed-clause-cause
returns-in_err-closed-clause-cause g c =
    let rows = c.begin.new.rows in
    err_is c.from_residual.result _ (IsCause (g.R.NumberedRows.is_full rows) c.args.most (g.R.NumberedRows.held rows)) c.from_residual.ensures.1 c.in_err-closed.ensures.cause

pub returns-in_err-settle-clause-whole : goal.returns-in_err-settle-clause-whole
returns-in_err-settle-clause-whole g c = no_ok c.from_residual-in_err-settle.result _ (λ d. IsWhole c.args.most (g.R.NumberedRows.held c.settle.new.rows) d) c.from_residual-in_err-settle.ensures.1

pub returns-in_err-settle-clause-cause : goal.returns-in_err-settle-clause-cause
returns-in_err-settle-clause-cause g c =
    let rows = c.settle.new.rows in
    err_is c.from_residual-in_err-settle.result _ (IsCause (g.R.NumberedRows.is_full rows) c.args.most (g.R.NumberedRows.held rows)) c.from_residual-in_err-settle.ensures.1 c.in_err-settle.ensures.cause

pub settle-requires : goal.settle-requires
settle-requires g c = c.in_ok-closed.ensures.begun

pub returns-clause-whole : goal.returns-clause-whole
returns-clause-whole g c = c.in_ok-settle.ensures.whole
