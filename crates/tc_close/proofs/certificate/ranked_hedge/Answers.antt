use Rattle.tc_close.proofs.HandedOn.{no_value}
use Rattle.tc_close.proofs.certificate.ranked_hedge.Goals as goal

pub returns-in_err-line-clause-line : goal.returns-in_err-line-clause-line
returns-in_err-line-clause-line g c = no_value c.from_residual.result _ _ c.from_residual.ensures.1

pub returns-in_err-outs-clause-line : goal.returns-in_err-outs-clause-line
returns-in_err-outs-clause-line g c = no_value c.from_residual-in_err-outs.result _ _ c.from_residual-in_err-outs.ensures.1
