use Rattle.tc_close.proofs.HandedOn.{no_value}
use Rattle.tc_close.proofs.certificate.tree_bytes.Goals as goal

pub returns-in_err-line-clause-line : goal.returns-in_err-line-clause-line
returns-in_err-line-clause-line g c = no_value c.from_residual.result _ _ c.from_residual.ensures.1
