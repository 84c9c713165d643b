use Rattle.tc_cert.proofs.Steps.{no_value}
use Rattle.tc_cert.proofs.reading.numbers_of.Goals as goal

pub returns-in_err-push : goal.returns-in_err-push
returns-in_err-push c = no_value c.from_residual.result _ _ c.from_residual.ensures.1
