use Rattle.std.proofs.Common.{arith}
use Rattle.std.proofs.lemmas.Grind.{common_steps}
use Rattle.tc_cert.proofs.Steps.{not_done}
use Rattle.tc_cert.proofs.text.Text.put.Goals as goal

pub returns-then-len-self-clause-cause : goal.returns-then-len-self-clause-cause
returns-then-len-self-clause-cause c = grind (arith, common_steps)

pub returns-in_err-extend_from_slice-clause-ok : goal.returns-in_err-extend_from_slice-clause-ok
returns-in_err-extend_from_slice-clause-ok c = not_done c.from_residual.result _ _ c.from_residual.ensures.1
