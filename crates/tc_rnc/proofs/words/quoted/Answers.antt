use Rattle.tc_scan.proofs.NamesLaws.{at_none}
use Rattle.tc_rnc.proofs.words.quoted.Goals as goal

pub returns-in_err-value : goal.returns-in_err-value
returns-in_err-value c = at_none _ c.from_residual.ensures (λ value after a h. c.in_err-value.ensures value after a)
