use Rattle.tc_cert.proofs.FirstFaults.{one_data}
use Rattle.tc_cert.proofs.laws.law_of_texts.Goals as goal

pub returns : goal.returns
returns c = one_data
