use Rattle.tc_cert.proofs.FirstFaults.{written_is_read}
use Rattle.tc_cert.proofs.laws.law_of_writing.Goals as goal

pub returns : goal.returns
returns c = written_is_read
