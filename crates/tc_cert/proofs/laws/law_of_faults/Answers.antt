use Rattle.tc_cert.proofs.Fronts.{one_fault, no_fault}
use Rattle.tc_cert.proofs.laws.law_of_faults.Goals as goal

pub returns : goal.returns
returns c = record { one = one_fault; none = no_fault }
