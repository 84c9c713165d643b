use Rattle.tc_top.proofs.CertifiedExact.{proved_is_accepted}
use Rattle.tc_top.proofs.laws.law_of_proofs.Goals as goal

pub returns : goal.returns
returns c = proved_is_accepted
