use Rattle.tc_close.proofs.Agreeing.{triples_agree}
use Rattle.tc_close.proofs.Existing.{triples_are_there}
use Rattle.tc_close.proofs.laws.law_of_triples.Goals as goal

pub returns-clause-there : goal.returns-clause-there
returns-clause-there c = triples_are_there

pub returns-clause-agree : goal.returns-clause-agree
returns-clause-agree c = triples_agree
