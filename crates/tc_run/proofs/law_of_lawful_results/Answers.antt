use Rattle.tc_run.proofs.Lawful.{lawful_results}
use Rattle.tc_run.proofs.law_of_lawful_results.Goals as goal

pub returns : goal.returns
returns c = lawful_results
