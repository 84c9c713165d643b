use Rattle.tc_stream.proofs.FaultsOnce.{texts_pass_nothing_good}
use Rattle.tc_stream.proofs.MeasureLaws.{good_texts_pass_nothing}
use Rattle.tc_stream.proofs.laws.law_of_measures.Goals as goal

pub returns-clause-none : goal.returns-clause-none
returns-clause-none c = good_texts_pass_nothing

pub returns-clause-good : goal.returns-clause-good
returns-clause-good c = texts_pass_nothing_good
