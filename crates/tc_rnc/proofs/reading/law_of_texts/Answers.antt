use Rattle.tc_rnc.proofs.DecidingTexts.{read_or_refused}
use Rattle.tc_rnc.proofs.reading.law_of_texts.Goals as goal

pub returns : goal.returns
returns c = read_or_refused
