use Rattle.tc_incl.proofs.AllLaws.{rows_are_lawful}
use Rattle.tc_incl.proofs.laws.law_of_rows.Goals as goal

pub returns : goal.returns
returns c = rows_are_lawful
