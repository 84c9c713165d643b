use Rattle.tc_beh.proofs.Lining.{lines_are_one}
use Rattle.tc_beh.proofs.laws.law_of_lines.Goals as goal

pub returns : goal.returns
returns c = lines_are_one
