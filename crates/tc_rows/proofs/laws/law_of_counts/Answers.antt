use Rattle.tc_rows.proofs.Counting.{rows_are_counted}
use Rattle.tc_rows.proofs.laws.law_of_counts.Goals as goal

pub returns : goal.returns
returns c = rows_are_counted
