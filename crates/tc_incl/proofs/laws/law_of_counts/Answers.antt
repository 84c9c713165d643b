use Rattle.tc_incl.proofs.Counting.{covers_are_counted}
use Rattle.tc_incl.proofs.laws.law_of_counts.Goals as goal

pub returns : goal.returns
returns c = covers_are_counted
