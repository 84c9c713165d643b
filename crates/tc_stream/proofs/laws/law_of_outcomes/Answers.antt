use Rattle.tc_stream.proofs.FaultsOnce.{comes_once}
use Rattle.tc_stream.proofs.OutcomeLaws.{comes_by_items}
use Rattle.tc_stream.proofs.laws.law_of_outcomes.Goals as goal

pub returns-clause-items : goal.returns-clause-items
returns-clause-items c = comes_by_items

pub returns-clause-one : goal.returns-clause-one
returns-clause-one c = comes_once
