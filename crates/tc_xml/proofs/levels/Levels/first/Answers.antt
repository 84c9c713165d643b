use Rattle.tc_xml.proofs.levels.Levels.first.Goals as goal

pub returns-clause-right : goal.returns-clause-right
returns-clause-right c = c.in_ok-spelled.ensures _
