use Rattle.tc_xml.proofs.tags.declared.Goals as goal

pub returns : goal.returns
returns c = c.declared_by.ensures
