use Rattle.tc_dtd.proofs.contents.list_of.Goals as goal

pub returns : goal.returns
returns c = c.in_ok-all.ensures.items
