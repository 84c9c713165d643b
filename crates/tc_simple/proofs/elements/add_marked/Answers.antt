use Rattle.tc_simple.proofs.elements.add_marked.Goals as goal

pub is_marked-requires : goal.is_marked-requires
is_marked-requires c = c.requires
