use Rattle.tc_close.proofs.rooms.pair.Goals as goal

pub returns : goal.returns
returns c = λ x is. (c.in_ok-hedge.ensures x is, c.in_ok-tree.ensures x is)
