use Rattle.tc_close.proofs.rooms.Rooms.new.Goals as goal

pub returns : goal.returns
returns c = λ x is. record {
  hedge = (c.in_ok-hedge.ensures x is).0;
  tree = (c.in_ok-hedge.ensures x is).1;
  new_hedge = (c.in_ok-new_hedge.ensures x is).0;
  new_tree = (c.in_ok-new_hedge.ensures x is).1;
}
