use Rattle.tc_close.proofs.kinds.Kinds.new.Goals as goal

pub returns : goal.returns
returns c = record {
  of_hedges = c.new-3.ensures.of;
  states_are = c.new-3.ensures.flags;
  of_trees = c.new-4.ensures.of;
  patterns_are = c.new-4.ensures.flags;
  of_cores = c.new-5.ensures.of;
  core_is = c.new-5.ensures.flags;
  no_append = λ i j at. c.in_ok-appends.ensures i j at.0 at.1;
  no_wrap = λ a i at. c.in_ok-wraps.ensures a i at.0 at.1;
}
