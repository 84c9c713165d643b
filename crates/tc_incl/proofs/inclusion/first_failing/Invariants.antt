use Rattle.tc_incl.specs.Covers.{held_of, PassBefore}
use Rattle.tc_incl.proofs.inclusion.first_failing.Given as goal

abbrev pub invariant-loop-tree : goal.invariant-loop-tree
invariant-loop-tree g l = PassBefore (held_of g.K.Over.is_of l.covers) l.tree
