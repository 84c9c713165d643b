use Rattle.std.proofs.Common.{drop}
use Rattle.tc_model.specs.Events as ev
use Rattle.tc_model.specs.Views as see
use Rattle.tc_steps.specs.Judged.{Takes}
use Rattle.tc_steps.specs.declared.judge.Judge.{Judge}
use Rattle.tc_steps.proofs.trees.+taking.Given as goal

-- what takes the trees that are left from here on, takes all of them from the beginning on
abbrev pub invariant-take_trees-loop-tree : goal.invariant-take_trees-loop-tree
invariant-take_trees-loop-tree l =
    (new : Judge) → ev.Takes Takes l.judge (ev.events (see.trees (drop l.tree-index l.trees))) new → ev.Takes Takes l.fn.judge (ev.events (see.trees l.trees)) new
