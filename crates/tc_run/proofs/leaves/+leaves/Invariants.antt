use Rattle.std.proofs.Common.{drop}
use Rattle.tc_model.specs.Views as see
use Rattle.tc_model.proofs.ViewsBody.{body_then}
use Rattle.tc_run.specs.Leaves.{AreAlike}
use Rattle.tc_run.proofs.leaves.+leaves.Given as goal

abbrev pub invariant-leaf_body-loop-one : goal.invariant-leaf_body-loop-one
invariant-leaf_body-loop-one l = AreAlike (see.body l.body) (body_then (see.body l.kept.items) (see.body (drop l.one-index l.body)))
