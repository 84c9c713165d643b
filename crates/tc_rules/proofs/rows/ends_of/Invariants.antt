use Rattle.std.proofs.Common.{◌≡◌, ◌++◌, drop}
use Rattle.tc_rules.specs.Words as w
use Rattle.tc_model.specs.Views as see
use Rattle.tc_rules.proofs.rows.ends_of.Given as goal

abbrev pub invariant-loop-steps : goal.invariant-loop-steps
invariant-loop-steps l = w.ends_of 0 (see.alternatives l.path) ≡ l.ends.items ++ w.ends_of l.end (see.alternatives (drop l.steps-index l.path))
