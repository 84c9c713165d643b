use Rattle.std.proofs.Common.{◌≡◌, drop}
use Rattle.tc_model.specs.Views as see
use Rattle.tc_rules.specs.Mixed.{mixed_path}
use Rattle.tc_rules.specs.Views.{predicates}
use Rattle.tc_rules.proofs.mixed.mixed_path.Given as goal

abbrev pub invariant-loop-steps : goal.invariant-loop-steps
invariant-loop-steps l =
    mixed_path (predicates l.numbered) l.hash (see.alternatives (drop l.steps-index l.path)) ≡ mixed_path (predicates l.numbered) l.start (see.alternatives l.path)
