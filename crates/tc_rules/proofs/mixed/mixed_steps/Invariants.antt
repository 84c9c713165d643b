use Rattle.std.proofs.Common.{◌≡◌, drop}
use Rattle.tc_model.specs.Views as see
use Rattle.tc_rules.specs.Mixed.{mixed_steps}
use Rattle.tc_rules.specs.Views.{predicates}
use Rattle.tc_rules.proofs.mixed.mixed_steps.Given as goal

abbrev pub invariant-loop-step : goal.invariant-loop-step
invariant-loop-step l =
    mixed_steps (predicates l.numbered) l.hash (see.steps (drop l.step-index l.steps)) ≡ mixed_steps (predicates l.numbered) l.start (see.steps l.steps)
