use Rattle.std.proofs.Common.{◌≡◌, length}
use Rattle.tc_incl.specs.Stepped.{AreStepped}
use Rattle.tc_incl.proofs.covers.step_to.Given as goal

abbrev pub invariant-loop-place : goal.invariant-loop-place
invariant-loop-place l = AreStepped l.both l.hedges l.steps.items × (l.place ≡ length l.steps.items)
