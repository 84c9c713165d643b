use Rattle.std.proofs.Common.{take}
use Rattle.tc_auto.specs.Repeats.{Gains, LeadsFrom}
use Rattle.tc_auto.proofs.repeats.push_from.Given as goal

abbrev pub invariant-loop-place : goal.invariant-loop-place
invariant-loop-place l = Gains l.initial.steps.items l.steps.items (LeadsFrom l.from (take l.place l.firsts))
