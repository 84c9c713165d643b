use Rattle.std.proofs.Common.{take}
use Rattle.tc_auto.specs.Repeats.{Gains, LeadsFromSome}
use Rattle.tc_auto.proofs.repeats.push_from_all.Given as goal

abbrev pub invariant-loop-state : goal.invariant-loop-state
invariant-loop-state l = Gains l.initial.steps.items l.steps.items (LeadsFromSome (take l.state-index l.states) l.firsts)
