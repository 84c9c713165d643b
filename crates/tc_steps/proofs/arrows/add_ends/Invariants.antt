use Rattle.std.proofs.Common.{◌≡◌, take}
use Rattle.tc_steps.proofs.Found.{IsEnded}
use Rattle.tc_steps.proofs.arrows.add_ends.Given as goal

abbrev pub invariant-loop-arrow : goal.invariant-loop-arrow
invariant-loop-arrow l = (l.ends.size ≡ l.initial.ends.size) × IsEnded l.arrows l.states l.initial.ends (take l.arrow-index l.arrows) l.ends
