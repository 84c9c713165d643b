use Rattle.std.proofs.Common.{take}
use Rattle.tc_model.specs.Grammars as g
use Rattle.tc_model.specs.Views.{patterns}
use Rattle.tc_model.specs.States.{automaton}
use Rattle.tc_auto.specs.Steps.{Shows}
use Rattle.tc_auto.proofs.build.+build.Given as goal

abbrev pub invariant-choice_of-loop-member : goal.invariant-choice_of-loop-member
invariant-choice_of-loop-member l = Shows l.whole (automaton (g.choice (patterns (take l.member-index l.members))))

abbrev pub invariant-group_of-loop-member : goal.invariant-group_of-loop-member
invariant-group_of-loop-member l = Shows l.whole (automaton (g.group (patterns (take l.member-index l.members))))

abbrev pub invariant-interleave_of-loop-member : goal.invariant-interleave_of-loop-member
invariant-interleave_of-loop-member l = Shows l.whole (automaton (g.interleave (patterns (take l.member-index l.members))))
