use Rattle.std.proofs.Common.{◌≡◌, ◌-◌, ◌^◌, take, min}
use Rattle.tc_model.specs.Grammars as g
use Rattle.tc_model.specs.Views.{patterns}
use Rattle.tc_model.specs.States.{automaton}
use Rattle.tc_auto.proofs.count.+count.Given as goal

abbrev pub invariant-count_of_product-loop-member : goal.invariant-count_of_product-loop-member
invariant-count_of_product-loop-member l = l.count ≡ min (automaton (g.interleave (patterns (take l.member-index l.members)))).count (2 ^ 64 - 1)

abbrev pub invariant-count_of_sum-loop-member : goal.invariant-count_of_sum-loop-member
invariant-count_of_sum-loop-member l = l.count ≡ min (automaton (g.group (patterns (take l.member-index l.members)))).count (2 ^ 64 - 1)
