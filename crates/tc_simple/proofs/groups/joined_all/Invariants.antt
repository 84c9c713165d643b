use Rattle.std.proofs.Common.{◌≡◌, map, take}
use Rattle.tc_rnc.specs.Views.{pattern}
use Rattle.tc_simple.specs.Tables.{joined_of}
use Rattle.tc_simple.proofs.groups.joined_all.Given as goal

abbrev pub invariant-loop-group : goal.invariant-loop-group
invariant-loop-group l = map pattern l.patterns.items ≡ map (λ g. joined_of g.is_choice g.bodies.items) (take l.group-index l.groups)
