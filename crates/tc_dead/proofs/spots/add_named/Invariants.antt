use Rattle.std.proofs.Common.{◌≡◌, ◌++◌, map}
use Rattle.tc_dead.specs.Spots.{a_named_body, up_to}
use Rattle.tc_dead.specs.Views.{seen}
use Rattle.tc_dead.proofs.spots.add_named.Given as goal

abbrev pub invariant-loop-before : goal.invariant-loop-before
invariant-loop-before l = map seen l.spots.items ≡ map seen l.initial.spots.items ++ map a_named_body (up_to l.before)
