use Rattle.std.proofs.Common.{◌≡◌, ◌+◌, drop}
use Rattle.tc_dead.specs.Spots.{branches_of_all}
use Rattle.tc_dead.specs.Views.{bodies}
use Rattle.tc_dead.proofs.spots.branches_of_named.Given as goal

abbrev pub invariant-loop-body : goal.invariant-loop-body
invariant-loop-body l = l.count + branches_of_all (bodies (drop l.body-index l.named)) ≡ l.before + branches_of_all (bodies l.named)
