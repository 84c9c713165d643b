use Rattle.std.proofs.Common.{◌≡◌}
use Rattle.tc_dtd.specs.Numbers.{numbers_below}
use Rattle.tc_dtd.proofs.links.all_below.Given as goal

abbrev pub invariant-loop-number : goal.invariant-loop-number
invariant-loop-number l = l.out.items ≡ numbers_below l.number
