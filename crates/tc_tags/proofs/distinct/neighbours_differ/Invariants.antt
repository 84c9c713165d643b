use Rattle.std.proofs.Common.{drop}
use Rattle.tc_tags.specs.Pairs.{AreApart}
use Rattle.tc_tags.proofs.distinct.neighbours_differ.Given as goal

abbrev pub invariant-loop-at : goal.invariant-loop-at
invariant-loop-at l = record { forth : AreApart (drop l.at l.names) → AreApart l.names; back : AreApart l.names → AreApart (drop l.at l.names) }
