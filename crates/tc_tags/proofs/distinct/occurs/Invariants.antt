use Rattle.std.proofs.Common.{drop}
use Rattle.std.specs.List.{AllByRecursion}
use Rattle.tc_tags.specs.Pairs.{Differs}
use Rattle.tc_tags.proofs.distinct.occurs.Given as goal

abbrev pub invariant-loop-other : goal.invariant-loop-other
invariant-loop-other l = record { forth : AllByRecursion (Differs l.name) (drop l.other-index l.names) → AllByRecursion (Differs l.name) l.names; back : AllByRecursion (Differs l.name) l.names → AllByRecursion (Differs l.name) (drop l.other-index l.names) }
