use Rattle.std.proofs.Common.{drop}
use Rattle.std.specs.List.{IsDistinct}
use Rattle.tc_tags.specs.Pairs.{same_pair}
use Rattle.tc_tags.proofs.distinct.few_differ.Given as goal

abbrev pub invariant-loop-at : goal.invariant-loop-at
invariant-loop-at l = record { forth : IsDistinct same_pair (drop l.at l.names) → IsDistinct same_pair l.names; back : IsDistinct same_pair l.names → IsDistinct same_pair (drop l.at l.names) }
