use Rattle.std.proofs.Common.{drop}
use Rattle.std.specs.List.{AllByRecursion}
use Rattle.tc_tags.specs.Listed.{HasNoPrefix}
use Rattle.tc_tags.proofs.attributes.have_no_prefix.Given as goal

abbrev pub invariant-loop-attribute : goal.invariant-loop-attribute
invariant-loop-attribute l = AllByRecursion HasNoPrefix (drop l.attribute-index l.list) → AllByRecursion HasNoPrefix l.list
