use Rattle.std.proofs.Common.{◌≡◌, ◌++◌, drop, map}
use Rattle.tc_dtd.specs.Numbers.{marked_from}
use Rattle.tc_dtd.specs.Views as see
use Rattle.tc_dtd.proofs.links.marked.Given as goal

abbrev pub invariant-loop-number : goal.invariant-loop-number
invariant-loop-number l =
    map see.declaration l.out.items ++ marked_from l.number l.marks (map see.declaration (drop l.number l.decls)) ≡ marked_from 0 l.marks (map see.declaration l.decls)
