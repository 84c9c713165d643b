use Rattle.std.proofs.Common.{◌≡◌, drop, map, length}
use Rattle.tc_dtd.specs.Views as see
use Rattle.tc_dtd.specs.Sizes.{leaf, total_from}
use Rattle.tc_dtd.proofs.sizes.total.Given as goal

abbrev pub invariant-loop-decl : goal.invariant-loop-decl
invariant-loop-decl l = total_from (length l.decls) l.all (map see.declaration (drop l.decl-index l.decls)) ≡ total_from (length l.decls) leaf (map see.declaration l.decls)
