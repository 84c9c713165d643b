use Rattle.std.proofs.Common.{◌≡◌, map, take}
use Rattle.tc_dtd.specs.Views as see
use Rattle.tc_dtd.proofs.schema.local_names.Given as goal

abbrev pub invariant-loop-decl : goal.invariant-loop-decl
invariant-loop-decl l = see.names l.out.items ≡ map (λ x. x.name) (map see.declaration (take l.decl-index l.decls))
