use Rattle.std.proofs.Common.{◌≡◌, map, take}
use Rattle.tc_model.specs.Views as seen
use Rattle.tc_dtd.specs.Built as built
use Rattle.tc_dtd.specs.Views as see
use Rattle.tc_dtd.proofs.patterns.element_patterns.Given as goal

abbrev pub invariant-loop-decl : goal.invariant-loop-decl
invariant-loop-decl l = map seen.element_pattern l.out.items ≡ map (built.element_pattern (see.names l.found.keys)) (map see.declaration (take l.decl-index l.decls))
