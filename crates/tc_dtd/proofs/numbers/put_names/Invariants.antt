use Rattle.std.proofs.Common.{◌≡◌, take, map}
use Rattle.tc_dtd.proofs.numbers.put_names.Given as goal

abbrev pub invariant-loop-decl : goal.invariant-loop-decl
invariant-loop-decl l = l.found.keys ≡ map (λ x. x.name) (take l.decl-index l.decls)
