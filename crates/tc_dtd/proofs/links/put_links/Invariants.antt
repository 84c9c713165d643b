use Rattle.std.proofs.Common.{◌≡◌, take, map}
use Rattle.tc_graph.specs.Graph.{rows_of}
use Rattle.tc_dtd.specs.Numbers.{row_of}
use Rattle.tc_dtd.specs.Views as see
use Rattle.tc_dtd.proofs.links.put_links.Given as goal

abbrev pub invariant-loop-decl : goal.invariant-loop-decl
invariant-loop-decl l = rows_of l.rows.items ≡ map (λ x. row_of (see.names l.found.keys) x.content) (map see.declaration (take l.decl-index l.decls))
