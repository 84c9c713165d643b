use Rattle.std.proofs.Common.{ℕ, List, Bor, ap, ◌∙◌, sym, map, length}
use Rattle.tc_dtd.specs.Declarations.{Declaration}
use Rattle.tc_dtd.specs.Numbers.{row_of}
use Rattle.tc_dtd.specs.Views as see
use Rattle.tc_dtd.proofs.BuiltLaws.{mapped_more}
use Rattle.std.proofs.lemmas.List.{length-map}
use Rattle.tc_graph.specs.Graph.{rows_of}
use Rattle.tc_dtd.proofs.links.put_links.Goals as goal

pub loop-decl-preserved : goal.loop-decl-preserved
loop-decl-preserved c =
    mapped_more (λ (r : Bor (List ℕ)). r.now) (λ (x : Declaration). row_of (see.names c.args.found.now.keys) x.content) see.declaration c.args.decls.now c.loop-decl.decl-index _ c.loop-decl.rows.items c.push.new.self.items c.in_ok-one.one
    c.loop-decl-test.true c.loop-decl.invariant c.in_ok-push.ensures.items c.in_ok-one.ensures

pub loop-decl-init : goal.loop-decl-init
loop-decl-init c = ap rows_of c.requires.none

pub row-requires : goal.row-requires
row-requires c = sym (ap length c.requires.found ∙ (length-map (map see.declaration c.args.decls.now) (λ (x : Declaration). x.name) ∙ length-map c.args.decls.now see.declaration))
