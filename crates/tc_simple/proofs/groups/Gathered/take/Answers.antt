use Rattle.std.proofs.Common.{sym}
use Rattle.std.proofs.lemmas.Option.{slice_get_within}
use Rattle.tc_simple.proofs.Gathering.{gathered_begin, gathered_grow}
use Rattle.tc_graph.proofs.Tops.{on_ok}
use Rattle.tc_simple.proofs.groups.Gathered.take.Goals as goal

pub grow-requires : goal.grow-requires
grow-requires c =
    let (g, at, name, is) = c.requires.1.present c.args.def.now.name.now c.in-Some.number (sym c.in-Some.ensures) in
    slice_get_within c.args.self.now.groups.items c.in-Some.number g at

pub returns-in-None : goal.returns-in-None
returns-in-None c = on_ok c.begin.result (λ b front h. gathered_begin h (sym c.in-None.ensures) b) c.begin.ensures

pub returns-in-Some : goal.returns-in-Some
returns-in-Some c = on_ok c.grow.result (λ b front h. gathered_grow h (sym c.in-Some.ensures) b) c.grow.ensures
