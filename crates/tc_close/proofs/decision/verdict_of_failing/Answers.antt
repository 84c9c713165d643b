use Rattle.std.proofs.Common.{◌≡◌, List, Err, subst, ap, arith}
use Rattle.tc_model.specs.Symbols.{Mention, symbol_count}
use Rattle.tc_model.specs.Trees.{none}
use Rattle.tc_model.specs.Views.{before}
use Rattle.tc_settle.specs.Closed.{tree_cost}
use Rattle.tc_settle.specs.Made.{IsOneMade}
use Rattle.tc_settle.specs.declared.building.BuildFault.TheVariants as build_fault
use Rattle.tc_close.specs.RowState.{held_of}
use Rattle.tc_close.proofs.Verdicts.{unsafe_by, far_unsafe}
use Rattle.tc_close.proofs.decision.verdict_of_failing.Goals as goal

pub build-requires-clause-closure : goal.build-requires-clause-closure
build-requires-clause-closure g c = c.requires.closure

pub build-requires-clause-symbols : goal.build-requires-clause-symbols
build-requires-clause-symbols g c =
    let known = c.output_count-outputs.ensures.known in
    let (x, o) = known.some in
    let e = known.symbols x o in
    let f = ap symbol_count (c.requires.triples x o).0 in
    omega (arith, e, f)

pub build-requires-clause-tree : goal.build-requires-clause-tree
build-requires-clause-tree g c = c.requires.first.held

pub returns-in-Ok : goal.returns-in-Ok
returns-in-Ok g c = λ x o.
    let of = g.K.Over.is_of in
    let s = c.args.rows.now in
    let closed = c.args.closed.now in
    let tree = c.args.tree in
    unsafe_by x s of o c.output_count-outputs.ensures.known closed c.requires.closure c.args.most (c.requires.triples x o).1 tree c.requires.first.held c.requires.first.fails c.requires.first.passed (before c.in-Ok.node none)
    (subst (λ (symbols : List Mention). IsOneMade (held_of of s) symbols (before c.in-Ok.node none) tree (tree_cost closed tree)) (c.requires.triples x o).0 c.in-Ok.ensures.made) c.in-Ok.ensures.near

pub returns-in-Err-TooManyNodes : goal.returns-in-Err-TooManyNodes
returns-in-Err-TooManyNodes g c = λ x o.
    let e : c.build.result ≡ Err build_fault.TooManyNodes = cc in
    far_unsafe x c.args.rows.now g.K.Over.is_of o c.output_count-outputs.ensures.known c.args.closed.now c.requires.closure c.args.most (c.requires.triples x o).1 c.args.tree c.requires.first.held c.requires.first.fails c.requires.first.passed (c.build.ensures.many e)
