use Rattle.std.proofs.Common.{sym, arith, length, map}
use Rattle.std.proofs.lemmas.List.{length-map}
use Rattle.tc_dtd.specs.Views.{declaration}
use Rattle.tc_dtd.proofs.SizeLaws.{passes_nodes, passes_depth, passes_elements, within_counts}
use Rattle.tc_dtd.proofs.schema.check_limits.Goals as goal

pub returns-then-size-from-clause-err : goal.returns-then-size-from-clause-err
returns-then-size-from-clause-err c =
    let ds = c.args.decls.now in
    passes_nodes (map declaration ds) (length ds) c.total-size.result (sym (length-map ds declaration)) c.total-size.ensures (omega (arith, c.if-size-from.true, c.from.ensures))

pub returns-then-size-from-2-clause-err : goal.returns-then-size-from-2-clause-err
returns-then-size-from-2-clause-err c =
    let ds = c.args.decls.now in
    passes_depth (map declaration ds) (length ds) c.total-size.result (sym (length-map ds declaration)) c.total-size.ensures (omega (arith, c.if-size-from.false, c.from.ensures))
    (omega (arith, c.if-size-from-2.true, c.from-2.ensures))

pub returns-then-decls-clause-err : goal.returns-then-decls-clause-err
returns-then-decls-clause-err c =
    let ds = c.args.decls.now in
    passes_elements (map declaration ds) (length ds) c.total-size.result (sym (length-map ds declaration)) c.total-size.ensures (omega (arith, c.if-size-from.false, c.from.ensures))
    (omega (arith, c.if-size-from-2.false, c.from-2.ensures)) c.if-decls.true

pub returns-clause-ok : goal.returns-clause-ok
returns-clause-ok c =
    let ds = c.args.decls.now in
    within_counts (map declaration ds) (length ds) c.total-size.result (sym (length-map ds declaration)) c.total-size.ensures (omega (arith, c.if-size-from.false, c.from.ensures))
    (omega (arith, c.if-size-from-2.false, c.from-2.ensures)) c.if-decls.false
