use Rattle.std.proofs.Common.{◌<◌, arith}
use Rattle.tc_settle.proofs.FirstFailing.{same_twice, passes_more, first_fails}
use Rattle.tc_settle.proofs.Going.{grows_nothing}
use Rattle.tc_settle.proofs.failing.first_failing.Goals as goal

pub loop-tree-init : goal.loop-tree-init
loop-tree-init g c =
    let s = g.R.NumberedRows.held c.args.rows.now in
    record { same = (grows_nothing s, grows_nothing s); pass = λ t l. absurd (omega (arith, l)) }

pub loop-tree-preserved : goal.loop-tree-preserved
loop-tree-preserved g c =
    let s = g.R.NumberedRows.held c.args.rows.now in
    let r = g.R.NumberedRows.held c.loop-tree.rows in
    let q = g.R.NumberedRows.held c.is_failing.new.self in
    let same = same_twice s r q c.loop-tree.invariant.same c.is_failing.ensures.same in
    let low : c.loop-tree.tree < s.trees = omega (arith, c.loop-tree-test.true, c.tree_count-tree-end.ensures, c.requires.closure.kept.tree_count) in
    record { same = same; pass = passes_more s r c.loop-tree.tree c.loop-tree.invariant.same low c.is_failing.result c.if-is_failing.false c.is_failing.ensures.fails c.loop-tree.invariant.pass }

pub returns-then-is_failing-clause-first : goal.returns-then-is_failing-clause-first
returns-then-is_failing-clause-first g c =
    let s = g.R.NumberedRows.held c.args.rows.now in
    let r = g.R.NumberedRows.held c.loop-tree.rows in
    let low : c.loop-tree.tree < s.trees = omega (arith, c.loop-tree-test.true, c.tree_count-tree-end.ensures, c.requires.closure.kept.tree_count) in
    first_fails s r c.args.closed.now c.loop-tree.tree c.requires.closure c.loop-tree.invariant.same low c.is_failing.result c.if-is_failing.true c.is_failing.ensures.fails c.loop-tree.invariant.pass

pub returns-then-is_failing-clause-same : goal.returns-then-is_failing-clause-same
returns-then-is_failing-clause-same g c =
    same_twice (g.R.NumberedRows.held c.args.rows.now) (g.R.NumberedRows.held c.loop-tree.rows) (g.R.NumberedRows.held c.is_failing.new.self) c.loop-tree.invariant.same c.is_failing.ensures.same

pub returns-clause-first : goal.returns-clause-first
returns-clause-first g c = λ t l. c.loop-tree.invariant.pass t (omega (arith, l, c.loop-tree-test.false, c.tree_count-tree-end.ensures, c.requires.closure.kept.tree_count))

pub returns-clause-same : goal.returns-clause-same
returns-clause-same g c = c.loop-tree.invariant.same
