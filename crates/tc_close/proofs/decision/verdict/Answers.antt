use Rattle.std.proofs.Common.{sym}
use Rattle.tc_close.specs.RowState.{held_of}
use Rattle.tc_close.proofs.Carried.{closure_on}
use Rattle.tc_close.proofs.Verdicts.{keeps, safe_with, first_on}
use Rattle.tc_close.proofs.decision.verdict.Goals as goal

pub verdict_of_failing-requires-clause-closure : goal.verdict_of_failing-requires-clause-closure
verdict_of_failing-requires-clause-closure g c = closure_on (held_of g.K.Over.is_of c.args.rows.now) (held_of g.K.Over.is_of c.first_failing.new.rows) c.args.closed.now c.first_failing.ensures.same c.requires.settled.closure

pub verdict_of_failing-requires-clause-triples : goal.verdict_of_failing-requires-clause-triples
verdict_of_failing-requires-clause-triples g c = λ x o.
    let settled = c.requires.settled in (
      c.requires.alphabet x o,
      keeps x c.args.rows.now g.K.Over.is_of o c.output_count.ensures.known c.args.closed.now settled.closure c.args.most (sym c.if-not-is_whole.ensures) settled.trees settled.hedges,
    )

pub verdict_of_failing-requires-clause-first : goal.verdict_of_failing-requires-clause-first
verdict_of_failing-requires-clause-first g c =
    first_on (held_of g.K.Over.is_of c.args.rows.now) (held_of g.K.Over.is_of c.first_failing.new.rows) c.args.closed.now c.in-Some.tree c.first_failing.ensures.same c.in-Some.ensures.first

pub returns-in_default-clause-decision : goal.returns-in_default-clause-decision
returns-in_default-clause-decision g c = λ x o.
    safe_with x c.args.rows.now g.K.Over.is_of o c.output_count.ensures.known c.args.closed.now c.requires.settled.closure c.args.most (sym c.if-not-is_whole.ensures) c.requires.settled.trees c.requires.settled.hedges
    (record { trees = c.tree_count.result; hedges = c.hedge_count.result; outputs = c.output_count.result }) c.tree_count.ensures c.hedge_count.ensures c.output_count.ensures.count c.in_default.ensures.first

pub returns-in_default-clause-same : goal.returns-in_default-clause-same
returns-in_default-clause-same g c = c.first_failing.ensures.same

pub returns-clause-decision : goal.returns-clause-decision
returns-clause-decision g c = c.verdict_of_failing.ensures

pub returns-clause-same : goal.returns-clause-same
returns-clause-same g c = c.first_failing.ensures.same
