use Rattle.std.proofs.Common.{Bool, List, sym, subst}
use Rattle.tc_rnc.specs.Views.{syntax}
use Rattle.tc_simple.specs.Resolves.{Resolves}
use Rattle.tc_simple.proofs.Answered.{failed_ok}
use Rattle.tc_simple.proofs.Checked.{start_within}
use Rattle.tc_simple.proofs.of_table.Goals as goal

pub mark-requires-clause-start : goal.mark-requires-clause-start
mark-requires-clause-start c = start_within (syntax c.args.syntax.now) c.args.table.now c.in_ok-start.start c.requires.table c.in_ok-start.ensures.start

pub mark-requires-clause-table : goal.mark-requires-clause-table
mark-requires-clause-table c = (syntax c.args.syntax.now, c.requires.table)

pub walk-requires : goal.walk-requires
walk-requires c = (syntax c.args.syntax.now, c.requires.table)

pub defined_start-requires : goal.defined_start-requires
defined_start-requires c = c.requires.table

pub returns-in_err-start-clause-grammar : goal.returns-in_err-start-clause-grammar
returns-in_err-start-clause-grammar c = failed_ok c.from_residual.result _ _ c.from_residual.ensures.1

pub returns-in_err-marks-clause-grammar : goal.returns-in_err-marks-clause-grammar
returns-in_err-marks-clause-grammar c = failed_ok c.from_residual-in_err-marks.result _ _ c.from_residual-in_err-marks.ensures.1

pub returns-in_err-walked-clause-grammar : goal.returns-in_err-walked-clause-grammar
returns-in_err-walked-clause-grammar c = failed_ok c.from_residual-in_err-walked.result _ _ c.from_residual-in_err-walked.ensures.1

pub returns-clause-grammar : goal.returns-clause-grammar
returns-clause-grammar c = c.resolved.ensures.grammar

pub returns-clause-err : goal.returns-clause-err
returns-clause-err c = c.resolved.ensures.err

pub resolved-requires : goal.resolved-requires
resolved-requires c =
    let w = c.in_ok-walked.walked in
    record {
      lawful = c.requires.lawful;
      names = c.in_ok-start.ensures.names;
      resolves = subst (λ (m : List Bool). Resolves (syntax c.args.syntax.now) c.args.table.now c.in_ok-start.start m w.states.items w.order.items) (sym c.deref.ensures.value)
          (record { table = c.requires.table; begins = c.in_ok-start.ensures.start; reach = c.in_ok-marks.ensures; components = c.in_ok-walked.ensures });
    }
