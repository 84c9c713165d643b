use Rattle.tc_rnc.proofs.RefusalLaws.{map_ok}
use Rattle.tc_simple.proofs.Answered.{failed_ok}
use Rattle.tc_simple.proofs.simplify.Goals as goal

pub returns-in_err-table-clause-grammar : goal.returns-in_err-table-clause-grammar
returns-in_err-table-clause-grammar c = failed_ok c.from_residual.result _ _ c.from_residual.ensures.1

pub returns-in_err-table-clause-within : goal.returns-in_err-table-clause-within
returns-in_err-table-clause-within c = failed_ok c.from_residual.result _ _ c.from_residual.ensures.1

pub of_table-requires-clause-lawful : goal.of_table-requires-clause-lawful
of_table-requires-clause-lawful c = c.requires

pub of_table-requires-clause-table : goal.of_table-requires-clause-table
of_table-requires-clause-table c = c.in_ok-table.ensures

pub returns-clause-err : goal.returns-clause-err
returns-clause-err c = c.of_table.ensures.err

pub returns-clause-grammar : goal.returns-clause-grammar
returns-clause-grammar c = map_ok _ _ c.of_table.result (λ g h. h.simplifies) c.of_table.ensures.grammar

pub returns-clause-within : goal.returns-clause-within
returns-clause-within c = map_ok _ _ c.of_table.result (λ g h. h.within) c.of_table.ensures.grammar
