use Rattle.tc_simple.proofs.Answered.{failed_ok}
use Rattle.tc_simple.proofs.grammar.element_pattern.Goals as goal

pub returns-in_err-names : goal.returns-in_err-names
returns-in_err-names c = failed_ok c.from_residual.result _ _ c.from_residual.ensures.1

pub returns-in_err-content : goal.returns-in_err-content
returns-in_err-content c = failed_ok c.from_residual-in_err-content.result _ _ c.from_residual-in_err-content.ensures.1

pub pattern-requires-clause-few : goal.pattern-requires-clause-few
pattern-requires-clause-few c = c.requires.few

pub pattern-requires-clause-numbers : goal.pattern-requires-clause-numbers
pattern-requires-clause-numbers c = c.requires.numbers
