use Rattle.tc_decide.proofs.SchemaTextLaws.{grammar_or_reason, no_grammar}
use Rattle.tc_decide.proofs.laws.law_of_schema_texts.Goals as goal

pub returns-clause-some : goal.returns-clause-some
returns-clause-some c = grammar_or_reason

pub returns-clause-none : goal.returns-clause-none
returns-clause-none c = no_grammar
