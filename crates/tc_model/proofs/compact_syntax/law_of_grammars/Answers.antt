use Rattle.tc_model.proofs.SimplifiesLawful.{lawful_grammar}
use Rattle.tc_model.proofs.SimplifiesUnique.{one_grammar, one_rnc_meaning, lawful_start}
use Rattle.tc_model.proofs.SimplifiesFaults.{one_fault, no_grammar}
use Rattle.tc_model.proofs.compact_syntax.law_of_grammars.Goals as goal

pub returns-clause-one_grammar : goal.returns-clause-one_grammar
returns-clause-one_grammar c = one_grammar

pub returns-clause-one_rnc_text : goal.returns-clause-one_rnc_text
returns-clause-one_rnc_text c = one_rnc_meaning

pub returns-clause-lawful_start : goal.returns-clause-lawful_start
returns-clause-lawful_start c = lawful_start

pub returns-clause-lawful_grammar : goal.returns-clause-lawful_grammar
returns-clause-lawful_grammar c = lawful_grammar

pub returns-clause-one_fault : goal.returns-clause-one_fault
returns-clause-one_fault c = one_fault

pub returns-clause-no_grammar : goal.returns-clause-no_grammar
returns-clause-no_grammar c = no_grammar
