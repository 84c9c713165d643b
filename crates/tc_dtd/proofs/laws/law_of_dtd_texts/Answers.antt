use Rattle.tc_dtd.proofs.FaultLaws.{one_dtd, lawful, one_refusal, no_dtd}
use Rattle.tc_dtd.proofs.OneFault.{one_fault, one_grammar}
use Rattle.tc_dtd.proofs.DecidingTexts.{dtd_or_fault}
use Rattle.tc_dtd.proofs.DecidingGrammars.{grammar_or_fault}
use Rattle.tc_dtd.proofs.laws.law_of_dtd_texts.Goals as goal

pub returns-clause-meaning : goal.returns-clause-meaning
returns-clause-meaning c = one_dtd

pub returns-clause-lawful : goal.returns-clause-lawful
returns-clause-lawful c = lawful

pub returns-clause-refusal : goal.returns-clause-refusal
returns-clause-refusal c = one_refusal

pub returns-clause-refused : goal.returns-clause-refused
returns-clause-refused c = no_dtd

pub returns-clause-fault : goal.returns-clause-fault
returns-clause-fault c = one_fault

pub returns-clause-grammar : goal.returns-clause-grammar
returns-clause-grammar c = one_grammar

pub returns-clause-some : goal.returns-clause-some
returns-clause-some c = dtd_or_fault

pub returns-clause-root : goal.returns-clause-root
returns-clause-root c = grammar_or_fault
