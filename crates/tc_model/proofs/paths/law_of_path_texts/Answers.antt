use Rattle.tc_model.proofs.PathTextUnique.{select_text_unique, attributes_text_select, value_text_unique, pattern_text_unique, test_text_unique, priority_text_unique}
use Rattle.tc_model.proofs.paths.law_of_path_texts.Goals as goal

pub returns-clause-select : goal.returns-clause-select
returns-clause-select c = λ scope text p q a b. select_text_unique a b

pub returns-clause-attributes : goal.returns-clause-attributes
returns-clause-attributes c = λ scope text a. attributes_text_select a

pub returns-clause-value : goal.returns-clause-value
returns-clause-value c = λ scope text p q a b. value_text_unique a b

pub returns-clause-pattern : goal.returns-clause-pattern
returns-clause-pattern c = λ scope text p q a b. pattern_text_unique a b

pub returns-clause-test : goal.returns-clause-test
returns-clause-test c = λ scope text p q a b. test_text_unique a b

pub returns-clause-priority : goal.returns-clause-priority
returns-clause-priority c = λ text p q a b. priority_text_unique a b
