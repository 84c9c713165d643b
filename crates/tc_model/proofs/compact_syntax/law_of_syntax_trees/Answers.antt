use Rattle.tc_model.proofs.SimplifiesLawful.{lawful_syntax}
use Rattle.tc_model.proofs.SimplifiesUnique.{one_syntax}
use Rattle.tc_model.proofs.compact_syntax.law_of_syntax_trees.Goals as goal

pub returns-clause-one_syntax : goal.returns-clause-one_syntax
returns-clause-one_syntax c = one_syntax

pub returns-clause-lawful_syntax : goal.returns-clause-lawful_syntax
returns-clause-lawful_syntax c = lawful_syntax
