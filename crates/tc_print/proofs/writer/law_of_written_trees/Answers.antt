use Rattle.tc_print.proofs.Writing.{written_in_turn, normal_form_written}
use Rattle.tc_print.proofs.writer.law_of_written_trees.Goals as goal

pub returns-clause-turns : goal.returns-clause-turns
returns-clause-turns c = written_in_turn

pub returns-clause-normal : goal.returns-clause-normal
returns-clause-normal c = normal_form_written
