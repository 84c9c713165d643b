use Rattle.tc_read.proofs.SchemaReasons.{one_reason}
use Rattle.tc_top.proofs.OneAnswer.{one_answer, one_answer_on, answer_of_call}
use Rattle.tc_top.proofs.OneRefusal.{one_construct, one_fault_of_names}
use Rattle.tc_top.proofs.SchemaTextLaws.{one_reason_of_dtd}
use Rattle.tc_top.proofs.laws.law_of_answers.Goals as goal

pub returns-clause-one : goal.returns-clause-one
returns-clause-one c = one_answer

pub returns-clause-on_files : goal.returns-clause-on_files
returns-clause-on_files c = one_answer_on

pub returns-clause-call : goal.returns-clause-call
returns-clause-call c = answer_of_call

pub returns-clause-schema : goal.returns-clause-schema
returns-clause-schema c = one_reason

pub returns-clause-declarations : goal.returns-clause-declarations
returns-clause-declarations c = one_reason_of_dtd

pub returns-clause-construct : goal.returns-clause-construct
returns-clause-construct c = one_construct

pub returns-clause-names : goal.returns-clause-names
returns-clause-names c = one_fault_of_names
