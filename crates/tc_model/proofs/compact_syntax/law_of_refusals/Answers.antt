use Rattle.tc_model.proofs.CompactSyntaxRefused.{one_refusal, no_syntax, malformed_within}
use Rattle.tc_model.proofs.compact_syntax.law_of_refusals.Goals as goal

pub returns-clause-one : goal.returns-clause-one
returns-clause-one c = one_refusal

pub returns-clause-no_syntax : goal.returns-clause-no_syntax
returns-clause-no_syntax c = no_syntax

pub returns-clause-within : goal.returns-clause-within
returns-clause-within c = malformed_within
