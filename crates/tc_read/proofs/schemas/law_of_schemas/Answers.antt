use Rattle.tc_read.proofs.SchemaReasons.{one_reason, no_schema, schema_or_reason}
use Rattle.tc_read.proofs.schemas.law_of_schemas.Goals as goal

pub returns-clause-one : goal.returns-clause-one
returns-clause-one c = one_reason

pub returns-clause-none : goal.returns-clause-none
returns-clause-none c = no_schema

pub returns-clause-some : goal.returns-clause-some
returns-clause-some c = schema_or_reason
