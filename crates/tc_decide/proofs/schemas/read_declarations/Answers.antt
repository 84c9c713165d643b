use Rattle.std.proofs.lemmas.Result.{IfErr-weaker}
use Rattle.tc_decide.proofs.schemas.read_declarations.Goals as goal

pub returns-in-Ok-clause-no : goal.returns-in-Ok-clause-no
returns-in-Ok-clause-no c = IfErr-weaker c.schema_of_dtd.result _ _ (λ e h. h c.args.text.now) c.schema_of_dtd.ensures.no

pub returns-in-Err-clause-no : goal.returns-in-Err-clause-no
returns-in-Err-clause-no c = c.text_fault.ensures c.args.text.now c.in-Err.ensures.refused
