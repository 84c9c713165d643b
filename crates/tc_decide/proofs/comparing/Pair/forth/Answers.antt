use Rattle.std.proofs.lemmas.Result.{IfErr-weaker, IfOk-weaker}
use Rattle.tc_decide.specs.Comparing.{forward}
use Rattle.tc_decide.proofs.comparing.Pair.forth.Goals as goal

pub included-requires-clause-schemas : goal.included-requires-clause-schemas
included-requires-clause-schemas c = let (x, y, is) = c.requires.pair in (forward x y, is.forth)

pub returns-clause-answer : goal.returns-clause-answer
returns-clause-answer c = IfOk-weaker c.included.result _ _ (λ cover told x y is. told (forward x y) is.forth) c.included.ensures.answer

pub returns-clause-cause : goal.returns-clause-cause
returns-clause-cause c = IfErr-weaker c.included.result _ _ (λ fault cause x y is. cause (forward x y) is.forth) c.included.ensures.cause
