use Rattle.tc_path.specs.Views.{tokens_of}
use Rattle.tc_path.proofs.ReasonLaws.{step_of_test}
use Rattle.tc_path.proofs.reasons.attribute_reason.Goals as goal

pub returns-in-Test : goal.returns-in-Test
returns-in-Test c = step_of_test c.args.context (tokens_of c.args.tokens.now) c.in-Test.is
