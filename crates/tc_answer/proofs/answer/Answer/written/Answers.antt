use Rattle.std.proofs.Common.{refl}
use Rattle.tc_answer.proofs.answer.Answer.written.Goals as goal

pub returns : goal.returns
returns c = (refl, c.in_ok-push.ensures.items)
