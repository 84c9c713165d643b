use Rattle.std.proofs.Common.{sym, subst}
use Rattle.std.proofs.lemmas.Result.{IfOk-weaker}
use Rattle.tc_top.specs.DeadSeen.{SaysUntold}
use Rattle.tc_top.proofs.spots.answer_untold.Goals as goal

pub returns-in-Passes : goal.returns-in-Passes
returns-in-Passes c = IfOk-weaker c.answer_limit.result _ _ (λ said says. subst (λ f. SaysUntold c.args.input.now c.args.sheet.now f said) (sym c.in-Passes.is) says) c.answer_limit.ensures
