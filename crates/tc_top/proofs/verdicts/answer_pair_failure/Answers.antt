use Rattle.std.proofs.Common.{sym, subst}
use Rattle.std.proofs.lemmas.Result.{IfOk-weaker}
use Rattle.tc_answer.specs.Answers as a
use Rattle.tc_answer.specs.AnswersSeen.{Says}
use Rattle.tc_model.specs.Views.{place}
use Rattle.tc_top.specs.VerdictsSeen.{SaysFailureBy, name_of_two}
use Rattle.tc_top.proofs.verdicts.answer_pair_failure.Goals as goal

pub returns-in-Refused : goal.returns-in-Refused
returns-in-Refused c =
    let r = c.in-Refused in
    IfOk-weaker c.refused.result _ _ (λ said says.
    subst (λ f. SaysFailureBy (name_of_two c.args.first.now c.args.second.now) f said) (sym r.is)
    (subst (λ w. Says said (a.refused w r.reason (place r.place))) c.name_of_pair.ensures says)) c.refused.ensures

pub returns-in-Passes : goal.returns-in-Passes
returns-in-Passes c =
    IfOk-weaker c.answer_limit.result _ _ (λ said says. subst (λ f. SaysFailureBy (name_of_two c.args.first.now c.args.second.now) f said) (sym c.in-Passes.is) says) c.answer_limit.ensures
