use Rattle.std.proofs.Common.{sym, subst}
use Rattle.std.proofs.lemmas.Result.{IfOk-weaker}
use Rattle.tc_answer.specs.Answers as a
use Rattle.tc_answer.specs.AnswersSeen.{Says}
use Rattle.tc_model.specs.Views.{place}
use Rattle.tc_top.specs.VerdictsSeen.{SaysFailure}
use Rattle.tc_top.proofs.verdicts.answer_failure.Goals as goal

pub returns-in-Refused : goal.returns-in-Refused
returns-in-Refused c =
    let o = c.args.operands.now in
    let r = c.in-Refused in
    IfOk-weaker c.refused.result _ _ (λ said says.
    subst (λ f. SaysFailure o.input.name.now o.output.name.now o.sheet.name.now f said) (sym r.is)
    (subst (λ w. Says said (a.refused w r.reason (place r.place))) c.name_of.ensures says)) c.refused.ensures

pub returns-in-Passes : goal.returns-in-Passes
returns-in-Passes c =
    let o = c.args.operands.now in
    IfOk-weaker c.answer_limit.result _ _ (λ said says. subst (λ f. SaysFailure o.input.name.now o.output.name.now o.sheet.name.now f said) (sym c.in-Passes.is) says) c.answer_limit.ensures
