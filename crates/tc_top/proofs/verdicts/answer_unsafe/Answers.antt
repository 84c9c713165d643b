use Rattle.std.proofs.Common.{sym, subst}
use Rattle.std.proofs.lemmas.Result.{IfOk-weaker}
use Rattle.tc_answer.specs.AnswersSeen.{Says}
use Rattle.tc_model.specs.Trees.{none}
use Rattle.tc_model.specs.Views.{before}
use Rattle.tc_top.specs.VerdictsSeen.{unsafe_answer}
use Rattle.tc_top.proofs.verdicts.answer_unsafe.Goals as goal

pub returns-in-Shown : goal.returns-in-Shown
returns-in-Shown c =
    IfOk-weaker c.not_safe.result _ _ (λ said says. subst (λ v. Says said (unsafe_answer (before c.args.document.now none) v)) (sym c.in-Shown.is) says) c.not_safe.ensures

pub returns-in-TooLarge : goal.returns-in-TooLarge
returns-in-TooLarge c =
    IfOk-weaker c.not_safe_large.result _ _ (λ said says. subst (λ v. Says said (unsafe_answer (before c.args.document.now none) v)) (sym c.in-TooLarge.is) says) c.not_safe_large.ensures
