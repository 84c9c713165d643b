use Rattle.std.proofs.Common.{◌∙◌, ◌++◌, sym, ap, subst, codes, decimal, List, ℕ}
use Rattle.std.proofs.lemmas.Result.{IfOk-weaker}
use Rattle.tc_answer.specs.Answers as a
use Rattle.tc_answer.specs.AnswersSeen.{Says}
use Rattle.tc_decide.specs.Rejections.{rejection}
use Rattle.tc_answer.specs.Lines.{line, namespace_text}
use Rattle.tc_answer.proofs.Lined.{behind_number}
use Rattle.tc_answer.proofs.answer.Answer.rejected.Goals as goal

pub returns-in-Form : goal.returns-in-Form
returns-in-Form c = IfOk-weaker c.rejected_at.result _ _ (λ said h. subst (λ w. Says said (a.rejected (rejection w))) (sym c.in-Form.is) (record { status = h.0; written = h.1 })) c.rejected_at.ensures

pub returns-in-Fit : goal.returns-in-Fit
returns-in-Fit c = IfOk-weaker c.rejected_at-in-Fit.result _ _ (λ said h. subst (λ w. Says said (a.rejected (rejection w))) (sym c.in-Fit.is) (record { status = h.0; written = h.1 })) c.rejected_at-in-Fit.ensures

pub returns-in-Root : goal.returns-in-Root
returns-in-Root c = IfOk-weaker c.rejected_at-in-Root.result _ _ (λ said h. subst (λ w. Says said (a.rejected (rejection w))) (sym c.in-Root.is) (record { status = h.0; written = h.1 })) c.rejected_at-in-Root.ensures

pub returns-in-Wrap : goal.returns-in-Wrap
returns-in-Wrap c =
    let name = c.in-Wrap.name in
    IfOk-weaker c.rejected_around.result _ _ (λ said h. subst (λ w. Says said (a.rejected (rejection w))) (sym c.in-Wrap.is) (record {
      status = h.0;
      written = h.1 ∙ behind_number (decimal c.in-Wrap.line) (codes " wrap ") (namespace_text name.uri.now ++ name.local.now);
    })) c.rejected_around.ensures

pub returns-in-Append : goal.returns-in-Append
returns-in-Append c =
    let number = ap (λ (w : List ℕ). line (codes "rejected " ++ (decimal c.in-Append.line ++ (codes " append " ++ w)))) c.format.ensures.text in
    IfOk-weaker c.rejected_at-in-Append.result _ _ (λ said h. subst (λ w. Says said (a.rejected (rejection w))) (sym c.in-Append.is) (record {
      status = h.0;
      written = h.1 ∙ (number ∙ behind_number (decimal c.in-Append.line) (codes " append ") (decimal c.in-Append.other));
    })) c.rejected_at-in-Append.ensures
