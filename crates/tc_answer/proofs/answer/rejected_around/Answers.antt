use Rattle.std.proofs.Common.{◌∙◌, ◌++◌, sym, ap, codes, decimal, length, eq-eqb, List, ℕ}
use Rattle.std.proofs.lemmas.Bool.{eqb-true, true≢false}
use Rattle.std.proofs.lemmas.Result.{IfOk-weaker}
use Rattle.tc_answer.specs.Lines.{line}
use Rattle.tc_answer.proofs.Lined.{around_local, around_pieces}
use Rattle.tc_answer.proofs.answer.rejected_around.Goals as goal

pub returns-then-is_empty : goal.returns-then-is_empty
returns-then-is_empty c =
    IfOk-weaker c.rejected_at.result _ _ (λ said h.
    (h.0, h.1 ∙ ap (λ (w : List ℕ). line (codes "rejected " ++ (decimal c.args.number ++ (codes " wrap " ++ w)))) (around_local c.args.uri.now c.args.local.now (eqb-true (length c.args.uri.now) 0 (sym c.is_empty.ensures ∙ c.if-is_empty.true))))) c.rejected_at.ensures

pub returns : goal.returns
returns c =
    IfOk-weaker c.answer_of.result _ _ (λ said h. (
      h.0,
      h.1 ∙ around_pieces c.format.result.now c.args.uri.now c.args.local.now c.args.number c.format.ensures.text
          (λ e. true≢false (sym (eq-eqb (length c.args.uri.now) 0 e) ∙ (sym c.is_empty.ensures ∙ c.if-is_empty.false))),
    )) c.answer_of.ensures
