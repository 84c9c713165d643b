use Rattle.std.proofs.Common.{sym, subst}
use Rattle.std.proofs.lemmas.Result.{IfOk-weaker}
use Rattle.tc_top.specs.Comparing.{Compares}
use Rattle.tc_top.specs.Pairs.{question}
use Rattle.tc_top.proofs.compare.compare_texts.Goals as goal

pub returns-in-Inclusion : goal.returns-in-Inclusion
returns-in-Inclusion c =
    let one = c.args.first.now in
    let other = c.args.second.now in
    IfOk-weaker c.include_texts.result _ _ (λ said h. (h.0, h.1, subst (λ q. Compares (question q) one.name.now other.name.now one.text.items other.text.items h.0) (sym c.in-Inclusion.is) h.2)) c.include_texts.ensures

pub returns-in-Equality : goal.returns-in-Equality
returns-in-Equality c =
    let one = c.args.first.now in
    let other = c.args.second.now in
    IfOk-weaker c.same_texts.result _ _ (λ said h. (h.0, h.1, subst (λ q. Compares (question q) one.name.now other.name.now one.text.items other.text.items h.0) (sym c.in-Equality.is) h.2)) c.same_texts.ensures
