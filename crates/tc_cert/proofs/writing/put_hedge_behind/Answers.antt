use Rattle.std.proofs.Common.{◌≡◌, ◌∙◌, sym, ap, subst, IfErr, OnOk}
use Rattle.std.specs.Prelude.{cond}
use Rattle.tc_model.specs.CertificateLines as lines
use Rattle.tc_cert.specs.Puts.{IsPut, IsCause}
use Rattle.tc_cert.proofs.Ends.{stops_first, last_put, last_fault}
use Rattle.tc_cert.proofs.writing.put_hedge_behind.Goals as goal

pub returns-in_err-put_front-clause-cause : goal.returns-in_err-put_front-clause-cause
returns-in_err-put_front-clause-cause c =
    let changes : lines.hedge_behind c.args.before.now c.args.line.now ≡ lines.hedge_changes c.args.before.now c.args.line.now =
    ap (λ b. cond b (lines.hedge_changes c.args.before.now c.args.line.now) (lines.hedge_line c.args.line.now)) (sym c.are_alike.ensures ∙ c.if-not-are_alike.false) in
    subst (λ p. IfErr c.from_residual.result (IsCause c.args.text.now p)) (sym changes)
    (stops_first c.args.text.now _ _ c.from_residual.result c.in_err-put_front.field-0.0 c.from_residual.ensures.1 c.in_err-put_front.ensures.cause)

pub returns-clause-ok : goal.returns-clause-ok
returns-clause-ok c =
    let changes : lines.hedge_behind c.args.before.now c.args.line.now ≡ lines.hedge_changes c.args.before.now c.args.line.now =
    ap (λ b. cond b (lines.hedge_changes c.args.before.now c.args.line.now) (lines.hedge_line c.args.line.now)) (sym c.are_alike.ensures ∙ c.if-not-are_alike.false) in
    subst (λ p. OnOk c.put_changed_lists.result (IsPut c.args.text.now c.put_changed_lists.new.text p)) (sym changes)
    (last_put c.args.text.now c.put_front.new.text c.put_changed_lists.new.text _ _ c.put_changed_lists.result c.in_ok-put_front.ensures.ok c.put_changed_lists.ensures.ok)

pub returns-clause-cause : goal.returns-clause-cause
returns-clause-cause c =
    let changes : lines.hedge_behind c.args.before.now c.args.line.now ≡ lines.hedge_changes c.args.before.now c.args.line.now =
    ap (λ b. cond b (lines.hedge_changes c.args.before.now c.args.line.now) (lines.hedge_line c.args.line.now)) (sym c.are_alike.ensures ∙ c.if-not-are_alike.false) in
    subst (λ p. IfErr c.put_changed_lists.result (IsCause c.args.text.now p)) (sym changes)
    (last_fault c.args.text.now c.put_front.new.text _ _ c.put_changed_lists.result c.in_ok-put_front.ensures.ok c.put_changed_lists.ensures.cause)
