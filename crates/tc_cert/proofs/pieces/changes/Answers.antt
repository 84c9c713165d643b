use Rattle.std.proofs.Common.{subst, sym}
use Rattle.tc_model.specs.CertificateLines.{change}
use Rattle.tc_cert.specs.Pieces.{AreNumbers, AreChangesAt}
use Rattle.tc_cert.proofs.Lists.{plain_changes, GoesOn, begun, none, stuck, next, done, change_item, item_change}
use Rattle.tc_cert.proofs.Steps.{no_value, no_memory}
use Rattle.tc_cert.proofs.pieces.changes.Goals as goal

pub loop-next-init : goal.loop-next-init
loop-next-init c =
    subst (λ l. GoesOn change AreNumbers c.args.end c.args.bytes.now l c.args.bytes.now) (sym c.new-found.ensures.items)
    (begun change AreNumbers plain_changes c.args.end c.requires c.args.bytes.now c.in_default.ensures)

pub returns-in_default-two-clause-no : goal.returns-in_default-two-clause-no
returns-in_default-two-clause-no c = λ _ p. none change AreNumbers plain_changes c.args.end c.requires c.loop-next.invariant (λ x r i. c.in_default-two.ensures x r (item_change i)) p.0 p.1 p.2

pub returns-in-Some-after_byte-clause-ok : goal.returns-in-Some-after_byte-clause-ok
returns-in-Some-after_byte-clause-ok c =
    subst (λ l. AreChangesAt c.args.end c.args.bytes.now l c.in-Some-after_byte.behind.now) (sym c.in_ok-push.ensures.items)
    (done change AreNumbers plain_changes c.args.end c.requires c.loop-next.invariant (change_item c.in-Some-two.ensures) c.in-Some-after_byte.ensures)

pub returns-in_default-after_byte-2-clause-no : goal.returns-in_default-after_byte-2-clause-no
returns-in_default-after_byte-2-clause-no c = λ _ p.
    stuck change AreNumbers plain_changes c.args.end c.requires c.loop-next.invariant (change_item c.in-Some-two.ensures) c.in_default-after_byte.ensures c.in_default-after_byte-2.ensures p.0 p.1 p.2

pub loop-next-preserved : goal.loop-next-preserved
loop-next-preserved c =
    subst (λ l. GoesOn change AreNumbers c.args.end c.args.bytes.now l c.in-Some-after_byte-2.behind.now) (sym c.in_ok-push.ensures.items)
    (next change AreNumbers plain_changes c.args.end c.requires c.loop-next.invariant (change_item c.in-Some-two.ensures) c.in-Some-after_byte-2.ensures)

pub returns-in_err-push-clause-ok : goal.returns-in_err-push-clause-ok
returns-in_err-push-clause-ok c = no_value c.from_residual.result _ _ c.from_residual.ensures.1

pub returns-in_err-push-clause-no : goal.returns-in_err-push-clause-no
returns-in_err-push-clause-no c = no_memory _ c.from_residual.result c.from_residual.ensures.1
