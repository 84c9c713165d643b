use Rattle.std.proofs.Common.{subst, sym, decimal}
use Rattle.tc_model.specs.CertificateData.{IsNumber}
use Rattle.tc_cert.specs.Pieces.{AreNumbersAt}
use Rattle.tc_cert.proofs.Fields.{plain_numbers}
use Rattle.tc_cert.proofs.Lists.{GoesOn, begun, none, stuck, next, done, number_item, item_number}
use Rattle.tc_cert.proofs.Steps.{no_value, no_memory}
use Rattle.tc_cert.proofs.pieces.numbers.Goals as goal

pub loop-next-init : goal.loop-next-init
loop-next-init c =
    subst (λ l. GoesOn decimal IsNumber c.args.end c.args.bytes.now l c.args.bytes.now) (sym c.new-found.ensures.items)
    (begun decimal IsNumber plain_numbers c.args.end c.requires c.args.bytes.now c.in_default.ensures)

pub returns-in_default-number-clause-no : goal.returns-in_default-number-clause-no
returns-in_default-number-clause-no c = λ _ p. none decimal IsNumber plain_numbers c.args.end c.requires c.loop-next.invariant (λ x r i. c.in_default-number.ensures x r (item_number i)) p.0 p.1 p.2

pub returns-in-Some-after_byte-clause-ok : goal.returns-in-Some-after_byte-clause-ok
returns-in-Some-after_byte-clause-ok c =
    subst (λ l. AreNumbersAt c.args.end c.args.bytes.now l c.in-Some-after_byte.behind.now) (sym c.in_ok-push.ensures.items)
    (done decimal IsNumber plain_numbers c.args.end c.requires c.loop-next.invariant (number_item c.in-Some-number.ensures) c.in-Some-after_byte.ensures)

pub returns-in_default-after_byte-2-clause-no : goal.returns-in_default-after_byte-2-clause-no
returns-in_default-after_byte-2-clause-no c = λ _ p.
    stuck decimal IsNumber plain_numbers c.args.end c.requires c.loop-next.invariant (number_item c.in-Some-number.ensures) c.in_default-after_byte.ensures c.in_default-after_byte-2.ensures p.0 p.1 p.2

pub loop-next-preserved : goal.loop-next-preserved
loop-next-preserved c =
    subst (λ l. GoesOn decimal IsNumber c.args.end c.args.bytes.now l c.in-Some-after_byte-2.behind.now) (sym c.in_ok-push.ensures.items)
    (next decimal IsNumber plain_numbers c.args.end c.requires c.loop-next.invariant (number_item c.in-Some-number.ensures) c.in-Some-after_byte-2.ensures)

pub returns-in_err-push-clause-ok : goal.returns-in_err-push-clause-ok
returns-in_err-push-clause-ok c = no_value c.from_residual.result _ _ c.from_residual.ensures.1

pub returns-in_err-push-clause-no : goal.returns-in_err-push-clause-no
returns-in_err-push-clause-no c = no_memory _ c.from_residual.result c.from_residual.ensures.1
