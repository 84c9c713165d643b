use Rattle.std.proofs.Common.{◌∷◌, [], ◌∙◌, ap, subst, arith}
use Rattle.tc_io.specs.Reads.{Happened}
use Rattle.tc_io.proofs.ReadsInOrder.{happened_both}
use Rattle.tc_read.proofs.Exits.{err_is}
use Rattle.tc_answer.specs.AnswersSeen.{read_of, source}
use Rattle.tc_answer.specs.Words.{schema, plain}
use Rattle.tc_answer.proofs.OperandsRead.{first_as, unread_later, unread_before, no_value}
use Rattle.tc_answer.proofs.read.read_verified.Goals as goal

pub returns-in_err-operands-clause-err : goal.returns-in_err-operands-clause-err
returns-in_err-operands-clause-err g c =
    let first = c.in_err-operands.ensures.err in
    let triple = c.args.triple in
    err_is c.from_residual.result _ _ c.from_residual.ensures.1
    (_, first.1, unread_before (schema triple.input.now ∷ schema triple.output.now ∷ plain triple.sheet.now ∷ []) (plain c.args.certificate.now ∷ []) first.0 c.in_err-operands.field-0.0 first.2)

pub returns-in_err-certificate-clause-err : goal.returns-in_err-certificate-clause-err
returns-in_err-certificate-clause-err g c =
    let read = c.in_ok-operands.ensures in
    let operands = c.in_ok-operands.operands in
    let triple = c.args.triple in
    let last = c.in_err-certificate.ensures.err in
    let fourth = first_as [] last.0 _ (source c.plain.result) (plain c.args.certificate.now) c.plain.ensures last.2 in
    let third = unread_later (plain triple.sheet.now) operands.sheet.text.items _ _ _ fourth in
    let second = unread_later (schema triple.output.now) operands.output.text.items _ _ _ third in
    let first = unread_later (schema triple.input.now) operands.input.text.items _ _ _ second in
    err_is c.from_residual-in_err-certificate.result _ _ c.from_residual-in_err-certificate.ensures.1
    (_, happened_both _ _ _ _ _ _ _ _ read.ok last.1, first)

pub returns-clause-ok : goal.returns-clause-ok
returns-clause-ok g c =
    let operands = c.in_ok-operands.operands in
    let triple = c.args.triple in
    let all = happened_both _ _ _ _ _ _ _ _ c.in_ok-operands.ensures.ok c.in_ok-certificate.ensures.ok in
    subst (Happened _ _ _ _ _)
    (ap (λ w. read_of (schema triple.input.now) operands.input ∷ read_of (schema triple.output.now) operands.output ∷ read_of (plain triple.sheet.now) operands.sheet ∷ read_of w c.in_ok-certificate.certificate ∷ []) c.plain.ensures)
    all

pub returns-clause-certificate : goal.returns-clause-certificate
returns-clause-certificate g c = c.in_ok-certificate.ensures.named ∙ ap (λ w. w.word) c.plain.ensures

pub returns-in_err-operands-clause-input : goal.returns-in_err-operands-clause-input
returns-in_err-operands-clause-input g c = no_value c.from_residual.result _ _ c.from_residual.ensures.1

pub returns-in_err-operands-clause-output : goal.returns-in_err-operands-clause-output
returns-in_err-operands-clause-output g c = no_value c.from_residual.result _ _ c.from_residual.ensures.1

pub returns-in_err-operands-clause-sheet : goal.returns-in_err-operands-clause-sheet
returns-in_err-operands-clause-sheet g c = no_value c.from_residual.result _ _ c.from_residual.ensures.1

pub returns-in_err-operands-clause-certificate : goal.returns-in_err-operands-clause-certificate
returns-in_err-operands-clause-certificate g c = no_value c.from_residual.result _ _ c.from_residual.ensures.1

pub returns-in_err-operands-clause-ok : goal.returns-in_err-operands-clause-ok
returns-in_err-operands-clause-ok g c = no_value c.from_residual.result _ _ c.from_residual.ensures.1

pub returns-in_err-certificate-clause-input : goal.returns-in_err-certificate-clause-input
returns-in_err-certificate-clause-input g c = no_value c.from_residual-in_err-certificate.result _ _ c.from_residual-in_err-certificate.ensures.1

pub returns-in_err-certificate-clause-output : goal.returns-in_err-certificate-clause-output
returns-in_err-certificate-clause-output g c = no_value c.from_residual-in_err-certificate.result _ _ c.from_residual-in_err-certificate.ensures.1

pub returns-in_err-certificate-clause-sheet : goal.returns-in_err-certificate-clause-sheet
returns-in_err-certificate-clause-sheet g c = no_value c.from_residual-in_err-certificate.result _ _ c.from_residual-in_err-certificate.ensures.1

pub returns-in_err-certificate-clause-certificate : goal.returns-in_err-certificate-clause-certificate
returns-in_err-certificate-clause-certificate g c = no_value c.from_residual-in_err-certificate.result _ _ c.from_residual-in_err-certificate.ensures.1

pub returns-in_err-certificate-clause-ok : goal.returns-in_err-certificate-clause-ok
returns-in_err-certificate-clause-ok g c = no_value c.from_residual-in_err-certificate.result _ _ c.from_residual-in_err-certificate.ensures.1

pub returns-in_err-certificate-clause-same : goal.returns-in_err-certificate-clause-same
returns-in_err-certificate-clause-same g c = c.in_err-certificate.ensures.same ∙ c.in_ok-operands.ensures.same

pub returns-in_err-certificate-clause-count : goal.returns-in_err-certificate-clause-count
returns-in_err-certificate-clause-count g c = omega (arith, c.in_ok-operands.ensures.count, c.in_err-certificate.ensures.count)

pub returns-clause-same : goal.returns-clause-same
returns-clause-same g c = c.in_ok-certificate.ensures.same ∙ c.in_ok-operands.ensures.same

pub returns-clause-count : goal.returns-clause-count
returns-clause-count g c = omega (arith, c.in_ok-operands.ensures.count, c.in_ok-certificate.ensures.count)

pub returns-clause-input : goal.returns-clause-input
returns-clause-input g c = c.in_ok-operands.ensures.input

pub returns-clause-output : goal.returns-clause-output
returns-clause-output g c = c.in_ok-operands.ensures.output

pub returns-clause-sheet : goal.returns-clause-sheet
returns-clause-sheet g c = c.in_ok-operands.ensures.sheet
