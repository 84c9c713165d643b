use Rattle.std.proofs.Common.{subst, sym, Err}
use Rattle.tc_close.specs.Certified.{IsProved as IsClosed}
use Rattle.tc_decide.specs.TextsSeen.{IsProved}
use Rattle.tc_decide.proofs.Proving.{certified, unwritten, too_long, refuted, far, many}
use Rattle.tc_decide.proofs.TextsRead.{err_whole}
use Rattle.tc_decide.proofs.Triples.{triple_is}
use Rattle.tc_decide.proofs.certifying.certify.Goals as goal
use Rattle.tc_rows.specs.Triples as t

pub output_of-requires-clause-document : goal.output_of-requires-clause-document
output_of-requires-clause-document c =
    let (x, is) = c.requires.machine in
    let closed = subst (IsClosed x c.args.most) c.in-Ok-Unsafe.field-0-is (c.in-Ok-Unsafe.ensures.proof x is) in
    closed.counter.1.0.0

pub returns-in_err-text-in-Ok-Certified : goal.returns-in_err-text-in-Ok-Certified
returns-in_err-text-in-Ok-Certified c = λ x is w.
    let closed = subst (IsClosed x c.args.most) c.in-Ok-Certified.field-0-is (c.in-Ok-Certified.ensures.proof x is) in
    err_whole c.from_residual.result _ (IsProved c.args.most x.input x.output (t.sheet x)) c.from_residual.ensures.1
    (unwritten x (triple_is is) w c.args.most c.in-Ok-Certified.data closed.0 closed.1 c.in_err-text-in-Ok-Certified.field-0.0 c.in_err-text-in-Ok-Certified.ensures.long)

pub returns-in_ok-text-in-Ok-Certified : goal.returns-in_ok-text-in-Ok-Certified
returns-in_ok-text-in-Ok-Certified c = λ x is w.
    let closed = subst (IsClosed x c.args.most) c.in-Ok-Certified.field-0-is (c.in-Ok-Certified.ensures.proof x is) in
    certified x (triple_is is) w c.args.most c.in-Ok-Certified.data closed.0 closed.1 closed.2 c.in_ok-text-in-Ok-Certified.text c.in_ok-text-in-Ok-Certified.ensures.text c.in_ok-text-in-Ok-Certified.ensures.within

pub returns-in-Ok-TooLong : goal.returns-in-Ok-TooLong
returns-in-Ok-TooLong c = λ x is w.
    let closed = subst (IsClosed x c.args.most) c.in-Ok-TooLong.field-0-is (c.in-Ok-TooLong.ensures.proof x is) in
    too_long x (triple_is is) w c.args.most closed

pub returns-in_ok-output-in-Ok-Unsafe : goal.returns-in_ok-output-in-Ok-Unsafe
returns-in_ok-output-in-Ok-Unsafe c = λ x is w.
    let closed = subst (IsClosed x c.args.most) c.in-Ok-Unsafe.field-0-is (c.in-Ok-Unsafe.ensures.proof x is) in
    refuted x (triple_is is) w c.args.most c.in-Ok-Unsafe.document c.in_ok-output-in-Ok-Unsafe.output closed (c.in_ok-output-in-Ok-Unsafe.ensures x is)

pub returns-in-Ok-TooManyNodes : goal.returns-in-Ok-TooManyNodes
returns-in-Ok-TooManyNodes c = λ x is w.
    let closed = subst (IsClosed x c.args.most) c.in-Ok-TooManyNodes.field-0-is (c.in-Ok-TooManyNodes.ensures.proof x is) in
    far x (triple_is is) w c.args.most closed

pub returns-in-Err : goal.returns-in-Err
returns-in-Err c = λ x is w.
    subst (λ e. IsProved c.args.most x.input x.output (t.sheet x) (Err e)) (sym c.rows_failure.ensures) (many x (triple_is is) w c.args.most c.in-Err.fault (c.in-Err.ensures.cause x is))
