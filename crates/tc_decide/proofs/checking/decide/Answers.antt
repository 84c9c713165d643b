use Rattle.std.proofs.Common.{subst, sym, Err}
use Rattle.tc_close.specs.Decisions.{IsDecided}
use Rattle.tc_decide.specs.TextsSeen.{IsFound}
use Rattle.tc_decide.proofs.Deciding.{found_safe, found_unsafe, found_far, found_many}
use Rattle.tc_decide.proofs.Triples.{triple_is}
use Rattle.tc_decide.proofs.checking.decide.Goals as goal
use Rattle.tc_rows.specs.Triples as t

pub output_of-requires-clause-document : goal.output_of-requires-clause-document
output_of-requires-clause-document c =
    let (x, is) = c.requires.machine in
    let decided = subst (IsDecided x c.args.most) c.in-Ok-Unsafe.field-0-is (c.in-Ok-Unsafe.ensures.decision x is) in
    decided.counter.1.0.0

pub returns-in-Ok-Safe : goal.returns-in-Ok-Safe
returns-in-Ok-Safe c = λ x is w.
    let decided = subst (IsDecided x c.args.most) c.in-Ok-Safe.field-0-is (c.in-Ok-Safe.ensures.decision x is) in
    found_safe x (triple_is is) w c.args.most c.in-Ok-Safe.counts decided

pub returns-in_ok-output-in-Ok-Unsafe : goal.returns-in_ok-output-in-Ok-Unsafe
returns-in_ok-output-in-Ok-Unsafe c = λ x is w.
    let decided = subst (IsDecided x c.args.most) c.in-Ok-Unsafe.field-0-is (c.in-Ok-Unsafe.ensures.decision x is) in
    found_unsafe x (triple_is is) w c.args.most c.in-Ok-Unsafe.document c.in_ok-output-in-Ok-Unsafe.output decided (c.in_ok-output-in-Ok-Unsafe.ensures x is)

pub returns-in-Ok-TooManyNodes : goal.returns-in-Ok-TooManyNodes
returns-in-Ok-TooManyNodes c = λ x is w.
    let decided = subst (IsDecided x c.args.most) c.in-Ok-TooManyNodes.field-0-is (c.in-Ok-TooManyNodes.ensures.decision x is) in
    found_far x (triple_is is) w c.args.most decided

pub returns-in-Err : goal.returns-in-Err
returns-in-Err c = λ x is w.
    subst (λ e. IsFound c.args.most x.input x.output (t.sheet x) (Err e)) (sym c.rows_failure.ensures) (found_many x (triple_is is) w c.args.most c.in-Err.fault (c.in-Err.ensures.cause x is))
