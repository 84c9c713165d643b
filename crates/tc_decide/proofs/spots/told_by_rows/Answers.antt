use Rattle.std.proofs.Common.{subst, sym, Err}
use Rattle.tc_close.specs.Decisions.{IsDecided}
use Rattle.tc_decide.specs.DeadSpotsSeen.{IsToldByRows}
use Rattle.tc_decide.specs.declared.limits.TheConstants.{MOST_ROWS}
use Rattle.tc_decide.proofs.Triples.{triple_is}
use Rattle.tc_decide.proofs.Using.{rows_dead, rows_used, rows_copied, rows_large, rows_many}
use Rattle.tc_decide.proofs.spots.told_by_rows.Goals as goal
use Rattle.tc_rows.specs.Triples as t

pub returns-in-Ok-Safe : goal.returns-in-Ok-Safe
returns-in-Ok-Safe c = λ x is w. rows_dead x (triple_is is) w _ (subst (IsDecided x MOST_ROWS) c.in-Ok-Safe.field-0-is (c.in-Ok-Safe.ensures.decision x is))

pub returns-in_ok-copied-in-Ok-Unsafe : goal.returns-in_ok-copied-in-Ok-Unsafe
returns-in_ok-copied-in-Ok-Unsafe c = λ x is w.
    rows_copied x.input x.output (t.sheet x) c.in-Ok-Unsafe.document c.in_ok-copied-in-Ok-Unsafe.field-0 c.in_ok-copied-in-Ok-Unsafe.ensures
    (rows_used x (triple_is is) w c.in-Ok-Unsafe.document (subst (IsDecided x MOST_ROWS) c.in-Ok-Unsafe.field-0-is (c.in-Ok-Unsafe.ensures.decision x is)))

pub returns-in-Ok-TooManyNodes : goal.returns-in-Ok-TooManyNodes
returns-in-Ok-TooManyNodes c = λ x is w. rows_large x (triple_is is) w (subst (IsDecided x MOST_ROWS) c.in-Ok-TooManyNodes.field-0-is (c.in-Ok-TooManyNodes.ensures.decision x is))

pub returns-in-Err : goal.returns-in-Err
returns-in-Err c = λ x is w.
    subst (λ e. IsToldByRows x.input x.output (t.sheet x) (Err e)) (sym c.rows_failure.ensures) (rows_many x (triple_is is) w c.in-Err.fault (c.in-Err.ensures.cause x is))
