use Rattle.std.proofs.Common.{arith}
use Rattle.tc_stream.specs.Faults.{IsFaultOf}
use Rattle.tc_stream.proofs.ReadingLaws.{failed}
use Rattle.tc_stream.proofs.StreamEnds.{ended_by, front_whole}
use Rattle.tc_stream.proofs.TagReads.{if_err, if_ok}
use Rattle.tc_tags.proofs.FailedLaws.{failed_ok}
use Rattle.tc_stream.proofs.stream.Stream.ended.Goals as goal

pub returns-in_err-read_held-clause-ok : goal.returns-in_err-read_held-clause-ok
returns-in_err-read_held-clause-ok c = λ x text s. failed_ok _ _ _ c.from_residual.ensures.1

pub returns-in_err-read_held-clause-fault : goal.returns-in_err-read_held-clause-fault
returns-in_err-read_held-clause-fault c = λ x text s. failed _ _ (λ e. IsFaultOf text e) c.from_residual.ensures.1 (front_whole text _ (c.in_err-read_held.ensures.fault x text s))

pub returns-clause-ok : goal.returns-clause-ok
returns-clause-ok c = λ x text s.
    let ends = ended_by c.read_held.new.self x text c.finished.result (c.in_ok-read_held.ensures.ok x text s) c.in_ok-read_held.ensures.none (λ chars. c.finished.ensures.ok x chars) (λ chars. c.finished.ensures.fault x chars) in
    if_ok c.finished.result _ ends.valid

pub returns-clause-fault : goal.returns-clause-fault
returns-clause-fault c = λ x text s.
    let ends = ended_by c.read_held.new.self x text c.finished.result (c.in_ok-read_held.ensures.ok x text s) c.in_ok-read_held.ensures.none (λ chars. c.finished.ensures.ok x chars) (λ chars. c.finished.ensures.fault x chars) in
    if_err c.finished.result _ ends.fault

pub finished-requires-clause-within : goal.finished-requires-clause-within
finished-requires-clause-within c = let held = c.read_held.new.self.held_within in omega (arith, held)

pub finished-requires-clause-room : goal.finished-requires-clause-room
finished-requires-clause-room c = c.read_held.new.self.fed_within
