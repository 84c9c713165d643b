use Rattle.std.proofs.Common.{◌≡◌, ◌++◌, ◌∙◌, arith, Some}
use Rattle.tc_stream.specs.Faults.{IsFaultOfFront}
use Rattle.tc_stream.specs.Streams.{fault_found}
use Rattle.tc_stream.proofs.ReadingLaws.{failed}
use Rattle.tc_stream.proofs.StreamEnds.{front_longer}
use Rattle.tc_stream.proofs.stream.Stream.advance.Goals as goal

pub returns-in_err-read_held-clause-fault : goal.returns-in_err-read_held-clause-fault
returns-in_err-read_held-clause-fault c = λ x text s.
    failed _ _ (λ e. IsFaultOfFront (text ++ c.args.piece.now) e) c.from_residual.ensures.1 (front_longer text c.args.piece.now _ (c.in_err-read_held.ensures.fault x text s))

pub returns-in_err-read_held-clause-kept : goal.returns-in_err-read_held-clause-kept
returns-in_err-read_held-clause-kept c = failed _ _ (λ e. fault_found c.read_held.new.self ≡ Some e) c.from_residual.ensures.1 c.in_err-read_held.ensures.kept

pub hold-requires-clause-none : goal.hold-requires-clause-none
hold-requires-clause-none c = c.in_ok-read_held.ensures.found

pub hold-requires-clause-room : goal.hold-requires-clause-room
hold-requires-clause-room c = omega (arith, c.read_held.ensures.fed, c.requires.room)

pub returns-then-hold-clause-ok : goal.returns-then-hold-clause-ok
returns-then-hold-clause-ok c = λ x text s. c.if-hold.ensures.held x text (c.in_ok-read_held.ensures.ok x text s)

pub read_piece-requires-clause-none : goal.read_piece-requires-clause-none
read_piece-requires-clause-none c = c.hold.ensures.found

pub read_piece-requires-clause-all_read : goal.read_piece-requires-clause-all_read
read_piece-requires-clause-all_read c = c.hold.ensures.left c.if-hold.false ∙ c.in_ok-read_held.ensures.none

pub returns-clause-ok : goal.returns-clause-ok
returns-clause-ok c = λ x text s. c.read_piece.ensures.ok x text (c.if-hold.ensures.held x text (c.in_ok-read_held.ensures.ok x text s))

pub returns-clause-fault : goal.returns-clause-fault
returns-clause-fault c = λ x text s. c.read_piece.ensures.fault x text (c.if-hold.ensures.held x text (c.in_ok-read_held.ensures.ok x text s))
