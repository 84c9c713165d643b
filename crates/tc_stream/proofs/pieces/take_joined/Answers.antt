use Rattle.std.proofs.Common.{◌≡◌, ◌+◌, ◌++◌, ap, length, length-append, arith}
use Rattle.tc_stream.specs.Faults.{IsFaultOfFront}
use Rattle.tc_stream.proofs.PieceLaws.{read_text}
use Rattle.tc_stream.proofs.StandsLaws.{front_more}
use Rattle.tc_stream.proofs.TagReads.{failed}
use Rattle.tc_tags.proofs.FailedLaws.{failed_ok}
use Rattle.tc_stream.proofs.pieces.take_joined.Goals as goal

pub returns-in_err-read_all-clause-within : goal.returns-in_err-read_all-clause-within
returns-in_err-read_all-clause-within c = omega (arith, ap length c.requires.none)

pub returns-in_err-read_all-clause-short : goal.returns-in_err-read_all-clause-short
returns-in_err-read_all-clause-short c = λ some. absurd (omega (arith, some, ap length c.requires.none))

pub returns-in_err-read_all-clause-fault : goal.returns-in_err-read_all-clause-fault
returns-in_err-read_all-clause-fault c = λ x chars h at r.
    let bytes = c.args.bytes.now in
    let text = c.args.text.now in
    let e = c.in_err-read_all.field-0.0 in
    let long : length chars + length text ≡ c.args.at + length text = omega (arith, at) in
    failed c.from_residual.result e (λ e. IsFaultOfFront ((chars ++ text) ++ bytes) e) c.from_residual.ensures.1 (front_more (chars ++ text) bytes e (c.in_err-read_all.ensures.fault x chars h long r))

pub returns-clause-ok : goal.returns-clause-ok
returns-clause-ok c = λ x chars h at r.
    let text = c.args.text.now in
    let long : length chars + length text ≡ c.args.at + length text = omega (arith, at) in
    c.take_whole.ensures.ok x (chars ++ text) (omega (arith, long, length-append chars text))
    (read_text x c.args.reader.now c.read_all.new.self text chars (c.args.at + length text) c.in_ok-read_all.ensures.ok h long r)

pub returns-clause-fault : goal.returns-clause-fault
returns-clause-fault c = λ x chars h at r.
    let text = c.args.text.now in
    let long : length chars + length text ≡ c.args.at + length text = omega (arith, at) in
    c.take_whole.ensures.fault x (chars ++ text) (omega (arith, long, length-append chars text))
    (read_text x c.args.reader.now c.read_all.new.self text chars (c.args.at + length text) c.in_ok-read_all.ensures.ok h long r)

pub returns-in_err-read_all-clause-ready : goal.returns-in_err-read_all-clause-ready
returns-in_err-read_all-clause-ready c = failed_ok _ _ _ c.from_residual.ensures.1

pub returns-in_err-read_all-clause-ok : goal.returns-in_err-read_all-clause-ok
returns-in_err-read_all-clause-ok c = λ _ _ _ _ _. failed_ok _ _ _ c.from_residual.ensures.1

pub returns-clause-ready : goal.returns-clause-ready
returns-clause-ready c = c.take_whole.ensures.ready

pub returns-clause-within : goal.returns-clause-within
returns-clause-within c = c.take_whole.ensures.within

pub returns-clause-short : goal.returns-clause-short
returns-clause-short c = c.take_whole.ensures.short

pub returns-clause-none : goal.returns-clause-none
returns-clause-none c = c.take_whole.ensures.none

pub read_all-requires-clause-ready : goal.read_all-requires-clause-ready
read_all-requires-clause-ready c = c.requires.ready

pub take_whole-requires-clause-none : goal.take_whole-requires-clause-none
take_whole-requires-clause-none c = c.requires.none

pub take_whole-requires-clause-room : goal.take_whole-requires-clause-room
take_whole-requires-clause-room c = omega (arith, c.requires.room)
