use Rattle.std.proofs.Common.{◌≡◌, ◌+◌, ◌++◌, ap, refl, subst, length, length-append, arith}
use Rattle.std.specs.Prelude.{IfErr, IfOk}
use Rattle.tc_stream.specs.Cuts.{cut_bytes}
use Rattle.tc_stream.specs.Faults.{IsFaultOfFront}
use Rattle.tc_stream.specs.Pieces.{ReadsPiece}
use Rattle.tc_stream.proofs.PieceLaws.{front_split, front_within, no_char_behind, read_text, rest_low, text_fault}
use Rattle.tc_stream.proofs.TagReads.{failed}
use Rattle.tc_tags.proofs.FailedLaws.{failed_ok}
use Rattle.tc_stream.proofs.pieces.take_whole.Goals as goal

pub overflow_cast-end : goal.overflow_cast-end
overflow_cast-end c = omega (arith, front_within c.args.bytes.now c.characters-text.result.now c.characters-text.ensures, c.requires.room)

pub overflow_add-end : goal.overflow_add-end
overflow_add-end c = omega (arith, front_within c.args.bytes.now c.characters-text.result.now c.characters-text.ensures, c.requires.room)

pub read_all-requires-clause-low : goal.read_all-requires-clause-low
read_all-requires-clause-low c = omega (arith, front_within c.args.bytes.now c.characters-text.result.now c.characters-text.ensures, c.requires.room)

pub returns-in_err-read_all-clause-within : goal.returns-in_err-read_all-clause-within
returns-in_err-read_all-clause-within c = omega (arith, ap length c.requires.none)

pub returns-in_err-read_all-clause-short : goal.returns-in_err-read_all-clause-short
returns-in_err-read_all-clause-short c = λ some. absurd (omega (arith, some, ap length c.requires.none))

pub slice_bounds-take_behind-count : goal.slice_bounds-take_behind-count
slice_bounds-take_behind-count c = omega (arith, front_within c.args.bytes.now c.characters-text.result.now c.characters-text.ensures)

pub take_behind-requires-clause-low : goal.take_behind-requires-clause-low
take_behind-requires-clause-low c = omega (arith, front_within c.args.bytes.now c.characters-text.result.now c.characters-text.ensures, c.requires.room)

pub returns-clause-within : goal.returns-clause-within
returns-clause-within c = omega (arith, c.take_behind.ensures.within, rest_low c.args.bytes.now (length c.characters-text.result.now))

pub returns-in_err-read_all-clause-fault : goal.returns-in_err-read_all-clause-fault
returns-in_err-read_all-clause-fault c = λ x chars at r.
    let bytes = c.args.bytes.now in
    let text = c.characters-text.result.now in
    let e = c.in_err-read_all.field-0.0 in
    let long : length chars + length text ≡ c.args.at + length text = omega (arith, at) in
    failed c.from_residual.result e (λ e. IsFaultOfFront (chars ++ bytes) e) c.from_residual.ensures.1
    (text_fault bytes text chars e c.characters-text.ensures (c.in_err-read_all.ensures.fault x chars c.characters-text.ensures.characters long r))

pub returns-clause-ok : goal.returns-clause-ok
returns-clause-ok c = λ x chars at r.
    let bytes = c.args.bytes.now in
    let text = c.characters-text.result.now in
    let long : length chars + length text ≡ c.args.at + length text = omega (arith, at) in
    subst (λ z. IfOk c.take_behind.result (λ _. ReadsPiece x c.take_behind.new.reader (cut_bytes c.take_behind.new.cut) z)) (front_split bytes text chars (length text) c.characters-text.ensures refl)
    (c.take_behind.ensures.ok x (chars ++ text) (read_text x c.args.reader.now c.read_all.new.self text chars (c.args.at + length text) c.in_ok-read_all.ensures.ok c.characters-text.ensures.characters long r))

pub returns-clause-fault : goal.returns-clause-fault
returns-clause-fault c = λ x chars at r.
    let bytes = c.args.bytes.now in
    let text = c.characters-text.result.now in
    let long : length chars + length text ≡ c.args.at + length text = omega (arith, at) in
    subst (λ z. IfErr c.take_behind.result (λ e. IsFaultOfFront z e)) (front_split bytes text chars (length text) c.characters-text.ensures refl)
    (c.take_behind.ensures.fault x (chars ++ text) (omega (arith, long, length-append chars text)) (no_char_behind bytes text (length text) c.characters-text.ensures refl)
    (read_text x c.args.reader.now c.read_all.new.self text chars (c.args.at + length text) c.in_ok-read_all.ensures.ok c.characters-text.ensures.characters long r))

pub returns-in_err-read_all-clause-ready : goal.returns-in_err-read_all-clause-ready
returns-in_err-read_all-clause-ready c = failed_ok _ _ _ c.from_residual.ensures.1

pub returns-in_err-read_all-clause-ok : goal.returns-in_err-read_all-clause-ok
returns-in_err-read_all-clause-ok c = λ _ _ _ _. failed_ok _ _ _ c.from_residual.ensures.1

pub returns-clause-ready : goal.returns-clause-ready
returns-clause-ready c = c.take_behind.ensures.ready

pub returns-clause-short : goal.returns-clause-short
returns-clause-short c = c.take_behind.ensures.short

pub returns-clause-none : goal.returns-clause-none
returns-clause-none c = c.take_behind.ensures.none

pub read_all-requires-clause-ready : goal.read_all-requires-clause-ready
read_all-requires-clause-ready c = c.requires.ready

pub take_behind-requires-clause-none : goal.take_behind-requires-clause-none
take_behind-requires-clause-none c = c.requires.none
