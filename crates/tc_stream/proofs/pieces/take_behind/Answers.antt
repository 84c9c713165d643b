use Rattle.std.proofs.Common.{◌<◌, ◌≤◌, ◌++◌, ap, sym, ◌∙◌, subst, length, arith}
use Rattle.std.specs.Prelude.{slice_index}
use Rattle.tc_stream.specs.Cuts.{char_length}
use Rattle.tc_stream.proofs.PieceLaws.{bad_fault, nothing_in}
use Rattle.tc_stream.proofs.pieces.take_behind.Goals as goal

pub returns-then-is_empty-clause-within : goal.returns-then-is_empty-clause-within
returns-then-is_empty-clause-within c = omega (arith, ap length c.requires.none)

pub returns-then-is_empty-clause-short : goal.returns-then-is_empty-clause-short
returns-then-is_empty-clause-short c = λ some. absurd (omega (arith, some, ap length c.requires.none))

pub returns-in-Some-clause-within : goal.returns-in-Some-clause-within
returns-in-Some-clause-within c = omega (arith, ap length c.in-Some.ensures.0)

pub returns-in-Some-clause-short : goal.returns-in-Some-clause-short
returns-in-Some-clause-short c = λ some. subst (λ z. length z < char_length (slice_index z 0)) (sym c.in-Some.ensures.0) c.in-Some.ensures.1

pub returns-in-None-clause-within : goal.returns-in-None-clause-within
returns-in-None-clause-within c = omega (arith, ap length c.requires.none)

pub returns-in-None-clause-short : goal.returns-in-None-clause-short
returns-in-None-clause-short c = λ some. absurd (omega (arith, some, ap length c.requires.none))

pub returns-then-is_empty-clause-ok : goal.returns-then-is_empty-clause-ok
returns-then-is_empty-clause-ok c = λ x chars r.
    let none : length c.args.bytes.now ≤ 0 = grind (arith, c.is_empty.ensures, c.if-is_empty.true) in
    record { chars = chars; parts = ap (λ z. chars ++ z) (nothing_in c.args.bytes.now none ∙ sym c.requires.none); reads = r }

pub returns-in-Some-clause-ok : goal.returns-in-Some-clause-ok
returns-in-Some-clause-ok c = λ x chars r. record { chars = chars; parts = ap (λ z. chars ++ z) (sym c.in-Some.ensures.0); reads = r }

pub returns-in-None-clause-fault : goal.returns-in-None-clause-fault
returns-in-None-clause-fault c = λ x chars at none r.
    let some : 0 < length c.args.bytes.now = grind (arith, c.is_empty.ensures, c.if-is_empty.false) in
    bad_fault x c.args.reader.now c.args.bytes.now chars c.args.place c.stopped.result some c.in-None.ensures none c.stopped.ensures at r

pub returns-then-is_empty-clause-ready : goal.returns-then-is_empty-clause-ready
returns-then-is_empty-clause-ready c = c.requires.ready

pub returns-then-is_empty-clause-none : goal.returns-then-is_empty-clause-none
returns-then-is_empty-clause-none c = tt

pub returns-then-is_empty-clause-fault : goal.returns-then-is_empty-clause-fault
returns-then-is_empty-clause-fault c = λ _ _ _ _ _. tt

pub returns-in-Some-clause-ready : goal.returns-in-Some-clause-ready
returns-in-Some-clause-ready c = c.requires.ready

pub returns-in-Some-clause-none : goal.returns-in-Some-clause-none
returns-in-Some-clause-none c = tt

pub returns-in-Some-clause-fault : goal.returns-in-Some-clause-fault
returns-in-Some-clause-fault c = λ _ _ _ _ _. tt

pub returns-in-None-clause-ready : goal.returns-in-None-clause-ready
returns-in-None-clause-ready c = tt

pub returns-in-None-clause-none : goal.returns-in-None-clause-none
returns-in-None-clause-none c = c.requires.none

pub returns-in-None-clause-ok : goal.returns-in-None-clause-ok
returns-in-None-clause-ok c = λ _ _ _. tt
