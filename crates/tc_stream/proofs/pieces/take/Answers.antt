use Rattle.std.proofs.Common.{◌≡◌, ◌≤◌, ◌++◌, [], ap, sym, ◌∙◌, subst, length, arith, append-nil}
use Rattle.std.specs.Prelude.{IfErr, IfOk}
use Rattle.tc_stream.specs.Cuts.{cut_bytes}
use Rattle.tc_stream.specs.Faults.{IsFaultOfFront}
use Rattle.tc_stream.specs.Pieces.{ReadsPiece}
use Rattle.tc_stream.proofs.PieceLaws.{nothing_in}
use Rattle.tc_stream.proofs.TagReads.{at_err, if_err}
use Rattle.tc_stream.proofs.pieces.take.Goals as goal

pub overflow_cast-known : goal.overflow_cast-known
overflow_cast-known c = omega (arith, ap length c.bytes.ensures, c.requires.within, c.requires.room)

pub overflow_sub-at : goal.overflow_sub-at
overflow_sub-at c = omega (arith, ap length c.bytes.ensures, c.requires.within)

pub take_whole-requires-clause-none : goal.take_whole-requires-clause-none
take_whole-requires-clause-none c = nothing_in (cut_bytes c.args.cut.now) (omega (arith, ap length c.bytes.ensures, c.if-known-eq0.true))

pub returns-then-known-eq0-clause-ok : goal.returns-then-known-eq0-clause-ok
returns-then-known-eq0-clause-ok c = λ x chars at r.
    let none = nothing_in (cut_bytes c.args.cut.now) (omega (arith, ap length c.bytes.ensures, c.if-known-eq0.true)) in
    subst (λ z. IfOk c.take_whole.result (λ _. ReadsPiece x c.take_whole.new.reader (cut_bytes c.take_whole.new.cut) (z ++ c.args.piece.now))) (sym (ap (λ z. chars ++ z) none ∙ append-nil chars))
    (c.take_whole.ensures.ok x chars (omega (arith, at, ap length none)) r)

pub returns-then-known-eq0-clause-fault : goal.returns-then-known-eq0-clause-fault
returns-then-known-eq0-clause-fault c = λ x chars at r.
    let none = nothing_in (cut_bytes c.args.cut.now) (omega (arith, ap length c.bytes.ensures, c.if-known-eq0.true)) in
    subst (λ z. IfErr c.take_whole.result (λ e. IsFaultOfFront (z ++ c.args.piece.now) e)) (sym (ap (λ z. chars ++ z) none ∙ append-nil chars)) (c.take_whole.ensures.fault x chars (omega (arith, at, ap length none)) r)

pub returns-then-known-eq0-clause-kept : goal.returns-then-known-eq0-clause-kept
returns-then-known-eq0-clause-kept c =
    if_err c.take_whole.result (λ _. length (cut_bytes c.take_whole.new.cut) ≤ c.args.fed)
    (λ e is. let none = at_err c.take_whole.result (λ _. cut_bytes c.take_whole.new.cut ≡ []) e is c.take_whole.ensures.none in omega (arith, ap length none))

pub take_cut-requires-clause-some : goal.take_cut-requires-clause-some
take_cut-requires-clause-some c = omega (arith, ap length c.bytes.ensures, c.if-known-eq0.false)

pub take_cut-requires-clause-room : goal.take_cut-requires-clause-room
take_cut-requires-clause-room c = omega (arith, ap length c.bytes.ensures, c.requires.within, c.requires.room)

pub returns-clause-within : goal.returns-clause-within
returns-clause-within c = omega (arith, c.take_cut.ensures.within, c.requires.within)

pub returns-clause-kept : goal.returns-clause-kept
returns-clause-kept c =
    if_err c.take_cut.result (λ _. length (cut_bytes c.take_cut.new.cut) ≤ c.args.fed)
    (λ e is. let less = at_err c.take_cut.result (λ _. length (cut_bytes c.take_cut.new.cut) ≤ length (cut_bytes c.args.cut.now)) e is c.take_cut.ensures.kept in omega (arith, less, c.requires.within))

pub returns-clause-ok : goal.returns-clause-ok
returns-clause-ok c = λ x chars at r. c.take_cut.ensures.ok x chars (omega (arith, at, ap length c.bytes.ensures)) r

pub returns-clause-fault : goal.returns-clause-fault
returns-clause-fault c = λ x chars at r. c.take_cut.ensures.fault x chars (omega (arith, at, ap length c.bytes.ensures)) r

pub returns-then-known-eq0-clause-ready : goal.returns-then-known-eq0-clause-ready
returns-then-known-eq0-clause-ready c = c.take_whole.ensures.ready

pub returns-then-known-eq0-clause-short : goal.returns-then-known-eq0-clause-short
returns-then-known-eq0-clause-short c = c.take_whole.ensures.short

pub returns-clause-ready : goal.returns-clause-ready
returns-clause-ready c = c.take_cut.ensures.ready

pub returns-clause-short : goal.returns-clause-short
returns-clause-short c = c.take_cut.ensures.short
