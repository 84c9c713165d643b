use Rattle.std.proofs.Common.{◌≡◌, ◌<◌, ◌≤◌, ◌+◌, ◌++◌, [], ap, sym, ◌∙◌, subst, length, length-append, arith}
use Rattle.std.specs.Prelude.{IfErr, IfOk, slice_index}
use Rattle.tc_model.specs.Names.{IsChars}
use Rattle.tc_stream.specs.Cuts.{BeginsNoChar, char_length, cut_bytes}
use Rattle.tc_stream.specs.Faults.{IsFaultOfFront}
use Rattle.tc_stream.specs.Pieces.{ReadsPiece}
use Rattle.tc_stream.proofs.PieceLaws.{all_of_it, bad_cut_fault, cut_text, joined_low, joined_some, short_text}
use Rattle.tc_stream.proofs.TagReads.{at_err, if_err}
use Rattle.tc_stream.proofs.pieces.take_cut.Goals as goal

pub lacking-missing-requires-clause-some : goal.lacking-missing-requires-clause-some
lacking-missing-requires-clause-some c = subst (λ z. 0 < length z) (sym c.bytes.ensures) c.requires.some

pub lacking-missing-requires-clause-short : goal.lacking-missing-requires-clause-short
lacking-missing-requires-clause-short c = subst (λ z. length z < char_length (slice_index z 0)) (sym c.bytes.ensures) (c.requires.short c.requires.some)

pub joined-all-requires : goal.joined-all-requires
joined-all-requires c = omega (arith, ap length c.bytes.ensures, c.lacking-missing.ensures.few, c.split_at.ensures.front_len, c.min.ensures)

pub front_of-requires-clause-some : goal.front_of-requires-clause-some
front_of-requires-clause-some c =
    let cut = cut_bytes c.args.cut.now in
    let front = c.split_at.result.0.now in
    subst (λ z. 0 < length z) (sym (c.bytes-2.ensures ∙ c.joined-all.ensures)) (joined_some cut front c.requires.some)

pub front_of-requires-clause-few : goal.front_of-requires-clause-few
front_of-requires-clause-few c =
    let cut = cut_bytes c.args.cut.now in
    let front = c.split_at.result.0.now in
    let all = c.lacking-missing.ensures.all in
    let sum = subst (λ z. length z + c.lacking-missing.result ≡ char_length (slice_index z 0)) c.bytes.ensures all in
    subst (λ z. length z ≤ char_length (slice_index z 0)) (sym (c.bytes-2.ensures ∙ c.joined-all.ensures)) (joined_low cut front c.lacking-missing.result c.requires.some sum (omega (arith, c.split_at.ensures.front_len, c.min.ensures)))

pub take_joined-requires-clause-room : goal.take_joined-requires-clause-room
take_joined-requires-clause-room c =
    let cut = cut_bytes c.args.cut.now in
    let front = c.split_at.result.0.now in
    let text : c.in-Whole.text.now ≡ cut ++ front = c.in-Whole.ensures.0 ∙ (c.bytes-2.ensures ∙ c.joined-all.ensures) in
    omega (arith, c.requires.room, ap length text, length-append cut front, c.split_at.ensures.front_len, c.split_at.ensures.back_len)

pub returns-in-Whole-clause-ok : goal.returns-in-Whole-clause-ok
returns-in-Whole-clause-ok c = λ x chars at r.
    let cut = cut_bytes c.args.cut.now in
    let front = c.split_at.result.0.now in
    let text : c.in-Whole.text.now ≡ cut ++ front = c.in-Whole.ensures.0 ∙ (c.bytes-2.ensures ∙ c.joined-all.ensures) in
    subst (λ z. IfOk c.take_joined.result (λ _. ReadsPiece x c.take_joined.new.reader (cut_bytes c.take_joined.new.cut) z)) (cut_text chars cut front c.split_at.result.1.now c.args.bytes.now c.in-Whole.text.now text c.split_at.ensures.by_index.0)
    (c.take_joined.ensures.ok x chars (subst IsChars (sym c.in-Whole.ensures.0) c.in-Whole.ensures.1) at r)

pub returns-in-Whole-clause-fault : goal.returns-in-Whole-clause-fault
returns-in-Whole-clause-fault c = λ x chars at r.
    let cut = cut_bytes c.args.cut.now in
    let front = c.split_at.result.0.now in
    let text : c.in-Whole.text.now ≡ cut ++ front = c.in-Whole.ensures.0 ∙ (c.bytes-2.ensures ∙ c.joined-all.ensures) in
    subst (λ z. IfErr c.take_joined.result (λ e. IsFaultOfFront z e)) (cut_text chars cut front c.split_at.result.1.now c.args.bytes.now c.in-Whole.text.now text c.split_at.ensures.by_index.0)
    (c.take_joined.ensures.fault x chars (subst IsChars (sym c.in-Whole.ensures.0) c.in-Whole.ensures.1) at r)

pub returns-in-Whole-clause-within : goal.returns-in-Whole-clause-within
returns-in-Whole-clause-within c = omega (arith, c.take_joined.ensures.within, c.split_at.ensures.back_len)

pub returns-in-Short-clause-within : goal.returns-in-Short-clause-within
returns-in-Short-clause-within c =
    omega (arith, ap length c.joined-all.ensures, length-append (cut_bytes c.args.cut.now) c.split_at.result.0.now, c.split_at.ensures.front_len, c.split_at.ensures.back_len)

pub returns-in-Short-clause-short : goal.returns-in-Short-clause-short
returns-in-Short-clause-short c = λ some. subst (λ z. length z < char_length (slice_index z 0)) c.bytes-2.ensures c.in-Short.ensures.1

pub returns-in-Short-clause-ok : goal.returns-in-Short-clause-ok
returns-in-Short-clause-ok c = λ x chars at r.
    let cut = cut_bytes c.args.cut.now in
    let front = c.split_at.result.0.now in
    let bytes = c.args.bytes.now in
    let sum = subst (λ z. length z + c.lacking-missing.result ≡ char_length (slice_index z 0)) c.bytes.ensures c.lacking-missing.ensures.all in
    let short = subst (λ z. length z < char_length (slice_index z 0)) (c.bytes-2.ensures ∙ c.joined-all.ensures) c.in-Short.ensures.1 in
    let all = all_of_it cut front c.split_at.result.1.now bytes c.lacking-missing.result _ c.requires.some sum c.min.ensures c.split_at.ensures.front_len c.split_at.ensures.by_index.0 short in
    record { chars = chars; parts = short_text chars cut front bytes all ∙ ap (λ z. chars ++ z) (sym c.joined-all.ensures); reads = r }

pub returns-in-Bad-clause-fault : goal.returns-in-Bad-clause-fault
returns-in-Bad-clause-fault c = λ x chars at r.
    let cut = cut_bytes c.args.cut.now in
    let front = c.split_at.result.0.now in
    bad_cut_fault x c.args.reader.now chars cut front c.split_at.result.1.now c.args.bytes.now c.args.at c.stopped.result
    (λ more. subst (λ z. BeginsNoChar (z ++ more)) (c.bytes-2.ensures ∙ c.joined-all.ensures) (c.in-Bad.ensures more)) c.requires.some c.split_at.ensures.by_index.0 c.stopped.ensures at r

pub returns-in-Whole-clause-kept : goal.returns-in-Whole-clause-kept
returns-in-Whole-clause-kept c =
    if_err c.take_joined.result (λ _. length (cut_bytes c.take_joined.new.cut) ≤ length (cut_bytes c.args.cut.now))
    (λ e is. let none = at_err c.take_joined.result (λ _. cut_bytes c.take_joined.new.cut ≡ []) e is c.take_joined.ensures.none in omega (arith, ap length none))

pub returns-in-Whole-clause-ready : goal.returns-in-Whole-clause-ready
returns-in-Whole-clause-ready c = c.take_joined.ensures.ready

pub returns-in-Whole-clause-short : goal.returns-in-Whole-clause-short
returns-in-Whole-clause-short c = c.take_joined.ensures.short

pub returns-in-Short-clause-ready : goal.returns-in-Short-clause-ready
returns-in-Short-clause-ready c = c.requires.ready

pub returns-in-Short-clause-kept : goal.returns-in-Short-clause-kept
returns-in-Short-clause-kept c = tt

pub returns-in-Short-clause-fault : goal.returns-in-Short-clause-fault
returns-in-Short-clause-fault c = λ _ _ _ _. tt

pub returns-in-Bad-clause-ready : goal.returns-in-Bad-clause-ready
returns-in-Bad-clause-ready c = tt

pub returns-in-Bad-clause-kept : goal.returns-in-Bad-clause-kept
returns-in-Bad-clause-kept c = omega arith

pub returns-in-Bad-clause-ok : goal.returns-in-Bad-clause-ok
returns-in-Bad-clause-ok c = λ _ _ _ _. tt

pub returns-in-Bad-clause-within : goal.returns-in-Bad-clause-within
returns-in-Bad-clause-within c = omega arith

pub returns-in-Bad-clause-short : goal.returns-in-Bad-clause-short
returns-in-Bad-clause-short c = c.requires.short

pub take_joined-requires-clause-ready : goal.take_joined-requires-clause-ready
take_joined-requires-clause-ready c = c.requires.ready
