use Rattle.std.proofs.Common.{◌≡◌, sym, subst, ap, arith, length, IsUtf8}
use Rattle.tc_stream.specs.Faults.{IsFaultOfFront}
use Rattle.tc_stream.specs.Keeps.{IsReady}
use Rattle.tc_stream.proofs.StandsLaws.{reads_behind}
use Rattle.tc_stream.proofs.TagReads.{failed, room_low, start_by}
use Rattle.tc_tags.proofs.FailedLaws.{failed_ok}
use Rattle.tc_stream.proofs.reader.Reader.start_kept.Goals as goal

pub start-requires-clause-short : goal.start-requires-clause-short
start-requires-clause-short c =
    let s = c.args.self.now in omega (arith, c.text_of-tag.ensures.within, ap length c.bytes.ensures, room_low s.tag s.tag_room)

pub returns-in_err-start-clause-fault : goal.returns-in_err-start-clause-fault
returns-in_err-start-clause-fault c = λ x chars w t room.
    let both = start_by (subst (λ z. IsUtf8 z → c.text_of-tag.result.now ≡ z) c.bytes.ensures c.text_of-tag.ensures.whole) w t in
    failed c.from_residual.result c.in_err-start.field-0.0 (λ e. IsFaultOfFront chars e) c.from_residual.ensures.1 (c.in_err-start.ensures.fault x chars both.0 both.1 room)

pub returns-clause-ready : goal.returns-clause-ready
returns-clause-ready c = subst IsReady (sym c.leave_tag.ensures.elements) c.in_ok-start.ensures.ready

pub returns-clause-ok : goal.returns-clause-ok
returns-clause-ok c = λ x chars w t.
    let both = start_by (subst (λ z. IsUtf8 z → c.text_of-tag.result.now ≡ z) c.bytes.ensures c.text_of-tag.ensures.whole) w t in
    reads_behind x c.leave_tag.new.self c.start.new.elements chars (c.in_ok-start.ensures.ok x chars both.0 both.1) c.leave_tag.ensures.elements c.leave_tag.ensures.part c.leave_tag.ensures.inside c.leave_tag.ensures.outside

pub returns-in_err-start-clause-ready : goal.returns-in_err-start-clause-ready
returns-in_err-start-clause-ready c = failed_ok _ _ _ c.from_residual.ensures.1

pub returns-in_err-start-clause-ok : goal.returns-in_err-start-clause-ok
returns-in_err-start-clause-ok c = λ x chars w t. failed_ok _ _ _ c.from_residual.ensures.1

pub returns-clause-fault : goal.returns-clause-fault
returns-clause-fault c = λ x chars w t room. tt
