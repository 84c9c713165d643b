use Rattle.std.proofs.Common.{refl, sym, subst, []}
use Rattle.tc_model.specs.XmlTextBytes.{FrontOf}
use Rattle.tc_stream.specs.Faults.{IsFaultOfFront}
use Rattle.tc_stream.specs.Keeps.{IsReady}
use Rattle.tc_stream.proofs.StandsLaws.{reads_behind}
use Rattle.tc_stream.proofs.TagBehind.{ends_behind}
use Rattle.tc_tags.specs.XmlTextTags.{EndTagAt}
use Rattle.tc_stream.proofs.TagReads.{end_by, failed, front_short, room_low}
use Rattle.tc_tags.proofs.FailedLaws.{failed_ok}
use Rattle.tc_stream.proofs.reader.Reader.end_kept.Goals as goal

pub end-requires-2-clause-short : goal.end-requires-2-clause-short
end-requires-2-clause-short c =
    let s = c.args.self.now in front_short 65536 (subst (λ z. FrontOf z c.characters-tag.result.now) c.bytes-2.ensures c.characters-tag.ensures) (room_low s.tag s.tag_room)

pub returns-in_err-end-clause-fault : goal.returns-in_err-end-clause-fault
returns-in_err-end-clause-fault c = λ x chars w t some.
    let by = end_by (subst (λ z. FrontOf z c.characters-tag.result.now) c.bytes-2.ensures c.characters-tag.ensures) w t some in
    failed c.from_residual.result c.in_err-end.field-0.0 (λ e. IsFaultOfFront chars e) c.from_residual.ensures.1 (c.in_err-end.ensures.fault x chars by.is_end by.stands by.some)

pub returns-clause-ready : goal.returns-clause-ready
returns-clause-ready c = subst IsReady (sym c.leave_tag-2.ensures.elements) c.in_ok-end.ensures.ready

pub returns-clause-ok : goal.returns-clause-ok
returns-clause-ok c = λ x chars w t some.
    let by = end_by (subst (λ z. FrontOf z c.characters-tag.result.now) c.bytes-2.ensures c.characters-tag.ensures) w t some in
    reads_behind x c.leave_tag-2.new.self c.end-2.new.elements chars (c.in_ok-end.ensures.ok x chars by.is_end by.stands by.some) c.leave_tag-2.ensures.elements c.leave_tag-2.ensures.part c.leave_tag-2.ensures.inside c.leave_tag-2.ensures.outside

pub returns-in_err-end-clause-ready : goal.returns-in_err-end-clause-ready
returns-in_err-end-clause-ready c = failed_ok _ _ _ c.from_residual.ensures.1

pub returns-in_err-end-clause-ok : goal.returns-in_err-end-clause-ok
returns-in_err-end-clause-ok c = λ x chars w t n. failed_ok _ _ _ c.from_residual.ensures.1

pub returns-clause-fault : goal.returns-clause-fault
returns-clause-fault c = λ x chars w t n. tt

pub returns-then-is_plain_end_tag-clause-ready : goal.returns-then-is_plain_end_tag-clause-ready
returns-then-is_plain_end_tag-clause-ready c = subst IsReady (sym c.leave_tag.ensures.elements) (c.end.ensures.ready c.requires)

pub returns-then-is_plain_end_tag-clause-ok : goal.returns-then-is_plain_end_tag-clause-ok
returns-then-is_plain_end_tag-clause-ok c = λ x chars w t some.
    let s = c.args.self.now in
    let ended = c.end.new.self in
    reads_behind x c.leave_tag.new.self ended chars
    (ends_behind t ended (room_low s.tag s.tag_room) some (λ l ls scope k. subst (λ z. EndTagAt l.written.name z []) c.bytes.ensures (c.if-is_plain_end_tag.ensures l.written.name (c.name.ensures.named l ls scope k) refl))
    c.end.ensures.keeps (λ l ls run s many. c.end.ensures.steps x l ls run s many) (λ l run s one. c.end.ensures.valid x l run s one))
    c.leave_tag.ensures.elements c.leave_tag.ensures.part c.leave_tag.ensures.inside c.leave_tag.ensures.outside
