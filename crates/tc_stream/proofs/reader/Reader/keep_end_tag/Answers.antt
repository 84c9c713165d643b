use Rattle.std.proofs.Common.{◌∙◌, refl}
use Rattle.tc_stream.proofs.StandsLaws.{grown_end, kept_end}
use Rattle.tc_stream.proofs.TagReads.{kept_end_fault, room_low}
use Rattle.tc_stream.proofs.reader.Reader.keep_end_tag.Goals as goal

pub returns-then-push_str-clause-ok : goal.returns-then-push_str-clause-ok
returns-then-push_str-clause-ok c = λ x chars is lacks h r.
    let s = c.args.self.now in
    grown_end x s _ chars c.args.text.now (kept_end x s chars r is) is refl refl refl refl c.if-push_str.ensures.bytes (room_low c.push_str.new.self (c.push_str.ensures.most ∙ s.tag_room)) lacks h

pub returns-else-push_str-clause-fault : goal.returns-else-push_str-clause-fault
returns-else-push_str-clause-fault c = λ x chars is lacks h r. let s = c.args.self.now in kept_end_fault x s chars c.args.text.now s.tag.most is lacks h r s.tag_room c.if-push_str.ensures.bytes.1

pub returns-then-push_str-clause-rest : goal.returns-then-push_str-clause-rest
returns-then-push_str-clause-rest c = refl

pub returns-then-push_str-clause-fault : goal.returns-then-push_str-clause-fault
returns-then-push_str-clause-fault c = λ x chars is lacks h r. tt

pub returns-else-push_str-clause-ready : goal.returns-else-push_str-clause-ready
returns-else-push_str-clause-ready c = tt

pub returns-else-push_str-clause-rest : goal.returns-else-push_str-clause-rest
returns-else-push_str-clause-rest c = tt

pub returns-else-push_str-clause-ok : goal.returns-else-push_str-clause-ok
returns-else-push_str-clause-ok c = λ x chars is lacks h r. tt

pub returns-then-push_str-clause-ready : goal.returns-then-push_str-clause-ready
returns-then-push_str-clause-ready c = c.requires
