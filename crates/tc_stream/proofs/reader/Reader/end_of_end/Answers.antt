use Rattle.tc_stream.proofs.TagReads.{whole_end, whole_end_long}
use Rattle.tc_stream.proofs.reader.Reader.end_of_end.Goals as goal

pub returns-then-push_str-clause-ok : goal.returns-then-push_str-clause-ok
returns-then-push_str-clause-ok c = λ x chars front is ends lacks h r.
    let w = whole_end x c.args.self.now chars c.args.text.now c.push_str.new.self.bytes.items front is ends lacks h r c.if-push_str.ensures.bytes in c.end_kept.ensures.ok x _ w.is_end w.stands w.some

pub returns-then-push_str-clause-fault : goal.returns-then-push_str-clause-fault
returns-then-push_str-clause-fault c = λ x chars front is ends lacks h r.
    let w = whole_end x c.args.self.now chars c.args.text.now c.push_str.new.self.bytes.items front is ends lacks h r c.if-push_str.ensures.bytes in c.end_kept.ensures.fault x _ w.is_end w.stands w.some

pub returns-else-push_str-clause-fault : goal.returns-else-push_str-clause-fault
returns-else-push_str-clause-fault c = λ x chars inside is ends lacks h r.
    let s = c.args.self.now in whole_end_long x s chars c.args.text.now inside s.tag.most is ends lacks h r s.tag_room c.if-push_str.ensures.bytes.1

pub returns-then-push_str-clause-ready : goal.returns-then-push_str-clause-ready
returns-then-push_str-clause-ready c = c.end_kept.ensures.ready

pub returns-else-push_str-clause-ready : goal.returns-else-push_str-clause-ready
returns-else-push_str-clause-ready c = tt

pub returns-else-push_str-clause-ok : goal.returns-else-push_str-clause-ok
returns-else-push_str-clause-ok c = λ x chars front is e lacks h r. tt
