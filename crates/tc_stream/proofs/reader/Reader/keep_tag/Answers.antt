use Rattle.std.proofs.Common.{◌∙◌, refl}
use Rattle.tc_stream.proofs.StandsLaws.{grown_start, kept_start}
use Rattle.tc_stream.proofs.TagReads.{kept_start_fault, room_low}
use Rattle.tc_stream.proofs.reader.Reader.keep_tag.Goals as goal

pub returns-then-not-push_str-clause-fault : goal.returns-then-not-push_str-clause-fault
returns-then-not-push_str-clause-fault c = λ x chars within is scan h r.
    let s = c.args.self.now in kept_start_fault x s chars c.args.text.now s.tag.most within c.args.quote is scan h r s.tag_room c.if-not-push_str.ensures.bytes.1

pub returns-clause-ok : goal.returns-clause-ok
returns-clause-ok c = λ x chars within is scan h r.
    let s = c.args.self.now in
    grown_start x s _ chars c.args.text.now within c.args.quote (kept_start x s chars within r is) is refl refl refl refl c.if-not-push_str.ensures.bytes (room_low c.push_str.new.self (c.push_str.ensures.most ∙ s.tag_room)) scan h

pub returns-then-not-push_str-clause-ready : goal.returns-then-not-push_str-clause-ready
returns-then-not-push_str-clause-ready c = tt

pub returns-then-not-push_str-clause-rest : goal.returns-then-not-push_str-clause-rest
returns-then-not-push_str-clause-rest c = tt

pub returns-then-not-push_str-clause-ok : goal.returns-then-not-push_str-clause-ok
returns-then-not-push_str-clause-ok c = λ x chars within is scan h r. tt

pub returns-clause-rest : goal.returns-clause-rest
returns-clause-rest c = refl

pub returns-clause-fault : goal.returns-clause-fault
returns-clause-fault c = λ x chars within is scan h r. tt

pub returns-clause-ready : goal.returns-clause-ready
returns-clause-ready c = c.requires
