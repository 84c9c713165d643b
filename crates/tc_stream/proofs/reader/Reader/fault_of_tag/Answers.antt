use Rattle.std.proofs.Common.{subst}
use Rattle.tc_model.specs.XmlTextBytes.{FrontOf}
use Rattle.tc_stream.proofs.TagReads.{front_short, kept_start_ended, room_low}
use Rattle.tc_stream.proofs.reader.Reader.fault_of_tag.Goals as goal

pub tag_fault-requires-clause-short : goal.tag_fault-requires-clause-short
tag_fault-requires-clause-short c =
    let s = c.args.self.now in front_short 65536 (subst (λ z. FrontOf z c.characters-tag.result.now) c.bytes.ensures c.characters-tag.ensures) (room_low s.tag s.tag_room)

pub returns : goal.returns
returns c = λ x chars r quote reads is last.
    let tag = c.characters-tag.result.now in
    kept_start_ended x c.args.self.now chars r tag quote c.tag_fault.result reads is last (subst (λ z. FrontOf z tag) c.bytes.ensures c.characters-tag.ensures) c.tag_fault.ensures
