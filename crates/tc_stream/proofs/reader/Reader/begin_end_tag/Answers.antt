use Rattle.std.proofs.Common.{refl}
use Rattle.tc_stream.proofs.MarkupReads.{end_tag_begins, end_tag_breaks}
use Rattle.tc_stream.proofs.reader.Reader.begin_end_tag.Goals as goal

pub returns-in-Content-clause-ok : goal.returns-in-Content-clause-ok
returns-in-Content-clause-ok c = record {
  ready = c.requires.ready;
  reads = λ x chars char r. end_tag_begins c.args.slash (record { begun = refl; elements = refl; phase = refl }) c.requires.part refl c.in-Content.is c.keep_first.ensures.bytes c.requires.is_slash char r;
}

pub returns-in_default-clause-fault : goal.returns-in_default-clause-fault
returns-in_default-clause-fault c = λ x chars char r. end_tag_breaks c.args.slash c.requires.part c.in_default.not-Content c.malformed.ensures c.no_item.ensures c.requires.is_slash char r
