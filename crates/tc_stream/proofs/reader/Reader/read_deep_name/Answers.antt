use Rattle.std.proofs.Common.{refl, sym}
use Rattle.tc_stream.proofs.DeepReads.{deep_name_grows, deep_name_told, deep_prefix_begins}
use Rattle.tc_stream.proofs.reader.Reader.read_deep_name.Goals as goal

pub returns-then-is_ncname_char-clause-ok : goal.returns-then-is_ncname_char-clause-ok
returns-then-is_ncname_char-clause-ok c = record {
  ready = c.requires.ready;
  reads = λ x chars char r. deep_name_grows c.args.next (record { begun = refl; elements = refl; phase = refl }) c.requires.part c.requires.part (sym c.if-is_ncname_char.ensures) char r;
}

pub returns-then-next-eq58-clause-ok : goal.returns-then-next-eq58-clause-ok
returns-then-next-eq58-clause-ok c = record {
  ready = c.requires.ready;
  reads = λ x chars char r. deep_prefix_begins c.args.next (record { begun = refl; elements = refl; phase = refl }) c.requires.part refl c.if-next-eq58.true char r;
}

pub returns-clause-fault : goal.returns-clause-fault
returns-clause-fault c = λ x chars char r. deep_name_told c.args.next c.requires.part (sym c.if-is_ncname_char.ensures) c.if-next-eq58.false char r
