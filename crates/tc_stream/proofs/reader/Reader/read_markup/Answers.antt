use Rattle.std.proofs.Common.{refl}
use Rattle.tc_stream.proofs.MarkupReads.{marked_begins, target_begins}
use Rattle.tc_stream.proofs.reader.Reader.read_markup.Goals as goal

pub returns-then-next-eq33-clause-ok : goal.returns-then-next-eq33-clause-ok
returns-then-next-eq33-clause-ok c = record {
  ready = c.requires.ready;
  reads = λ x chars char r. marked_begins c.args.next (record { begun = refl; elements = refl; phase = refl }) c.requires.part refl c.if-next-eq33.true char r;
}

pub returns-then-next-eq63-clause-ok : goal.returns-then-next-eq63-clause-ok
returns-then-next-eq63-clause-ok c = record {
  ready = c.requires.ready;
  reads = λ x chars char r. target_begins c.args.next (record { begun = refl; elements = refl; phase = refl }) c.requires.part refl c.if-next-eq63.true char r;
}

pub returns-then-next-eq33-clause-fault : goal.returns-then-next-eq33-clause-fault
returns-then-next-eq33-clause-fault c = tt

pub returns-then-next-eq63-clause-fault : goal.returns-then-next-eq63-clause-fault
returns-then-next-eq63-clause-fault c = tt
