use Rattle.std.proofs.Common.{refl}
use Rattle.tc_stream.proofs.MarkReads.{counted_three, mark_begins, marked_breaks}
use Rattle.tc_stream.proofs.reader.Reader.read_marked.Goals as goal

pub returns-in-Some-clause-ok : goal.returns-in-Some-clause-ok
returns-in-Some-clause-ok c = record {
  ready = c.requires.ready;
  reads = λ x chars char r. mark_begins c.args.next (record { begun = refl; elements = refl; phase = c.past_front-phase.ensures }) c.requires.part refl c.in-Some.ensures.0 c.in-Some.ensures.1 char r;
}

pub returns-in-None-clause-fault : goal.returns-in-None-clause-fault
returns-in-None-clause-fault c = λ x chars char r. marked_breaks c.args.next c.requires.part c.in-None.ensures c.malformed.ensures c.no_item.ensures char r

pub invariant_of-self-clause-counted : goal.invariant_of-self-clause-counted
invariant_of-self-clause-counted c = counted_three c.in-Some.mark

pub returns-in-Some-clause-fault : goal.returns-in-Some-clause-fault
returns-in-Some-clause-fault c = tt

pub returns-in-None-clause-ok : goal.returns-in-None-clause-ok
returns-in-None-clause-ok c = tt
