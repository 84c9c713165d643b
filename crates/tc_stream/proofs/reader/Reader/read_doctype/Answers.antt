use Rattle.std.proofs.Common.{refl}
use Rattle.tc_stream.proofs.DoctypeReads.{doctype_goes_on, doctype_ends, doctype_breaks, doctype_refuses}
use Rattle.tc_stream.proofs.reader.Reader.read_doctype.Goals as goal

pub returns-in-More-clause-ok : goal.returns-in-More-clause-ok
returns-in-More-clause-ok c = record {
  ready = c.requires.ready;
  reads = λ x chars char here r. doctype_goes_on c.args.next (record { begun = refl; elements = refl; phase = refl }) c.requires.part refl c.in-More.ensures char r;
}

pub returns-in-Whole-clause-ok : goal.returns-in-Whole-clause-ok
returns-in-Whole-clause-ok c = record {
  ready = c.requires.ready;
  reads = λ x chars char here r. doctype_ends c.args.next refl refl c.requires.part refl c.in-Whole.ensures char r;
}

pub returns-in-Malformed-clause-fault : goal.returns-in-Malformed-clause-fault
returns-in-Malformed-clause-fault c = λ x chars char here r.
    doctype_breaks c.args.next c.args.place c.requires.part here c.in-Malformed.ensures c.stops.ensures c.malformed.ensures char r

pub returns-in-Subset-clause-fault : goal.returns-in-Subset-clause-fault
returns-in-Subset-clause-fault c = λ x chars char here r. doctype_refuses (record { 0 = c.args.place }) c.args.next c.requires.part here c.in-Subset.ensures char r

pub returns-in-More-clause-fault : goal.returns-in-More-clause-fault
returns-in-More-clause-fault c = tt

pub returns-in-Whole-clause-fault : goal.returns-in-Whole-clause-fault
returns-in-Whole-clause-fault c = tt

pub returns-in-Malformed-clause-ok : goal.returns-in-Malformed-clause-ok
returns-in-Malformed-clause-ok c = tt

pub returns-in-Subset-clause-ok : goal.returns-in-Subset-clause-ok
returns-in-Subset-clause-ok c = tt
