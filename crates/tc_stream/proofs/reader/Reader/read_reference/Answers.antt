use Rattle.std.proofs.Common.{◌≤◌, ◌+◌, refl, arith}
use Rattle.tc_stream.proofs.ReferenceReads.{reference_goes_on, reference_ends, reference_refuses, reference_breaks}
use Rattle.tc_stream.proofs.reader.Reader.read_reference.Goals as goal

pub returns-in-More-clause-ok : goal.returns-in-More-clause-ok
returns-in-More-clause-ok c = record {
  ready = c.requires.ready;
  reads = λ x chars char r. reference_goes_on c.args.next (record { begun = refl; elements = refl; phase = refl }) c.requires.part refl c.in-More.ensures char r;
}

pub returns-in-Character-clause-ok : goal.returns-in-Character-clause-ok
returns-in-Character-clause-ok c = record {
  ready = c.take_text.ensures.elements.ready c.requires.ready;
  reads = λ x chars char r.
      reference_ends c.args.next c.in-Character.c c.requires.part refl c.take_text.ensures.phase c.take_text.ensures.elements c.is_white.ensures c.in-Character.ensures char r;
}

pub returns-in-OtherEntity-clause-fault : goal.returns-in-OtherEntity-clause-fault
returns-in-OtherEntity-clause-fault c = λ x chars char r. reference_refuses (record { 0 = c.args.self.now.begun }) c.args.next c.requires.part refl c.in-OtherEntity.ensures char r

pub returns-in-Malformed-clause-fault : goal.returns-in-Malformed-clause-fault
returns-in-Malformed-clause-fault c = λ x chars char r.
    let low : c.args.self.now.begun ≤ c.args.self.now.begun + 1 = omega arith in
    reference_breaks c.args.next c.requires.part c.in-Malformed.ensures c.malformed.ensures low char r

pub returns-in-More-clause-fault : goal.returns-in-More-clause-fault
returns-in-More-clause-fault c = tt

pub returns-in-Character-clause-fault : goal.returns-in-Character-clause-fault
returns-in-Character-clause-fault c = tt

pub returns-in-OtherEntity-clause-ok : goal.returns-in-OtherEntity-clause-ok
returns-in-OtherEntity-clause-ok c = tt

pub returns-in-Malformed-clause-ok : goal.returns-in-Malformed-clause-ok
returns-in-Malformed-clause-ok c = tt
