use Rattle.std.proofs.Common.{refl}
use Rattle.tc_stream.proofs.DeclarationReads.{declaration_goes_on, declaration_ends, declaration_breaks, declaration_refuses}
use Rattle.tc_stream.proofs.reader.Reader.read_declaration.Goals as goal

pub returns-in-More-clause-ok : goal.returns-in-More-clause-ok
returns-in-More-clause-ok c = record {
  ready = c.requires.ready;
  reads = λ x chars char here r. declaration_goes_on c.args.next c.args.place (record { begun = refl; elements = refl; phase = refl }) c.requires.part refl here c.in-More.ensures.told c.in-More.ensures.place char r;
}

pub returns-in-Whole-clause-ok : goal.returns-in-Whole-clause-ok
returns-in-Whole-clause-ok c = record {
  ready = c.requires.ready;
  reads = λ x chars char here r. declaration_ends c.args.next c.args.place (record { begun = refl; elements = refl; phase = c.past_front-phase.ensures }) c.requires.part refl here c.in-Whole.ensures.told char r;
}

pub returns-in-Malformed-clause-fault : goal.returns-in-Malformed-clause-fault
returns-in-Malformed-clause-fault c = λ x chars char here r.
    declaration_breaks c.args.next c.args.place c.requires.part here c.in-Malformed.ensures.told c.in-Malformed.ensures.place c.malformed.ensures char r

pub returns-in-Unsupported-clause-fault : goal.returns-in-Unsupported-clause-fault
returns-in-Unsupported-clause-fault c = λ x chars char here r.
    declaration_refuses (record { 0 = c.in-Unsupported.at }) c.args.next c.args.place c.requires.part here c.in-Unsupported.ensures.told char r

pub returns-in-More-clause-fault : goal.returns-in-More-clause-fault
returns-in-More-clause-fault c = tt

pub returns-in-Whole-clause-fault : goal.returns-in-Whole-clause-fault
returns-in-Whole-clause-fault c = tt

pub returns-in-Malformed-clause-ok : goal.returns-in-Malformed-clause-ok
returns-in-Malformed-clause-ok c = tt

pub returns-in-Unsupported-clause-ok : goal.returns-in-Unsupported-clause-ok
returns-in-Unsupported-clause-ok c = tt
