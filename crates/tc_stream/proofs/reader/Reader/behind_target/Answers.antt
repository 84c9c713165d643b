use Rattle.std.proofs.Common.{◌≤◌, ◌+◌, ◌∙◌, refl, sym, arith, bytes_eq, codes}
use Rattle.tc_stream.proofs.CharacterReads.{front_of, is_xml, not_declared}
use Rattle.tc_stream.proofs.DeclarationReads.{declaration_begins}
use Rattle.tc_stream.proofs.TargetReads.{instruction_begins, reserved_white}
use Rattle.tc_stream.proofs.reader.Reader.behind_target.Goals as goal

pub returns-then-declares-clause-ok : goal.returns-then-declares-clause-ok
returns-then-declares-clause-ok c = record {
  ready = c.requires.ready;
  reads = λ x chars char r.
      declaration_begins c.args.name c.args.next (record { begun = refl; elements = refl; phase = refl }) c.requires.part refl c.requires.told
      (λ written keeps.
      let both = front_of c.args.self.now.phase (bytes_eq written (codes "xml")) (sym (c.declares.ensures written keeps) ∙ c.if-declares.true) in
      (both.0, is_xml written both.1))
      c.begun-known.ensures.told c.begun-known.ensures.place char r;
}

pub returns-then-is_in_any_case-clause-fault : goal.returns-then-is_in_any_case-clause-fault
returns-then-is_in_any_case-clause-fault c = λ x chars char r.
    let low : c.args.self.now.begun ≤ c.args.self.now.begun + 1 = omega arith in
    reserved_white c.args.name c.args.next c.requires.part c.requires.told (λ written keeps. sym (c.is_in_any_case.ensures written keeps) ∙ c.if-is_in_any_case.true)
    (λ p written keeps e. not_declared c.args.self.now.phase written (sym (c.declares.ensures written keeps) ∙ c.if-declares.false) p e) c.malformed.ensures low char r

pub returns-clause-ok : goal.returns-clause-ok
returns-clause-ok c = record {
  ready = c.requires.ready;
  reads = λ x chars char r.
      instruction_begins c.args.name c.args.next (record { begun = refl; elements = refl; phase = c.past_front-phase.ensures }) c.requires.part refl c.requires.told (λ written keeps. sym (c.is_in_any_case.ensures written keeps) ∙ c.if-is_in_any_case.false) char r;
}

pub returns-then-declares-clause-fault : goal.returns-then-declares-clause-fault
returns-then-declares-clause-fault c = tt

pub returns-then-is_in_any_case-clause-ok : goal.returns-then-is_in_any_case-clause-ok
returns-then-is_in_any_case-clause-ok c = tt

pub returns-clause-fault : goal.returns-clause-fault
returns-clause-fault c = tt
