use Rattle.std.proofs.Common.{◌≤◌, ◌+◌, ◌∙◌, refl, sym, arith}
use Rattle.tc_stream.proofs.TargetReads.{targeted_begins, reserved_question}
use Rattle.tc_stream.proofs.reader.Reader.end_target.Goals as goal

pub returns-then-is_in_any_case-clause-fault : goal.returns-then-is_in_any_case-clause-fault
returns-then-is_in_any_case-clause-fault c = λ x chars char r.
    let low : c.args.self.now.begun ≤ c.args.self.now.begun + 1 = omega arith in
    reserved_question c.args.name c.args.next c.requires.part c.requires.told (λ written keeps. sym (c.is_in_any_case.ensures written keeps) ∙ c.if-is_in_any_case.true) c.malformed.ensures low char r

pub returns-clause-ok : goal.returns-clause-ok
returns-clause-ok c = record {
  ready = c.requires.ready;
  reads = λ x chars char r.
      targeted_begins c.args.name c.args.next (record { begun = refl; elements = refl; phase = c.past_front-phase.ensures }) c.requires.part refl c.requires.told (λ written keeps. sym (c.is_in_any_case.ensures written keeps) ∙ c.if-is_in_any_case.false) char r;
}

pub returns-then-is_in_any_case-clause-ok : goal.returns-then-is_in_any_case-clause-ok
returns-then-is_in_any_case-clause-ok c = tt

pub returns-clause-fault : goal.returns-clause-fault
returns-clause-fault c = tt
