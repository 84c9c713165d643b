use Rattle.std.proofs.Common.{◌≤◌, ◌+◌, refl, arith}
use Rattle.tc_stream.proofs.TargetReads.{target_goes_on, target_breaks}
use Rattle.tc_stream.proofs.reader.Reader.read_target.Goals as goal

pub returns-in-More-clause-ok : goal.returns-in-More-clause-ok
returns-in-More-clause-ok c = record {
  ready = c.requires.ready;
  reads = λ x chars char r. target_goes_on c.args.next (record { begun = refl; elements = refl; phase = refl }) c.requires.part refl c.in-More.ensures char r;
}

pub behind_target-requires-clause-told : goal.behind_target-requires-clause-told
behind_target-requires-clause-told c = c.in-White.ensures

pub end_target-requires-clause-told : goal.end_target-requires-clause-told
end_target-requires-clause-told c = c.in-Question.ensures

pub returns-in-Malformed-clause-fault : goal.returns-in-Malformed-clause-fault
returns-in-Malformed-clause-fault c = λ x chars char r.
    let low : c.args.self.now.begun ≤ c.args.self.now.begun + 1 = omega arith in
    target_breaks c.args.next c.requires.part c.in-Malformed.ensures c.malformed.ensures low char r

pub returns-in-More-clause-fault : goal.returns-in-More-clause-fault
returns-in-More-clause-fault c = tt

pub returns-in-Malformed-clause-ok : goal.returns-in-Malformed-clause-ok
returns-in-Malformed-clause-ok c = tt

pub returns-in-White-clause-ok : goal.returns-in-White-clause-ok
returns-in-White-clause-ok c = c.behind_target.ensures.ok

pub returns-in-White-clause-fault : goal.returns-in-White-clause-fault
returns-in-White-clause-fault c = c.behind_target.ensures.fault

pub returns-in-Question-clause-ok : goal.returns-in-Question-clause-ok
returns-in-Question-clause-ok c = c.end_target.ensures.ok

pub returns-in-Question-clause-fault : goal.returns-in-Question-clause-fault
returns-in-Question-clause-fault c = c.end_target.ensures.fault

pub behind_target-requires-clause-ready : goal.behind_target-requires-clause-ready
behind_target-requires-clause-ready c = c.requires.ready

pub behind_target-requires-clause-part : goal.behind_target-requires-clause-part
behind_target-requires-clause-part c = c.requires.part

pub end_target-requires-clause-ready : goal.end_target-requires-clause-ready
end_target-requires-clause-ready c = c.requires.ready

pub end_target-requires-clause-part : goal.end_target-requires-clause-part
end_target-requires-clause-part c = c.requires.part
