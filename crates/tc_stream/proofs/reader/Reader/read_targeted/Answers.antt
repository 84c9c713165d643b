use Rattle.std.proofs.Common.{◌≤◌, ◌+◌, refl, arith}
use Rattle.tc_stream.proofs.TargetReads.{targeted_ends, targeted_breaks}
use Rattle.tc_stream.proofs.reader.Reader.read_targeted.Goals as goal

pub returns-then-next-eq62-clause-ok : goal.returns-then-next-eq62-clause-ok
returns-then-next-eq62-clause-ok c = record {
  ready = c.requires.ready;
  reads = λ x chars char r. targeted_ends c.args.next (record { begun = refl; elements = refl; phase = refl }) c.requires.part refl c.if-next-eq62.true char r;
}

pub returns-clause-fault : goal.returns-clause-fault
returns-clause-fault c = λ x chars char r.
    let low : c.args.self.now.begun ≤ c.args.self.now.begun + 1 = omega arith in
    targeted_breaks c.args.next c.requires.part c.if-next-eq62.false c.malformed.ensures low char r
