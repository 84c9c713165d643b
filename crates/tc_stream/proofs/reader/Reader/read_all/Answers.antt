use Rattle.std.proofs.Common.{List, ℕ, subst, arith, rules}
use Rattle.tc_stream.specs.Reading.{ReadsOn, FaultsOn}
use Rattle.tc_stream.proofs.ReadingLaws.{read_none, read_then, fault_then, failed, none_left}
use Rattle.tc_tags.proofs.FailedLaws.{failed_ok}
use Rattle.tc_stream.proofs.reader.Reader.read_all.Goals as goal

pub loop-rest-init : goal.loop-rest-init
loop-rest-init c = record { reads = read_none c.args.end c.requires.ready; ready = c.requires.ready; within = c.requires.within; text = c.utf8.text }

pub returns-in_err-rest-clause-fault : goal.returns-in_err-rest-clause-fault
returns-in_err-rest-clause-fault c =
    failed _ _ (FaultsOn c.args.self.now c.args.text.now c.args.end) c.from_residual.ensures.1 (fault_then _ c.loop-rest.invariant.reads c.in_err-rest.ensures.fault)

pub loop-rest-preserved : goal.loop-rest-preserved
loop-rest-preserved c =
    let on = c.in_ok-rest.ensures.ok in
    let less = c.in_ok-rest.ensures.less in
    let low = c.loop-rest.invariant.within in
    record { reads = read_then c.loop-rest.invariant.reads on; ready = on.ready; within = omega (arith, less, low); text = search rules }

pub returns-clause-ok : goal.returns-clause-ok
returns-clause-ok c =
    subst (λ (w : List ℕ). ReadsOn c.args.self.now c.loop-rest.self c.args.text.now w c.args.end) (none_left c.loop-rest.rest.now c.loop-rest-test.ensures) c.loop-rest.invariant.reads

pub returns-in_err-rest-clause-ok : goal.returns-in_err-rest-clause-ok
returns-in_err-rest-clause-ok c = failed_ok _ _ _ c.from_residual.ensures.1

pub returns-clause-fault : goal.returns-clause-fault
returns-clause-fault c = tt

pub read-requires-clause-ready : goal.read-requires-clause-ready
read-requires-clause-ready c = c.loop-rest.invariant.ready

pub read-requires-clause-within : goal.read-requires-clause-within
read-requires-clause-within c = c.loop-rest.invariant.within

pub read-requires-clause-low : goal.read-requires-clause-low
read-requires-clause-low c = c.requires.low
