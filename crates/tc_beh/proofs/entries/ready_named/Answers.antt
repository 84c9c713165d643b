use Rattle.tc_beh.proofs.Coming.{grounds_kept}
use Rattle.tc_beh.proofs.Holding.{extends_self}
use Rattle.tc_beh.proofs.entries.ready_named.Goals as goal

pub put_named_on-requires-clause-grounds : goal.put_named_on-requires-clause-grounds
put_named_on-requires-clause-grounds c =
    let (x, ok) = c.requires.grounds in
    let h = c.args.outputs.now in
    (x, grounds_kept x c.args.machine.now h h (extends_self h) c.args.work.now c.args.node ok c.read_runs_on.new.work (c.read_runs_on.ensures.work x ok))

pub returns-clause-work : goal.returns-clause-work
returns-clause-work c = λ x ok.
    let h = c.args.outputs.now in
    c.put_named_on.ensures.work x (grounds_kept x c.args.machine.now h h (extends_self h) c.args.work.now c.args.node ok c.read_runs_on.new.work (c.read_runs_on.ensures.work x ok))

pub returns-clause-called : goal.returns-clause-called
returns-clause-called c = λ x ok ready.
    let h = c.args.outputs.now in
    c.put_named_on.ensures.called x (grounds_kept x c.args.machine.now h h (extends_self h) c.args.work.now c.args.node ok c.read_runs_on.new.work (c.read_runs_on.ensures.work x ok))
