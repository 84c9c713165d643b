use Rattle.std.proofs.Common.{Ok, Err}
use Rattle.tc_io.proofs.ReadsInOrder.{true_read, happened_once}
use Rattle.tc_answer.proofs.read.read_operand.Goals as goal

pub returns-in-Ok-clause-ok : goal.returns-in-Ok-clause-ok
returns-in-Ok-clause-ok g c =
    let read = c.in-Ok.ensures in
    happened_once g.S.Store.read_gives g.S.Store.holds g.S.Store.faults c.args.store.now c.read.new.self c.args.named.file.now _ read.gives read.same read.count
    (true_read _ _ c.args.named.file.now (Ok c.in-Ok.text) read.told read.bound read.failed read.untold)

pub returns-in-Err-clause-err : goal.returns-in-Err-clause-err
returns-in-Err-clause-err g c =
    let read = c.in-Err.ensures in
    let fault = c.in-Err.fault in (
      fault,
      happened_once g.S.Store.read_gives g.S.Store.holds g.S.Store.faults c.args.store.now c.read.new.self c.args.named.file.now _ read.gives read.same read.count
          (true_read _ _ c.args.named.file.now (Err fault) read.told read.bound read.failed read.untold),
      c.why_unread.ensures,
    )
