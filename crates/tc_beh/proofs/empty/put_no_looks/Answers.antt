use Rattle.std.proofs.Common.{◌+◌, arith}
use Rattle.tc_beh.proofs.Emptied.{all_looks}
use Rattle.tc_beh.proofs.empty.put_no_looks.Goals as goal

pub returns-clause-looks : goal.returns-clause-looks
returns-clause-looks c =
    let (beside, others, looks) = c.loop-place.invariant in
    let end = c.loop-place-test.false in
    let count = c.looks-place-end.ensures.count in
    let same = beside.count in
    all_looks c.loop-place.out.numbers.items (2 + c.args.out.now.flags + c.args.out.now.entries) c.loop-place.place (omega (arith, end, count, same)) looks
