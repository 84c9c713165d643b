use Rattle.std.proofs.Common.{◌≤◌, length, min, arith, rules}
use Rattle.tc_cert.proofs.Differing.{pairs_differ, pairs_alike, pairs_end}
use Rattle.tc_cert.proofs.order.pairs_order.Goals as goal

pub returns-then-not-are_same : goal.returns-then-not-are_same
returns-then-not-are_same c = pairs_differ c.pair_order.result c.args.one.now c.args.other.now c.loop-i.i c.get-first.result.now c.get-second.result.now c.get-first.ensures c.get-second.ensures c.if-not-are_same.ensures c.requires.one c.requires.other c.pair_order.ensures c.loop-i.invariant

pub loop-i-preserved : goal.loop-i-preserved
loop-i-preserved c = pairs_alike c.args.one.now c.args.other.now c.loop-i.i c.get-first.result.now c.get-second.result.now c.get-first.ensures c.get-second.ensures c.if-not-are_same.ensures c.loop-i.invariant

pub returns : goal.returns
returns c =
    let past : min (length c.args.one.now) (length c.args.other.now) ≤ c.loop-i.i = omega (arith, c.min-i-end.ensures, c.loop-i-test.false, c.len.ensures, c.len-2.ensures) in
    let within : c.loop-i.i ≤ min (length c.args.one.now) (length c.args.other.now) = omega (arith, c.min-i-end.ensures, c.loop-i.auto.i-end, c.len.ensures, c.len-2.ensures) in
    pairs_end c.args.one.now c.args.other.now c.loop-i.i c.cmp.result past within (search rules) c.loop-i.invariant
