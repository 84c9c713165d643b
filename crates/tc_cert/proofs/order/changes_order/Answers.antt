use Rattle.std.proofs.Common.{◌≤◌, ◌<◌, length, arith}
use Rattle.tc_cert.proofs.Differing.{order_of_none, order_past, order_of_first}
use Rattle.tc_cert.proofs.order.changes_order.Goals as goal

pub returns-then-is_empty : goal.returns-then-is_empty
returns-then-is_empty c =
    let none : length c.args.changes.now ≤ 0 = grind (arith, c.is_empty.ensures, c.if-is_empty.true) in
    order_of_none c.args.old.now c.args.changes.now none

pub returns-then-old-place : goal.returns-then-old-place
returns-then-old-place c =
    let some : 0 < length c.args.changes.now = grind (arith, c.is_empty.ensures, c.if-is_empty.false) in
    order_past c.args.old.now c.args.changes.now _ some c.if-old-place.true

pub returns : goal.returns
returns c =
    let some : 0 < length c.args.changes.now = grind (arith, c.is_empty.ensures, c.if-is_empty.false) in
    order_of_first c.args.old.now c.args.changes.now c.number_order.result some c.number_order.ensures.order c.number_order.ensures.apart
