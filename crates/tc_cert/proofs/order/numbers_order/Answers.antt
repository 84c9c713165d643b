use Rattle.std.proofs.Common.{◌<◌, ◌≤◌, length, min, sym, ◌∙◌, arith}
use Rattle.tc_cert.specs.Orders.{number_order}
use Rattle.tc_cert.proofs.Differing.{other_at, equal_at, at_end, number_itself}
use Rattle.tc_cert.proofs.order.numbers_order.Goals as goal

pub returns-then-one-i : goal.returns-then-one-i
returns-then-one-i c =
    let first : c.loop-i.i < length c.args.one.now = omega (arith, c.min-i-end.ensures, c.loop-i-test.true) in
    let second : c.loop-i.i < length c.args.other.now = omega (arith, c.min-i-end.ensures, c.loop-i-test.true) in
    c.number_order.ensures.order ∙ sym (c.loop-i.invariant ∙ other_at number_order c.args.one.now c.args.other.now c.loop-i.i 0 first second (λ e. c.if-one-i.true (c.number_order.ensures.apart (c.number_order.ensures.order ∙ e))))

pub loop-i-preserved : goal.loop-i-preserved
loop-i-preserved c =
    let first : c.loop-i.i < length c.args.one.now = omega (arith, c.min-i-end.ensures, c.loop-i-test.true) in
    let second : c.loop-i.i < length c.args.other.now = omega (arith, c.min-i-end.ensures, c.loop-i-test.true) in
    c.loop-i.invariant ∙ equal_at number_order c.args.one.now c.args.other.now c.loop-i.i 0 first second c.if-one-i.false (number_itself _)

pub returns : goal.returns
returns c =
    let past : min (length c.args.one.now) (length c.args.other.now) ≤ c.loop-i.i = omega (arith, c.min-i-end.ensures, c.loop-i-test.false) in
    let within : c.loop-i.i ≤ min (length c.args.one.now) (length c.args.other.now) = omega (arith, c.min-i-end.ensures, c.loop-i.auto.i-end) in
    c.cmp.ensures ∙ sym (c.loop-i.invariant ∙ at_end number_order c.loop-i.i c.args.one.now c.args.other.now past within)
