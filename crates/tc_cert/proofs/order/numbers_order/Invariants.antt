use Rattle.std.proofs.Common.{◌≡◌, drop}
use Rattle.tc_cert.specs.Orders.{numbers_order}
use Rattle.tc_cert.proofs.order.numbers_order.Given as goal

abbrev pub invariant-loop-i : goal.invariant-loop-i
invariant-loop-i l = numbers_order l.one l.other ≡ numbers_order (drop l.i l.one) (drop l.i l.other)
