use Rattle.std.proofs.Common.{◌≡◌, drop}
use Rattle.tc_cert.specs.Orders.{pairs_order}
use Rattle.tc_cert.proofs.order.pairs_order.Given as goal

abbrev pub invariant-loop-i : goal.invariant-loop-i
invariant-loop-i l = pairs_order l.one l.other ≡ pairs_order (drop l.i l.one) (drop l.i l.other)
