use Rattle.std.proofs.Common.{◌≡◌}
use Rattle.tc_close.specs.Appends.{AreEven}
use Rattle.tc_close.proofs.appends.Appends.evens.Given as goal

abbrev pub invariant-loop-next : goal.invariant-loop-next
invariant-loop-next l = record {
  count : l.count ≡ l.next;
  even : AreEven l.self.shape.entries l.self.classes l.flags l.rows l.count;
}
