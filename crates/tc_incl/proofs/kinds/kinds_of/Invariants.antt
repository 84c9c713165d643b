use Rattle.std.proofs.Common.{◌≡◌, ◌≤◌, length}
use Rattle.tc_incl.proofs.Alike.{AreRowsOf}
use Rattle.tc_incl.proofs.kinds.kinds_of.Given as goal

abbrev pub invariant-loop-symbol : goal.invariant-loop-symbol
invariant-loop-symbol l = (length l.kinds.items ≡ l.symbol) × (length l.held.keys ≤ l.symbol) × AreRowsOf l.first.allowed.items l.second.allowed.items l.held.keys l.kinds.items
