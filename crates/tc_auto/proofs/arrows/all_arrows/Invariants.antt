use Rattle.std.proofs.Common.{◌≡◌, ◌+◌, length}
use Rattle.tc_auto.specs.Arrows.{AreArrows}
use Rattle.tc_auto.proofs.arrows.all_arrows.Given as goal

abbrev pub invariant-loop-before : goal.invariant-loop-before
invariant-loop-before l = (length l.all.items ≡ l.before + 1) × AreArrows l.rows l.all.items
