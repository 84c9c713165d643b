use Rattle.std.proofs.Common.{take}
use Rattle.tc_auto.specs.Arrows.{Gains, IsFrom}
use Rattle.tc_auto.proofs.arrows.push_arrows_from.Given as goal

abbrev pub invariant-loop-edge : goal.invariant-loop-edge
invariant-loop-edge l = Gains l.initial.arrows.items l.arrows.items (IsFrom l.from (take l.edge-index l.edge-items) l.leaf)
