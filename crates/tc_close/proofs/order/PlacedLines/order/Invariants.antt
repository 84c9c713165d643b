use Rattle.std.proofs.Common.{◌≡◌, map, take}
use Rattle.tc_close.proofs.order.PlacedLines.order.Given as goal

abbrev pub invariant-loop-line : goal.invariant-loop-line
invariant-loop-line l = l.places.items ≡ map (λ e. e.1) (take l.line-index l.line-items)
