use Rattle.std.proofs.Common.{◌≡◌, map, take, get_or}
use Rattle.tc_close.proofs.order.ranked.Given as goal

abbrev pub invariant-loop-place : goal.invariant-loop-place
invariant-loop-place l = l.list ≡ map (λ n. get_or l.ranks n 0) (take l.place l.numbers)
