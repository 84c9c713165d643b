use Rattle.std.proofs.Common.{◌≡◌, ◌<◌, ℕ, length, get_or}
use Rattle.tc_close.proofs.order.ranks_of.Given as goal

abbrev pub invariant-loop-place : goal.invariant-loop-place
invariant-loop-place l =
    (length l.ranks.items ≡ l.fn.count)
    × ((n i : ℕ) → i < l.place → get_or l.fn.numbers i 0 ≡ n → (get_or l.ranks.items n 0 < l.place) × (get_or l.fn.numbers (get_or l.ranks.items n 0) 0 ≡ n))
