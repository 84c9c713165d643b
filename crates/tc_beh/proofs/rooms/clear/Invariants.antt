use Rattle.std.proofs.Common.{◌≡◌, ◌<◌, ◌≤◌, ◌⊎◌, ℕ, length, get_or}
use Rattle.tc_beh.proofs.rooms.clear.Given as goal

abbrev pub invariant-loop-place : goal.invariant-loop-place
invariant-loop-place l =
    (length l.numbers ≡ length l.fn.numbers)
    × ((k : ℕ) → l.from ≤ k → k < l.place → get_or l.numbers k 0 ≡ 0)
    × ((k : ℕ) → (k < l.from) ⊎ (l.to ≤ k) → get_or l.numbers k 0 ≡ get_or l.fn.numbers k 0)
