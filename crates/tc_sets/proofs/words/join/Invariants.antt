use Rattle.std.proofs.Common.{◌≡◌, ℕ, ◌<◌, ◌≤◌, get_or, bit_or}
use Rattle.tc_sets.proofs.words.join.Given as goal

abbrev pub invariant-loop-k : goal.invariant-loop-k
invariant-loop-k l =
    ((w : ℕ) → w < l.k → get_or l.words w 0 ≡ bit_or (get_or l.initial.words w 0) (get_or l.other w 0)) × ((w : ℕ) → l.k ≤ w → get_or l.words w 0 ≡ get_or l.initial.words w 0)
