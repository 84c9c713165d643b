use Rattle.std.proofs.Common.{◌≡◌, ℕ, ◌<◌, get_or, bit_and}
use Rattle.tc_sets.proofs.words.are_apart.Given as goal

abbrev pub invariant-loop-k : goal.invariant-loop-k
invariant-loop-k l = (w : ℕ) → w < l.k → bit_and (get_or l.words w 0) (get_or l.other w 0) ≡ 0
