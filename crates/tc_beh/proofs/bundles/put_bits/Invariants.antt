use Rattle.std.proofs.Common.{◌≡◌, ◌<◌, ℕ, length, get_or}
use Rattle.tc_beh.specs.Bundles.{IsWordOf}
use Rattle.tc_beh.proofs.bundles.put_bits.Given as goal

abbrev pub invariant-loop-word : goal.invariant-loop-word
invariant-loop-word l = record {
  count : length l.words.items ≡ length l.fn.words.items;
  words : (k : ℕ) → k < l.word → IsWordOf l.flags k (get_or l.words.items k 0);
}
