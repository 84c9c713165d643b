use Rattle.std.proofs.Common.{◌≡◌, ◌<◌, ℕ, length, get_or}
use Rattle.tc_close.specs.Kinds.{AreFit}
use Rattle.tc_close.proofs.kinds.Alike.learn.Given as goal

abbrev pub invariant-loop-next : goal.invariant-loop-next
invariant-loop-next l = record {
  fit : AreFit l.lists l.self;
  count : length l.self.of.items ≡ l.next;
  flags : l.self.flags ≡ l.fn.self.flags;
  more : (u : ℕ) → u < length l.fn.self.of.items → (u < length l.self.of.items) × (get_or l.self.of.items u 0 ≡ get_or l.fn.self.of.items u 0);
}
