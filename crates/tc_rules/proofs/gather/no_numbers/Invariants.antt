use Rattle.std.proofs.Common.{◌≡◌, ℕ, [], length, get_or}
use Rattle.tc_rules.specs.Gathered.{numbers}
use Rattle.tc_rules.proofs.gather.no_numbers.Given as goal

abbrev pub invariant-loop-mode : goal.invariant-loop-mode
invariant-loop-mode l = (length l.lists.items ≡ l._mode) × ((m : ℕ) → get_or (numbers l.lists.items) m [] ≡ [])
