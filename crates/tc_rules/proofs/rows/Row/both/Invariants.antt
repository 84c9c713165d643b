use Rattle.std.proofs.Common.{◌≡◌, ◌++◌, drop}
use Rattle.tc_rules.specs.Words as w
use Rattle.tc_rules.proofs.rows.Row.both.Given as goal

abbrev pub invariant-loop-k : goal.invariant-loop-k
invariant-loop-k l = w.both_words l.self.words.items l.other.words.items ≡ l.words.items ++ w.both_words (drop l.k l.self.words.items) (drop l.k l.other.words.items)
