use Rattle.std.proofs.Common.{◌≡◌, drop}
use Rattle.tc_rules.specs.Words as w
use Rattle.tc_rules.proofs.rows.Row.is_empty.Given as goal

abbrev pub invariant-loop-word : goal.invariant-loop-word
invariant-loop-word l = w.are_zero l.self.words.items ≡ w.are_zero (drop l.word-index l.self.words.items)
