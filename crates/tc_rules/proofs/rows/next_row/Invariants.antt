use Rattle.std.proofs.Common.{◌≡◌, ◌++◌, drop}
use Rattle.tc_rules.specs.Words as w
use Rattle.tc_rules.proofs.rows.next_row.Given as goal

abbrev pub invariant-loop-k : goal.invariant-loop-k
invariant-loop-k l = w.further_words 0 l.staying.words.items (w.both_words l.moving.words.items l.marks.words.items) ≡ l.words.items ++ w.further_words l.carry (drop l.k l.staying.words.items) (drop l.k (w.both_words l.moving.words.items l.marks.words.items))
