use Rattle.std.proofs.Common.{◌≡◌, drop}
use Rattle.tc_rules.specs.Words as w
use Rattle.tc_rules.proofs.rows.are_alike.Given as goal

abbrev pub invariant-loop-k : goal.invariant-loop-k
invariant-loop-k l = w.are_alike l.moving.words.items l.marks.words.items l.others.words.items ≡ w.are_alike (drop l.k l.moving.words.items) (drop l.k l.marks.words.items) (drop l.k l.others.words.items)
