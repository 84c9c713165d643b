use Rattle.std.proofs.Common.{◌≡◌, length}
use Rattle.tc_rows.specs.Triples.{Triple}
use Rattle.tc_beh.specs.AlikeSymbols.{AreFirsts, AreSchemas, asked_tests, key}
use Rattle.tc_beh.proofs.alike.firsts_of.Given as goal

abbrev pub invariant-loop-number : goal.invariant-loop-number
invariant-loop-number l =
    (length l.firsts.items ≡ l.number)
    × ((x : Triple) → AreSchemas x l.input l.output → l.alphabet ≡ x.symbols → AreFirsts (key x (asked_tests l.asked)) l.known l.firsts.items l.number)
