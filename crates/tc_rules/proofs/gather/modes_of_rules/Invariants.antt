use Rattle.std.proofs.Common.{◌≡◌, ◌<◌, ◌++◌, ℕ, [], length, get_or, map, drop}
use Rattle.tc_model.specs.Views as see
use Rattle.tc_rules.specs.Gathered.{numbers}
use Rattle.tc_rules.specs.Kept.{numbers_in_mode}
use Rattle.tc_rules.proofs.gather.modes_of_rules.Given as goal

abbrev pub invariant-loop-number : goal.invariant-loop-number
invariant-loop-number l =
    (length l.lists.items ≡ l.sheet.modes)
    × ((m : ℕ) → m < l.sheet.modes → get_or (numbers l.lists.items) m [] ++ numbers_in_mode m l.number (map see.rule (drop l.number l.sheet.rules.now)) ≡ numbers_in_mode m 0 (map see.rule l.sheet.rules.now))
