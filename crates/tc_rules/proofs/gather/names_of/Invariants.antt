use Rattle.std.proofs.Common.{◌≡◌, map}
use Rattle.tc_model.specs.Numbered.{numbers_below}
use Rattle.tc_model.specs.Views as see
use Rattle.tc_model.specs.Symbols.{fresh_name}
use Rattle.tc_rules.proofs.gather.names_of.Given as goal

abbrev pub invariant-loop-number : goal.invariant-loop-number
invariant-loop-number l = map see.name l.names.items ≡ map (fresh_name l.alphabet) (numbers_below l.number)
