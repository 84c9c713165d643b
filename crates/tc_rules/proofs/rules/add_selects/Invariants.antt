use Rattle.std.proofs.Common.{◌≡◌, ◌++◌, map}
use Rattle.tc_model.specs.Numbered.{numbers_below}
use Rattle.tc_rules.proofs.rules.add_selects.Given as goal

abbrev pub invariant-loop-state : goal.invariant-loop-state
invariant-loop-state l = l.selects.items ≡ l.initial.selects.items ++ map (λ j. record { graph = l.graph; state = j }) (numbers_below l.state)
