use Rattle.std.proofs.Common.{◌≡◌}
use Rattle.tc_auto.specs.Stands as held
use Rattle.tc_model.specs.Grammars.{Grammar}
use Rattle.tc_model.specs.States.{input}
use Rattle.tc_model.specs.Views as see
use Rattle.tc_steps.specs.Led.{IsAllowed}
use Rattle.tc_steps.proofs.Found.{IsFound}
use Rattle.tc_steps.proofs.patterns.add_allowed.Given as goal

abbrev pub invariant-loop-before : goal.invariant-loop-before
invariant-loop-before l = (l.numbers.size ≡ l.initial.numbers.size) × ((x : Grammar) → held.Stands input x l.automaton → IsFound (IsAllowed x (see.name l.name)) l.before l.numbers)
