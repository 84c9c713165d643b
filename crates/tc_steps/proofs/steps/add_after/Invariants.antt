use Rattle.std.proofs.Common.{◌≡◌, ◌↔◌, ℕ}
use Rattle.tc_auto.specs.Stands as held
use Rattle.tc_model.specs.Grammars.{Grammar}
use Rattle.tc_model.specs.States.{input}
use Rattle.tc_sets.specs.Numbers.{Has}
use Rattle.tc_steps.specs.Led.{IsAfterElement, IsTaken}
use Rattle.tc_steps.proofs.steps.add_after.Given as goal

abbrev pub invariant-loop-before : goal.invariant-loop-before
invariant-loop-before l = (l.next.size ≡ held.states l.automaton) × ((x : Grammar) → held.Stands input x l.automaton → (j : ℕ) → Has l.next j ↔ IsAfterElement x l.states (IsTaken x l.numbers l.ends) l.before j)
