use Rattle.std.proofs.Common.{◌≡◌, ℕ, ◌+◌, ◌≤◌, ◌<◌, true}
use Rattle.tc_auto.specs.Stands as held
use Rattle.tc_model.specs.Grammars.{Grammar}
use Rattle.tc_model.specs.States.{input, is_alternative}
use Rattle.tc_steps.specs.Led.{IsTaken}
use Rattle.tc_steps.proofs.patterns.is_started.Given as goal

abbrev pub invariant-loop-before : goal.invariant-loop-before
invariant-loop-before l =
    (x : Grammar) → held.Stands input x l.automaton → (k : ℕ) → 1 ≤ k → k < l.before + 1 → (is_alternative k x.start ≡ true) × IsTaken x l.numbers l.states k → ⊥
