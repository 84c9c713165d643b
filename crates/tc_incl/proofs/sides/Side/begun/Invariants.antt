use Rattle.std.proofs.Common.{◌≡◌, ◌↔◌, ℕ}
use Rattle.tc_auto.specs.Stands as held
use Rattle.tc_incl.specs.Sides.{IsBegun}
use Rattle.tc_model.specs.Grammars.{Grammar}
use Rattle.tc_model.specs.States.{input}
use Rattle.tc_sets.specs.Numbers.{Has}
use Rattle.tc_incl.proofs.sides.Side.begun.Given as goal

abbrev pub invariant-loop-before : goal.invariant-loop-before
invariant-loop-before l = (l.states.size ≡ held.states l.self.auto.now) × ((x : Grammar) → held.Stands input x l.self.auto.now → (j : ℕ) → Has l.states j ↔ IsBegun x l.before j)
