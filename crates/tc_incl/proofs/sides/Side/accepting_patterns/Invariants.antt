use Rattle.std.proofs.Common.{◌≡◌}
use Rattle.tc_auto.specs.Stands as held
use Rattle.tc_sets.specs.Numbers.{Has}
use Rattle.tc_incl.specs.Sets.{IsFound}
use Rattle.tc_incl.specs.Sides.{IsTaken}
use Rattle.tc_model.specs.Grammars.{Grammar}
use Rattle.tc_model.specs.States.{input}
use Rattle.tc_incl.proofs.sides.Side.accepting_patterns.Given as goal

abbrev pub invariant-loop-before : goal.invariant-loop-before
invariant-loop-before l =
    (l.taken.size ≡ l.self.end) × ¬ Has l.taken 0 × ((x : Grammar) → held.Stands input x l.self.auto.now → IsFound (IsTaken x l.states) l.before l.taken)
