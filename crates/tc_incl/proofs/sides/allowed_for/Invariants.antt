use Rattle.std.proofs.Common.{◌≡◌}
use Rattle.tc_auto.specs.Stands as held
use Rattle.tc_incl.specs.Sets.{IsFound}
use Rattle.tc_incl.specs.Sides.{IsAllowed}
use Rattle.tc_model.specs.Grammars.{Grammar}
use Rattle.tc_model.specs.States.{input}
use Rattle.tc_model.specs.Views as see
use Rattle.tc_incl.proofs.sides.allowed_for.Given as goal

abbrev pub invariant-loop-before : goal.invariant-loop-before
invariant-loop-before l = (l.allowed.size ≡ l.end) × ((x : Grammar) → held.Stands input x l.automaton → IsFound (IsAllowed x (see.name l.name)) l.before l.allowed)
