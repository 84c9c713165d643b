use Rattle.std.proofs.Common.{◌≡◌, length}
use Rattle.tc_auto.specs.Stands as held
use Rattle.tc_incl.specs.Sides.{AreAllowed, AreOfSize}
use Rattle.tc_model.specs.Grammars.{Grammar}
use Rattle.tc_model.specs.States.{input}
use Rattle.tc_incl.proofs.sides.allowed_of.Given as goal

abbrev pub invariant-loop-symbol : goal.invariant-loop-symbol
invariant-loop-symbol l = (length l.allowed.items ≡ l.symbol) × AreOfSize l.end l.allowed.items × ((x : Grammar) → held.Stands input x l.automaton → AreAllowed x l.alphabet l.allowed.items)
