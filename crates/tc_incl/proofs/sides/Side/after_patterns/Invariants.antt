use Rattle.std.proofs.Common.{◌≡◌, length}
use Rattle.tc_auto.specs.Stands as held
use Rattle.tc_model.specs.Grammars.{Grammar}
use Rattle.tc_model.specs.States.{input}
use Rattle.tc_incl.specs.Sides.{AreAfterPatterns, AreOfSize}
use Rattle.tc_incl.proofs.sides.Side.after_patterns.Given as goal

abbrev pub invariant-loop-before : goal.invariant-loop-before
invariant-loop-before l =
    (length l.next.items ≡ l.before) × AreOfSize (held.states l.self.auto.now) l.next.items × ((x : Grammar) → held.Stands input x l.self.auto.now → AreAfterPatterns x l.states l.next.items)
