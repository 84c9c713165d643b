use Rattle.std.proofs.Common.{◌≡◌, ◌+◌, ◌++◌, length, map, take}
use Rattle.tc_model.specs.Views as see
use Rattle.tc_model.specs.Grammars.{Grammar, ElementPattern, in_class}
use Rattle.tc_model.specs.States.{Side}
use Rattle.tc_auto.specs.Stands as a
use Rattle.tc_hedge.proofs.table.push_allowed.Given as goal

abbrev pub invariant-loop-before : goal.invariant-loop-before
invariant-loop-before l =
    (length l.allowed.items ≡ length l.initial.allowed.items + l.before)
    × ((side : Side) (x : Grammar) → a.Stands side x l.automaton → l.allowed.items ≡ l.initial.allowed.items ++ map (λ (e : ElementPattern). in_class e.names (see.name l.name)) (take l.before x.elements))
