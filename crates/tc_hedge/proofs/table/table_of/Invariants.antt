use Rattle.std.proofs.Common.{◌≡◌, ◌*◌, length}
use Rattle.tc_model.specs.Grammars.{Grammar}
use Rattle.tc_model.specs.States.{Side}
use Rattle.tc_auto.specs.Stands as a
use Rattle.tc_hedge.specs.Stands.{class_table}
use Rattle.tc_hedge.proofs.table.table_of.Given as goal

abbrev pub invariant-loop-symbol : goal.invariant-loop-symbol
invariant-loop-symbol l =
    (length l.allowed.items ≡ l.symbol * length l.automaton.elements.now)
    × ((side : Side) (x : Grammar) → a.Stands side x l.automaton → l.allowed.items ≡ class_table x l.alphabet l.symbol)
