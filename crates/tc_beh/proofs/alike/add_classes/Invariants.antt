use Rattle.std.proofs.Common.{◌≡◌, ◌++◌, List, map, take}
use Rattle.tc_hedge.specs.Stands as h
use Rattle.tc_model.specs.Grammars.{Grammar, ElementPattern, in_class}
use Rattle.tc_model.specs.Names.{ExpandedName}
use Rattle.tc_model.specs.States.{Side}
use Rattle.tc_model.specs.Symbols.{Mention, symbol_of}
use Rattle.tc_beh.proofs.alike.add_classes.Given as goal

abbrev pub invariant-loop-before : goal.invariant-loop-before
invariant-loop-before l =
    (side : Side) (g : Grammar) (symbols : List Mention) → h.Stands side g symbols l.schema → (name : ExpandedName) → symbol_of symbols name ≡ l.symbol.0
    → l.key.items ≡ l.initial.key.items ++ map (λ (e : ElementPattern). in_class e.names name) (take l.before g.elements)
