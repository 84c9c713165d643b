-- What a hedge holds of a schema and of the symbols of its names.
use Rattle.std.specs.Prelude.{◌≡◌, ℕ, zero, suc, ◌+◌, ◌*◌, List, [], ◌++◌, map, length, Bool, Some, slice_get}
use Rattle.tc_model.specs.Names.{ExpandedName}
use Rattle.tc_model.specs.Grammars.{Grammar, ElementPattern, in_class}
use Rattle.tc_model.specs.States.{Side}
use Rattle.tc_model.specs.Symbols.{Mention, symbol_of, symbol_count, fresh_name}
use Rattle.tc_auto.specs.Stands as a
use Rattle.tc_hedge.specs.declared.hedge.Hedge.{Hedge}

-- for each of the first symbols, whether its names are in the class of each element pattern
abbrev pub class_table : Grammar → List Mention → ℕ → List Bool
class_table g symbols zero = []
class_table g symbols (suc s) = class_table g symbols s ++ map (λ e. in_class e.names (fresh_name symbols s)) g.elements

-- the hedge is that of this side of the schema, by these symbols
pub record Stands (side : Side) (g : Grammar) (symbols : List Mention) (h : Hedge) : Type 0 where
  pub auto : a.Stands side g h.auto
  pub counted : h.symbols ≡ symbol_count symbols
  pub tells : (n : ExpandedName) (k : ℕ) (e : ElementPattern) → slice_get g.elements k ≡ Some e → slice_get h.allowed.items (symbol_of symbols n * length g.elements + k) ≡ Some (in_class e.names n)
