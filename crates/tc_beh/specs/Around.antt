-- The element patterns that an element around a list of trees matches, by flags.
use Rattle.std.specs.Prelude.{◌≡◌, ◌<◌, ◌≤◌, ◌↔◌, ◌+◌, ℕ, List, length, get_or, slice_get, Some}
use Rattle.std.specs.Global.{Vec}
use Rattle.tc_model.specs.Names.{ExpandedName}
use Rattle.tc_model.specs.Grammars.{Grammar, ElementPattern, element_at, InClass}
use Rattle.tc_model.specs.States.{Side, automaton, first_state}
use Rattle.tc_model.specs.Symbols.{Mention, symbol_of}
use Rattle.tc_auto.specs.Stands.{patterns}
use Rattle.tc_hedge.specs.Stands.{Stands}
use Rattle.tc_hedge.specs.declared.hedge.Hedge.{Hedge}
use Rattle.tc_beh.specs.Rooms.{flag_at}

-- a state that has a flag is one in which the content accepts
abbrev pub IsTakenBy : Side → Grammar → List ℕ → ℕ → ElementPattern → Type 0
IsTakenBy side x states k e = (y : ℕ) × (get_or states (first_state x side k + y) 0 ≡ 1) × (automaton e.content).accepting y

-- and the class holds the name
abbrev pub IsAroundBy : Side → Grammar → ExpandedName → List ℕ → ℕ → Type 0
IsAroundBy side x name states k = (e : ElementPattern) × (element_at x.elements k ≡ Some e) × InClass e.names name × IsTakenBy side x states k e

-- of so many element patterns those whose classes hold a symbol, by their numbers
pub record AreTakers (input : Hedge) (a count : ℕ) (takers : List ℕ) : Type 0 where
  pub low : (k : ℕ) → k < length takers → (i : ℕ) × (i < count) × (get_or takers k 0 ≡ i + 1)
  pub exact : (side : Side) (x : Grammar) (symbols : List Mention) → Stands side x symbols input → (name : ExpandedName) → symbol_of symbols name ≡ a
      → (i : ℕ) (e : ElementPattern) → i < count → element_at x.elements (i + 1) ≡ Some e → ((k : ℕ) × (k < length takers) × (get_or takers k 0 ≡ i + 1)) ↔ InClass e.names name

-- those of each symbol
pub record AreAllTakers (input : Hedge) (all : List (Vec ℕ)) : Type 0 where
  pub count : length all ≡ input.symbols
  pub each : (a : ℕ) (v : Vec ℕ) → slice_get all a ≡ Some v → AreTakers input a (patterns input.auto) v.items

-- exactly the flags of these element patterns are set
pub record PutsPatterns (input : Hedge) (a : ℕ) (states new : List ℕ) : Type 0 where
  pub each : (i : ℕ) → i < patterns input.auto → flag_at new i ≤ 1
  pub exact : (side : Side) (x : Grammar) (symbols : List Mention) → Stands side x symbols input → (name : ExpandedName) → symbol_of symbols name ≡ a
      → (i : ℕ) → i < patterns input.auto → (flag_at new i ≡ 1) ↔ IsAroundBy side x name states (i + 1)
