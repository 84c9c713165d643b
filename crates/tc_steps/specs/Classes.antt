-- What is worked out of symbols.
use Rattle.std.specs.Prelude.{◌≡◌, ◌+◌, ℕ, List, true, Some, slice_get}
use Rattle.tc_auto.specs.Stands as a
use Rattle.tc_auto.specs.declared.auto.Auto.{Auto}
use Rattle.tc_model.specs.Names.{ExpandedName}
use Rattle.tc_model.specs.Trees.{none}
use Rattle.tc_model.specs.Grammars.{Grammar}
use Rattle.tc_model.specs.Sheets.{Sheet}
use Rattle.tc_model.specs.States.{input}
use Rattle.tc_model.specs.Symbols.{Mention, symbol_of, symbols_of}
use Rattle.tc_steps.specs.Led.{AreAllowed, AreLed}
use Rattle.tc_steps.specs.declared.classes.Class.{Class}

-- the sets of a symbol are of element patterns and of states
pub record IsSized (automaton : Auto) (c : Class) : Type 0 where
  pub numbers : c.numbers.size ≡ a.patterns automaton + 1
  pub firsts : c.firsts.size ≡ a.states automaton

abbrev pub AreSized : Auto → List Class → Type 0
AreSized automaton classes = (k : ℕ) (c : Class) → slice_get classes k ≡ Some c → IsSized automaton c

-- what was worked out of a name
pub record IsClassOf (x : Grammar) (n : ExpandedName) (c : Class) : Type 0 where
  pub allowed : AreAllowed x n c.numbers
  pub led : AreLed x n none c.firsts

-- something is known now; what was known stays
pub record Learns (old new : Class) : Type 0 where
  pub known : new.known ≡ true
  pub stays : old.known ≡ true → new ≡ old

-- what is known of a symbol is right for each of its names
pub record IsClass (x : Grammar) (symbols : List Mention) (symbol : ℕ) (c : Class) : Type 0 where
  pub allowed : c.known ≡ true → (n : ExpandedName) → symbol_of symbols n ≡ symbol → AreAllowed x n c.numbers
  pub led : c.known ≡ true → (n : ExpandedName) → symbol_of symbols n ≡ symbol → AreLed x n none c.firsts

abbrev pub AreClasses : Grammar → List Mention → List Class → Type 0
AreClasses x symbols classes = (k : ℕ) (c : Class) → slice_get classes k ≡ Some c → IsClass x symbols k c

-- a name of this symbol was met
abbrev pub IsKnown : List Class → ℕ → Type 0
IsKnown classes symbol = (c : Class) × (slice_get classes symbol ≡ Some c) × (c.known ≡ true)

-- what is kept is right for a schema: its automaton, its symbols and what is worked out of them
pub record IsFor (x : Grammar) (automaton : Auto) (symbols : List Mention) (classes : List Class) : Type 0 where
  pub stands : a.Stands input x automaton
  pub other : Grammar
  pub sheet : Sheet
  pub symbols_are : symbols ≡ symbols_of x other sheet
  pub classes_are : AreClasses x symbols classes
