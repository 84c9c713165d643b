-- What is known while a document is taken, and what elements and texts make of states.
use Rattle.std.specs.Prelude.{◌≡◌, ◌↔◌, ℕ}
use Rattle.tc_model.specs.Grammars.{Grammar}
use Rattle.tc_model.specs.Names.{ExpandedName}
use Rattle.tc_model.specs.Symbols.{symbol_of}
use Rattle.tc_model.specs.Trees.{Trees}
use Rattle.tc_sets.specs.Numbers.{Numbers, Has}
use Rattle.tc_steps.specs.Classes.{IsFor, IsKnown}
use Rattle.tc_steps.specs.Led.{AreLed}
use Rattle.tc_steps.specs.Numbered.{AreStates, Grown, AreSteps, AreNames, PassesText, PassesElement}
use Rattle.tc_steps.specs.declared.known_sets.States.{States}
use Rattle.tc_steps.specs.declared.moves.Moves.{Moves}
use Rattle.tc_steps.specs.declared.moves.Opened.{Opened}

-- a set has the numbers of the set of states
abbrev pub IsCopyOf : Moves → States → Numbers → Type 0
IsCopyOf m states s = (t : Numbers) × AreStates m.sets.sets.keys states t × ((j : ℕ) → Has s j ↔ Has t j)

-- a name of the symbol of an element was met
abbrev pub IsMet : Moves → Opened → Type 0
IsMet m o = IsKnown m.steps.classes.items o.symbol.0

module _ (x : Grammar) where
  -- what is known is right for a schema
  pub record AreRight (m : Moves) : Type 0 where
    pub right : IsFor x m.steps.auto.now m.steps.alphabet.now m.steps.classes.items
    pub steps : AreSteps x m.steps.alphabet.now m.sets.sets.keys m.known
    pub names : AreNames x m.steps.alphabet.now m.sets.sets.keys m.steps.classes.items m.names

  -- it still is, and what is known of symbols and sets stays
  pub record Keeps (old new : Moves) : Type 0 where
    pub right : AreRight new
    pub symbols : new.steps.alphabet.now ≡ old.steps.alphabet.now
    pub known : (k : ℕ) → IsKnown old.steps.classes.items k → IsKnown new.steps.classes.items k
    pub sets : Grown old.sets.sets.keys new.sets.sets.keys

  -- an element of this name, with these children so far: its symbol, and exactly the states to which the children lead the first states of the contents that the name allows
  pub record IsElement (m : Moves) (n : ExpandedName) (kids : Trees) (o : Opened) : Type 0 where
    pub symbol : o.symbol.0 ≡ symbol_of m.steps.alphabet.now n
    pub known : IsMet m o
    pub set : Numbers
    pub states : AreStates m.sets.sets.keys o.states set
    pub led : AreLed x n kids set

  -- states behind a text, and behind an element
  pub record IsAfterText (m : Moves) (from to : States) : Type 0 where
    pub first : Numbers
    pub last : Numbers
    pub first_at : AreStates m.sets.sets.keys from first
    pub last_at : AreStates m.sets.sets.keys to last
    pub passes : PassesText x first last

  pub record IsAfterElement (m : Moves) (inner : Opened) (from to : States) : Type 0 where
    pub ends : Numbers
    pub first : Numbers
    pub last : Numbers
    pub ends_at : AreStates m.sets.sets.keys inner.states ends
    pub first_at : AreStates m.sets.sets.keys from first
    pub last_at : AreStates m.sets.sets.keys to last
    pub passes : PassesElement x m.steps.alphabet.now inner.symbol.0 ends first last
