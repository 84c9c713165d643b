-- Elements that are open, with their children so far and the states to which these lead.
use Rattle.std.specs.Prelude.{◌≡◌, ℕ, Bool, not, List, [], ◌∷◌, length, Some, slice_get}
use Rattle.tc_auto.specs.declared.auto.Auto.{Auto}
use Rattle.tc_model.specs.Names.{ExpandedName}
use Rattle.tc_model.specs.Trees.{Trees, none, element, beside, kept, is_white_space_only}
use Rattle.tc_model.specs.Grammars.{Grammar}
use Rattle.tc_model.specs.Symbols.{Mention, symbol_of}
use Rattle.tc_steps.specs.Led.{AreLed}
use Rattle.tc_steps.specs.Classes.{IsFor, IsKnown}
use Rattle.tc_steps.specs.declared.classes.Class.{Class}
use Rattle.tc_steps.specs.declared.levels.Level.{Level}

-- an element that is open: its name, and its children up to the last tag in it
pub record Open : Type 0 where
  pub name : ExpandedName
  pub kids : Trees

-- the innermost element with a text more, unless that is white space alone
abbrev pub with_text : List ℕ → List Open → List Open
with_text run [] = []
with_text run (o ∷ os) = record o { kids = beside o.kids (kept run none) } ∷ os

-- the innermost element with an element more
abbrev pub with_element : ExpandedName → Trees → List Open → List Open
with_element n kids [] = []
with_element n kids (o ∷ os) = record o { kids = beside o.kids (element n kids none) } ∷ os

module _ (x : Grammar) (symbols : List Mention) (classes : List Class) where
  -- an element is kept by its symbol and exactly the states to which its children lead
  pub record IsLevel (o : Open) (l : Level) : Type 0 where
    pub symbol : l.symbol.0 ≡ symbol_of symbols o.name
    pub known : IsKnown classes l.symbol.0
    pub led : AreLed x o.name o.kids l.states

  -- all of them, the innermost first, by their places
  abbrev pub AreLevels : List Level → List Open → Type 0
  AreLevels levels [] = Unit {0}
  AreLevels levels (o ∷ os) = ((l : Level) × (slice_get levels (length os) ≡ Some l) × IsLevel o l) × AreLevels levels os

-- where reading stands: in these elements, behind this text since the last tag
pub record IsWithin (x : Grammar) (automaton : Auto) (symbols : List Mention) (classes : List Class) (levels : List Level) (depth : ℕ) (has_text : Bool) (path : List Open) (run : List ℕ) : Type 0 where
  pub right : IsFor x automaton symbols classes
  pub counted : depth ≡ length path
  pub levels_are : AreLevels x symbols classes levels path
  pub text : has_text ≡ not (is_white_space_only run)
