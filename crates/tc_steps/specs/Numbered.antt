-- Sets of states that are known by their numbers, and what is remembered of steps between them and of names.
use Rattle.std.specs.Prelude.{◌≡◌, ℕ, List, false, Option, Some, All, IfSome, slice_get}
use Rattle.tc_model.specs.Grammars.{Grammar}
use Rattle.tc_model.specs.Names.{ExpandedName}
use Rattle.tc_model.specs.Symbols.{Mention, symbol_of}
use Rattle.tc_model.specs.Trees.{Trees, none, text, element, beside, is_white_space_only}
use Rattle.tc_model.specs.Views.{name}
use Rattle.tc_sets.specs.Numbers.{Numbers}
use Rattle.tc_steps.specs.Classes.{IsKnown}
use Rattle.tc_steps.specs.Led.{AreLed}
use Rattle.tc_steps.specs.declared.classes.Class.{Class}
use Rattle.tc_steps.specs.declared.known_names.Entry.{Entry}
use Rattle.tc_steps.specs.declared.known_names.KnownNames.{KnownNames}
use Rattle.tc_steps.specs.declared.known_names.Named.{Named}
use Rattle.tc_steps.specs.declared.known_sets.States.{States}
use Rattle.tc_steps.specs.declared.known_sets.States.TheVariants.{Numbered, Own}
use Rattle.tc_steps.specs.declared.known_steps.Child.{Child}
use Rattle.tc_steps.specs.declared.known_steps.Child.TheVariants.{Text, Element}
use Rattle.tc_steps.specs.declared.known_steps.KnownSteps.{KnownSteps}
use Rattle.tc_steps.specs.declared.known_steps.Step.{Step}

-- states are this set: that of their number, or their own
abbrev pub AreStates : List Numbers → States → Numbers → Type 0
AreStates sets (Numbered k) s = slice_get sets k ≡ Some s
AreStates sets (Own t) s = t ≡ s

-- the set of each number is what it was
abbrev pub Grown : List Numbers → List Numbers → Type 0
Grown old new = (k : ℕ) (s : Numbers) → slice_get old k ≡ Some s → slice_get new k ≡ Some s

module _ (x : Grammar) where
  -- behind a text, the one set is exactly of the states to which children lead, where the other is before it
  abbrev pub PassesText : Numbers → Numbers → Type 0
  PassesText s t = (n : ExpandedName) (kids : Trees) (run : List ℕ) → is_white_space_only run ≡ false → AreLed x n kids s → AreLed x n (beside kids (text run none)) t

  -- the same behind an element of a symbol, whose children lead to a set
  abbrev pub PassesElement : List Mention → ℕ → Numbers → Numbers → Numbers → Type 0
  PassesElement symbols symbol e s t = (n m : ExpandedName) (kids inside : Trees) → symbol ≡ symbol_of symbols m → AreLed x m inside e → AreLed x n kids s → AreLed x n (beside kids (element m inside none)) t

  module _ (symbols : List Mention) (sets : List Numbers) where
    abbrev pub Passes : Child → Numbers → Numbers → Type 0
    Passes Text s t = PassesText s t
    Passes (Element symbol ends) s t = (e : Numbers) × (slice_get sets ends ≡ Some e) × PassesElement symbols symbol.0 e s t

    -- a step from the set of a number over a child to that of a number
    pub record IsStep (from : ℕ) (child : Child) (to : ℕ) : Type 0 where
      pub first : Numbers
      pub last : Numbers
      pub first_at : slice_get sets from ≡ Some first
      pub last_at : slice_get sets to ≡ Some last
      pub passes : Passes child first last

    -- all that is remembered are steps
    pub record AreSteps (known : KnownSteps) : Type 0 where
      pub steps : All (λ (o : Option Step). IfSome o (λ (s : Step). IsStep s.from s.child s.to)) known.places.items

    -- the symbol of a name, which is known, and the number of the states to which no children lead
    pub record IsEntry (classes : List Class) (n : ExpandedName) (e : Entry) : Type 0 where
      pub symbol : e.symbol.0 ≡ symbol_of symbols n
      pub known : IsKnown classes e.symbol.0
      pub states : Numbers
      pub states_at : slice_get sets e.first ≡ Some states
      pub led : AreLed x n none states

    -- all that is remembered of names is so
    pub record AreNames (classes : List Class) (known : KnownNames) : Type 0 where
      pub names : All (λ (o : Option Named). IfSome o (λ (k : Named). IsEntry classes (name k.name) k.entry)) known.places.items
