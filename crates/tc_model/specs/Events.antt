-- Trees piece by piece, in the order of their text.
use Rattle.std.specs.Prelude.{ℕ, List, [], ◌∷◌, ◌++◌}
use Rattle.tc_model.specs.Names.{ExpandedName}
use Rattle.tc_model.specs.Trees.{Trees, none, text, element}

-- a text, the start of an element with this name, or the end of the one that has started last
pub data Event : Type 0 where
  characters : List ℕ → Event
  start : ExpandedName → Event
  end : Event

abbrev pub events : Trees → List Event
events none = []
events (text s rest) = characters s ∷ events rest
events (element n kids rest) = start n ∷ (events kids ++ end ∷ events rest)

-- what events in turn make of a state, where `one` says what one of them makes of it
pub data Takes {S : Type 0} (one : S → Event → S → Type 0) : S → List Event → S → Type 0 where
  nothing : {s : S} → Takes one s [] s
  event : {s t u : S} {e : Event} {es : List Event} → one s e t → Takes one t es u → Takes one s (e ∷ es) u
