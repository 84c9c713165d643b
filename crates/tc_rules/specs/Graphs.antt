-- The states of a path by number, and how they lead to one another, as tables.
use Rattle.std.specs.Prelude.{◌≡◌, ◌<◌, ◌^◌, ℕ, List, [], ◌∷◌, length, Bool, true, false, Option, None, Some, slice_get, slice_index, get_or}
use Rattle.tc_model.specs.Sheets.{Steps, no_step, step, Path, no_alternative, alternative, Test}
use Rattle.tc_model.specs.Symbols.{Mention, symbol_count}
use Rattle.tc_model.specs.Letters.{Kind, of_symbol, of_text, Letter, IsLetter, fits_letter}
use Rattle.tc_model.specs.PathStates.{Items, State, first_state, next_state}
use Rattle.tc_model.specs.Numberings.{letters_of_elements, AreReached}

pub record Graph : Type 0 where
  pub states : List State
  -- the class of each symbol: the steps of the path can't tell symbols of one class apart
  pub classes : List ℕ
  -- which steps fit an element, for each class and each set of predicates, and a text, for each set
  pub fits : List (List State)
  pub texts : List State
  -- the number of the state to which a state leads, for each state, each class and each set
  pub next : List (List (List (Option ℕ)))

abbrev pub class_of : Graph → ℕ → ℕ
class_of g k = slice_index g.classes k

-- the kind of an element of a symbol, or of a text
abbrev pub kind_at : Option ℕ → Kind
kind_at (Some k) = of_symbol k
kind_at None = of_text

-- which steps fit a letter, as the tables have it
abbrev pub fits_at : Graph → Letter → Option State
fits_at g l = elim l.kind [ of_symbol k ↦ slice_get (get_or g.fits (class_of g k) []) l.marks | of_text ↦ slice_get g.texts l.marks ]

-- where a state leads
abbrev pub next_at : Graph → ℕ → ℕ → ℕ → Option (Option ℕ)
next_at g i k marks = slice_get (get_or (get_or g.next i []) (class_of g k) []) marks

-- the number of a state, where it counts
abbrev pub LeadsTo : (State → Bool) → Graph → Option ℕ → State → Type 0
LeadsTo counts g None x = counts x ≡ false
LeadsTo counts g (Some j) x = (counts x ≡ true) × (slice_get g.states j ≡ Some x)

module _ (symbols : List Mention) (predicates : List Test) where
  -- which steps of a path fit a letter
  abbrev pub steps_fit : Steps → Letter → Items
  steps_fit no_step l = []
  steps_fit (step deep test when ss) l = fits_letter symbols predicates test when l ∷ steps_fit ss l

  abbrev pub path_fits : Path → Letter → State
  path_fits no_alternative l = []
  path_fits (alternative ss p) l = steps_fit ss l ∷ path_fits p l

  -- the tables are those of a path, of which the states that count are numbered
  pub record IsGraphOf (counts : State → Bool) (p : Path) (g : Graph) : Type 0 where
    pub states : AreReached counts (next_state symbols predicates p) (letters_of_elements symbols predicates) (first_state p) g.states
    pub classes : length g.classes ≡ symbol_count symbols
    pub fits : (l : Letter) → IsLetter symbols predicates l → fits_at g l ≡ Some (path_fits p l)
    pub next : (i : ℕ) (x : State) (k marks : ℕ) → slice_get g.states i ≡ Some x → k < symbol_count symbols → marks < 2 ^ length predicates
        → (j : Option ℕ) × (next_at g i k marks ≡ Some j) × LeadsTo counts g j (next_state symbols predicates p x (record { kind = of_symbol k; marks = marks }))
