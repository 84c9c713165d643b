-- What stands in a pattern.
use Rattle.std.specs.Prelude.{◌≡◌, ◌<◌, ◌≤◌, ◌⊎◌, ℕ, zero, suc, length, Bool, true, false, List, [], ◌∷◌, ◌++◌, Option, None, Some, slice_get, map, if◌then◌else◌}
use Rattle.std.specs.List.{Contains, filter_map, flat_map, list_all}
use Rattle.tc_model.specs.SimplifiesFaults.{may_start}
use Rattle.tc_model.specs.Views as see
use Rattle.tc_model.specs.CompactSyntaxTrees.{SyntaxPattern, empty, not_allowed, text, attribute, ref, element, mixed, optional, zero_or_more, one_or_more, group, choice, interleave, SyntaxPatterns, no_more, more, Definition}
use Rattle.tc_model.specs.Simplifies.{Element}
use Rattle.tc_rnc.specs.Views as seen
use Rattle.tc_rnc.specs.declared.syntax.SPat.{SPat}
use Rattle.tc_graph.specs.Graph.{is_marked}
use Rattle.tc_simple.specs.Tables.{number_of}
use Rattle.tc_graph.specs.Walks.{same_component, state_at}
use Rattle.tc_graph.specs.declared.cycles.State.{State}
use Rattle.tc_simple.specs.declared.elements.Elem.{Elem}
use Rattle.tc_simple.specs.declared.groups.Table.{Table}

abbrev mutual
  -- a pattern and all that stand in it, in the order of the text; within its elements too, or not
  pub nodes : Bool → SyntaxPattern → List SyntaxPattern
  nodes within empty = empty ∷ []
  nodes within not_allowed = not_allowed ∷ []
  nodes within text = text ∷ []
  nodes within attribute = attribute ∷ []
  nodes within (ref n place) = ref n place ∷ []
  nodes within (element place c p) = element place c p ∷ (if within then nodes within p else [])
  nodes within (mixed p) = mixed p ∷ nodes within p
  nodes within (optional p) = optional p ∷ nodes within p
  nodes within (zero_or_more p) = zero_or_more p ∷ nodes within p
  nodes within (one_or_more p) = one_or_more p ∷ nodes within p
  nodes within (group ps) = group ps ∷ nodes_of_all within ps
  nodes within (choice ps) = choice ps ∷ nodes_of_all within ps
  nodes within (interleave ps) = interleave ps ∷ nodes_of_all within ps

  pub nodes_of_all : Bool → SyntaxPatterns → List SyntaxPattern
  nodes_of_all within no_more = []
  nodes_of_all within (more p ps) = nodes within p ++ nodes_of_all within ps

-- the number of the name that is referred to
abbrev pub target : Table → SyntaxPattern → Option ℕ
target t (ref n place) = number_of t n
target t _ = None

abbrev pub element_of : SyntaxPattern → Option Element
element_of (element place c p) = Some (record { place = place; names = c; content = p })
element_of _ = None

-- the place of a reference that lies on a cycle, where it stands in the definition of this number
abbrev pub loop_at : Table → List State → ℕ → SyntaxPattern → Option ℕ
loop_at t states k (ref n place) = elim (number_of t n) [ Some j ↦ (if same_component (state_at states k) (state_at states j) then Some place else None) | None ↦ None ]
loop_at t states k _ = None

-- names have numbers below this
abbrev pub HasNumbersBelow : Table → ℕ → Type 0
HasNumbersBelow t count = (n : List ℕ) (k : ℕ) → number_of t n ≡ Some k → k < count

-- whether the definition of a name is marked
abbrev pub is_marked_name : Table → List Bool → List ℕ → Bool
is_marked_name t marks n = elim (number_of t n) [ Some k ↦ is_marked marks k | None ↦ false ]

abbrev pub see_element : Elem → Element
see_element e = record { place = see.place e.place; names = seen.class e.names; content = seen.pattern e.content }

-- the elements of a definition whose name is marked, and of all of them
abbrev pub marked_elements : Table → List Bool → Definition → List Element
marked_elements t marks d = if is_marked_name t marks d.name then filter_map element_of (nodes true d.body) else []

abbrev pub elements_of : Table → List Bool → List Definition → List Element
elements_of t marks ds = flat_map (marked_elements t marks) ds

-- the places of the references that lie on cycles, in the definition of a number if it is marked, and in the first so many
abbrev pub pattern_at : Table → ℕ → Option SPat
pattern_at t k = slice_get t.patterns.items k

abbrev pub marked_loops : Table → List State → List Bool → ℕ → List ℕ
marked_loops t states marks k =
    if is_marked marks k then (elim (pattern_at t k) [ Some p ↦ filter_map (loop_at t states k) (nodes false (seen.pattern p)) | None ↦ [] ]) else []

abbrev pub loops_below : Table → List State → List Bool → ℕ → List ℕ
loops_below t states marks zero = []
loops_below t states marks (suc k) = loops_below t states marks k ++ marked_loops t states marks k

-- the least of them, if there is one
abbrev pub IsLeast : List ℕ → Option ℕ → Type 0
IsLeast places None = places ≡ []
IsLeast places (Some least) = Contains places least × ((place : ℕ) → Contains places place → least ≤ place)

abbrev pub IsLesser : Option ℕ → ℕ → ℕ → Type 0
IsLesser None place least = least ≡ place
IsLesser (Some other) place least = ((least ≡ place) × (place ≤ other)) ⊎ ((least ≡ other) × (other ≤ place))

abbrev pub IsFirstLoop : Table → List State → List Bool → Option ℕ → Type 0
IsFirstLoop t states marks first = IsLeast (loops_below t states marks (length t.patterns.items)) first

-- all that stands in the first so many definitions, if they are marked, and outside their elements, may stand at the start
abbrev pub StartsWell : Table → List Bool → ℕ → Type 0
StartsWell t marks count = (k : ℕ) (p : SPat) → k < count → is_marked marks k ≡ true → pattern_at t k ≡ Some p → list_all may_start (nodes false (seen.pattern p)) ≡ true

abbrev pub StartsBadly : Table → List Bool → Type 0
StartsBadly t marks = (k : ℕ) × (p : SPat) × (is_marked marks k ≡ true) × (pattern_at t k ≡ Some p) × (list_all may_start (nodes false (seen.pattern p)) ≡ false)

-- of each definition the numbers to which it refers; within its elements too, or not
abbrev pub link_rows : Table → Bool → List (List ℕ)
link_rows t within = map (λ p. filter_map (target t) (nodes within (seen.pattern p))) t.patterns.items
