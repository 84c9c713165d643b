-- Rows that may stand in the same places, and what is known to be dead of them.
-- A kind is a state of the input's automata, determinised.
use Rattle.std.specs.Prelude.{◌≡◌, ◌<◌, ◌≤◌, ◌⊎◌, ◌+◌, ℕ, List, [], length, get_or}
use Rattle.tc_model.specs.States.{input, state_count}
use Rattle.tc_mat.specs.Matrix.{Matrix}
use Rattle.tc_rows.specs.Triples.{Triple, entries}
use Rattle.tc_rows.specs.Arithmetic.{IsLiveAppend, IsLiveWrap}
use Rattle.tc_beh.specs.Rooms.{flags_in, hedge_row, tree_row}
use Rattle.tc_beh.specs.declared.machine.Shape.{Shape}
use Rattle.tc_close.specs.NumberTables.{HasPair}
use Rattle.tc_close.specs.declared.kinds.Alike.{Alike}
use Rattle.tc_close.specs.declared.kinds.Kinds.{Kinds}

-- two rows have the same number at the front and the same flags
pub record AreAlike (flags : ℕ) (a b : List ℕ) : Type 0 where
  pub head : get_or a 0 0 ≡ get_or b 0 0
  pub same : flags_in flags a ≡ flags_in flags b

-- the list of the first place is there, and like that of the second
abbrev pub IsLike : ℕ → List (List ℕ) → ℕ → ℕ → Type 0
IsLike flags lists k place = (k < length lists) × AreAlike flags (get_or lists k []) (get_or lists place [])

-- and has the same flag of bearing
pub record IsCore (flags : ℕ) (lists : List (List ℕ)) (k place : ℕ) : Type 0 where
  pub like : IsLike flags lists k place
  pub bears : get_or (get_or lists k []) 1 0 ≡ get_or (get_or lists place []) 1 0

-- what is known of lists by their kind holds of these
pub record AreFit (lists : List (List ℕ)) (a : Alike) : Type 0 where
  pub few : a.flags ≤ 8589934590
  pub count : length a.of.items ≤ length lists
  pub each : (u : ℕ) → u < length a.of.items → IsLike a.flags lists (get_or a.of.items u 0) u

pub record FitLists (hedges trees : List (List ℕ)) (k : Kinds) : Type 0 where
  pub of_hedges : AreFit hedges k.hedges
  pub of_trees : AreFit trees k.trees
  pub of_cores : AreFit hedges k.cores

pub record KnowsNothing (s : Shape) (k : Kinds) : Type 0 where
  pub of_hedges : k.hedges.of.items ≡ []
  pub states_are : k.hedges.flags ≡ s.inputs
  pub of_trees : k.trees.of.items ≡ []
  pub patterns_are : k.trees.flags ≡ s.patterns
  pub of_cores : k.cores.of.items ≡ []
  pub core_is : k.cores.flags ≡ s.inputs + s.entries
  pub no_append : (i j : ℕ) → ¬ HasPair k.appends.places.items i j
  pub no_wrap : (a i : ℕ) → ¬ HasPair k.wraps.places.items a i

-- both have a kind, and these are remembered
abbrev pub KnowsAppend : Kinds → ℕ → ℕ → Type 0
KnowsAppend k h t = (h < length k.hedges.of.items) × (t < length k.trees.of.items) × HasPair k.appends.places.items (get_or k.hedges.of.items h 0) (get_or k.trees.of.items t 0)

abbrev pub KnowsWrap : Kinds → ℕ → ℕ → Type 0
KnowsWrap k a h = (h < length k.hedges.of.items) × HasPair k.wraps.places.items a (get_or k.hedges.of.items h 0)

-- at most the pair of two that are like these comes on
pub record LearnsAppend (hedges trees : List (List ℕ)) (h t : ℕ) (old new : Kinds) : Type 0 where
  pub states_stay : new.hedges.flags ≡ old.hedges.flags
  pub patterns_stay : new.trees.flags ≡ old.trees.flags
  pub comes : (i j : ℕ) → HasPair new.appends.places.items i j
      → HasPair old.appends.places.items i j ⊎ (IsLike new.hedges.flags hedges i h × IsLike new.trees.flags trees j t)
  pub wraps_stay : new.wraps ≡ old.wraps
  pub cores_stay : new.cores ≡ old.cores

pub record LearnsWrap (hedges : List (List ℕ)) (a h : ℕ) (old new : Kinds) : Type 0 where
  pub states_stay : new.hedges.flags ≡ old.hedges.flags
  pub comes : (b i : ℕ) → HasPair new.wraps.places.items b i → HasPair old.wraps.places.items b i ⊎ ((b ≡ a) × IsLike new.hedges.flags hedges i h)
  pub appends_stay : new.appends ≡ old.appends
  pub cores_stay : new.cores ≡ old.cores

-- at most cores come on
pub record LearnsCore (hedges : List (List ℕ)) (old new : Kinds) : Type 0 where
  pub fit : AreFit hedges new.cores
  pub core_stays : new.cores.flags ≡ old.cores.flags
  pub hedges_stay : new.hedges ≡ old.hedges
  pub trees_stay : new.trees ≡ old.trees
  pub appends_stay : new.appends ≡ old.appends
  pub wraps_stay : new.wraps ≡ old.wraps

-- over each of these triples, whatever sets are held: no tree of a row like the second can stand behind trees of a row like the first
abbrev pub IsDeadAppend : (Triple → Type 0) → List ℕ → List ℕ → Type 0
IsDeadAppend IsOf hs ts = (x : Triple) → IsOf x → (held : List Matrix) → ¬ IsLiveAppend x (hedge_row x held hs) (tree_row x held ts)

abbrev pub IsDeadWrap : (Triple → Type 0) → ℕ → List ℕ → Type 0
IsDeadWrap IsOf a hs = (x : Triple) → IsOf x → (held : List Matrix) → ¬ IsLiveWrap x a (hedge_row x held hs)

-- what is known is true of the rows that are held
pub record AreTrue (IsOf : Triple → Type 0) (hedges trees : List (List ℕ)) (k : Kinds) : Type 0 where
  pub states : (x : Triple) → IsOf x → k.hedges.flags ≡ state_count x.input input
  pub patterns : (x : Triple) → IsOf x → k.trees.flags ≡ length x.input.elements
  pub core : (x : Triple) → IsOf x → k.cores.flags ≡ state_count x.input input + entries x
  pub fit : FitLists hedges trees k
  pub appends : (i j : ℕ) → HasPair k.appends.places.items i j → (i < length hedges) × (j < length trees) × IsDeadAppend IsOf (get_or hedges i []) (get_or trees j [])
  pub wraps : (a i : ℕ) → HasPair k.wraps.places.items a i → (i < length hedges) × IsDeadWrap IsOf a (get_or hedges i [])
