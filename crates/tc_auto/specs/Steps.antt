-- Edges and accepting states as lists, and the automaton that they show.
use Rattle.std.specs.Prelude.{◌≡◌, ◌<◌, ◌↔◌, ◌⊎◌, ℕ, zero, suc, ◌+◌, ◌*◌, ◌==◌, List, [], ◌∷◌, ◌++◌, map, if◌then◌else◌}
use Rattle.std.specs.List.{Contains}
use Rattle.tc_model.specs.States as s
use Rattle.tc_model.specs.States.{Automaton, text_leaf, ref_leaf}
use Rattle.tc_auto.specs.declared.auto.Edge.{Edge}
use Rattle.tc_auto.specs.declared.auto.Leaf.{Leaf}
use Rattle.tc_auto.specs.declared.auto.Leaf.TheVariants.{Text, Ref}
use Rattle.tc_auto.specs.declared.nfa.Transition.{Transition}
use Rattle.tc_auto.specs.declared.nfa.Nfa.{Nfa}

abbrev pub leaf : Leaf → s.Leaf
leaf Text = text_leaf
leaf (Ref k) = ref_leaf k

-- one of the list leads from i to j by a leaf
pub data HasStep : List Transition → ℕ → s.Leaf → ℕ → Type 0 where
  first_step : {x : Transition} {xs : List Transition} {i j : ℕ} {l : s.Leaf} → x.from ≡ i → leaf x.leaf ≡ l → x.to ≡ j → HasStep (x ∷ xs) i l j
  later_step : {x : Transition} {xs : List Transition} {i j : ℕ} {l : s.Leaf} → HasStep xs i l j → HasStep (x ∷ xs) i l j

-- one of the list is j
pub data Has : List ℕ → ℕ → Type 0 where
  has_first : {x : ℕ} {xs : List ℕ} {j : ℕ} → x ≡ j → Has (x ∷ xs) j
  has_later : {x : ℕ} {xs : List ℕ} {j : ℕ} → Has xs j → Has (x ∷ xs) j

-- so many states, these edges and these accepting states are those of the automaton
pub record Shown (count : ℕ) (steps : List Transition) (ends : List ℕ) (a : Automaton) : Type 0 where
  pub counted : count ≡ a.count
  pub edge : (i j : ℕ) (l : s.Leaf) → HasStep steps i l j ↔ a.edge i l j
  pub accepting : (j : ℕ) → Has ends j ↔ a.accepting j

abbrev pub Shows : Nfa → Automaton → Type 0
Shows part a = Shown part.count part.steps.items part.accepting.items a

-- there is a state, and no edge or accepting state is past the states
pub record IsWithin (part : Nfa) : Type 0 where
  pub some : 0 < part.count
  pub steps : (x : Transition) → Contains part.steps.items x → (x.from < part.count) × (x.to < part.count)
  pub ends : (j : ℕ) → Contains part.accepting.items j → j < part.count

-- an edge from each of some states
abbrev pub from_each : List ℕ → Leaf → ℕ → List Transition
from_each [] l j = []
from_each (i ∷ is) l j = record { from = i; leaf = l; to = j } ∷ from_each is l j

-- an edge of a second automaton, moved by a number; one from its state 0 from each of some states
abbrev pub moved : ℕ → List ℕ → Transition → List Transition
moved by starts x = if x.from == 0 then from_each starts x.leaf (by + x.to) else (record { from = by + x.from; leaf = x.leaf; to = by + x.to } ∷ [])

abbrev pub carried : ℕ → List ℕ → List Transition → List Transition
carried by starts [] = []
carried by starts (x ∷ xs) = moved by starts x ++ carried by starts xs

-- a state moved by a number, unless it is 0
abbrev pub unless_start : ℕ → ℕ → List ℕ
unless_start by j = if j == 0 then [] else ((by + j) ∷ [])

abbrev pub later : ℕ → List ℕ → List ℕ
later by [] = []
later by (j ∷ js) = unless_start by j ++ later by js

-- an edge of a first automaton beside so many states of a second, of which there are count
abbrev pub beside_second : Transition → ℕ → ℕ → List Transition
beside_second x count zero = []
beside_second x count (suc y) = beside_second x count y ++ (record { from = x.from * count + y; leaf = x.leaf; to = x.to * count + y } ∷ [])

-- an edge of the second beside so many states of the first
abbrev pub beside_first : Transition → ℕ → ℕ → List Transition
beside_first x count zero = []
beside_first x count (suc k) = beside_first x count k ++ (record { from = k * count + x.from; leaf = x.leaf; to = k * count + x.to } ∷ [])

abbrev pub all_beside_second : List Transition → ℕ → List Transition
all_beside_second [] count = []
all_beside_second (x ∷ xs) count = beside_second x count count ++ all_beside_second xs count

abbrev pub all_beside_first : List Transition → ℕ → ℕ → List Transition
all_beside_first [] count first_count = []
all_beside_first (x ∷ xs) count first_count = beside_first x count first_count ++ all_beside_first xs count first_count

-- the pairs of a state and each of some others
abbrev pub pairs : ℕ → ℕ → List ℕ → List ℕ
pairs count x [] = []
pairs count x (y ∷ ys) = (x * count + y) ∷ pairs count x ys

abbrev pub all_pairs : ℕ → List ℕ → List ℕ → List ℕ
all_pairs count [] ys = []
all_pairs count (x ∷ xs) ys = pairs count x ys ++ all_pairs count xs ys

-- the edges of a state, moved by a number
abbrev pub edges_from : ℕ → ℕ → List Transition → List Edge
edges_from base i [] = []
edges_from base i (x ∷ xs) = (if x.from == i then (record { to = base + x.to; leaf = x.leaf } ∷ []) else []) ++ edges_from base i xs
