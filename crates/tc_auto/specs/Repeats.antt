-- Lists of edges with more edges.
use Rattle.std.specs.Prelude.{◌≡◌, ◌↔◌, ◌⊎◌, ℕ, List}
use Rattle.tc_model.specs.States as s
use Rattle.tc_auto.specs.declared.nfa.Transition.{Transition}
use Rattle.tc_auto.specs.Steps.{leaf, HasStep, Has}

-- a list has the edges of another, and those that are gained
abbrev pub Gains : List Transition → List Transition → (ℕ → s.Leaf → ℕ → Type 0) → Type 0
Gains old new Gained = (i j : ℕ) (l : s.Leaf) → HasStep new i l j ↔ (HasStep old i l j ⊎ Gained i l j)

-- it is this edge
abbrev pub IsThis : Transition → ℕ → s.Leaf → ℕ → Type 0
IsThis x i l j = (x.from ≡ i) × (leaf x.leaf ≡ l) × (x.to ≡ j)

-- an edge from a state to where one of the list leads, by its leaf
abbrev pub LeadsFrom : ℕ → List Transition → ℕ → s.Leaf → ℕ → Type 0
LeadsFrom from firsts i l j = (x : ℕ) × (from ≡ i) × HasStep firsts x l j

-- the same from one of some states
abbrev pub LeadsFromSome : List ℕ → List Transition → ℕ → s.Leaf → ℕ → Type 0
LeadsFromSome states firsts i l j = (x : ℕ) × Has states i × HasStep firsts x l j
