-- A walk along all steps from number to number, and the components that it finds.
use Rattle.std.specs.Prelude.{◌≡◌, ◌<◌, ◌≤◌, ◌+◌, ◌*◌, ◌-◌, ◌⊎◌, ℕ, Bool, false, ◌==◌, List, [], ◌∷◌, ◌++◌, length, take, drop, max, slice_index, slice_index_or, slice_set}
use Rattle.std.specs.List.{Contains, All, sum_by}
use Rattle.tc_graph.specs.Graph.{Edge, IsGraph, Path}
use Rattle.tc_graph.specs.declared.cycles.State.{State}
use Rattle.tc_graph.specs.declared.cycles.State.TheVariants.{New, Open, Done}
use Rattle.tc_graph.specs.declared.cycles.Start.{Start}
use Rattle.tc_graph.specs.declared.cycles.Walk.{Walk}

-- a walk without addresses
pub record Stacks : Type 0 where
  pub states : List State
  pub stack : List ℕ
  pub starts : List Start
  pub steps : List ℕ
  pub order : List ℕ

abbrev pub seen : Walk → Stacks
seen w = record { states = w.states.items; stack = w.stack.items; starts = w.starts.items; steps = w.steps.items; order = w.order.items }

abbrev pub state_at : List State → ℕ → State
state_at states v = slice_index_or states v New

abbrev pub entered : ℕ → List ℕ → Stacks → Stacks
entered number row s = record {
  states = slice_set s.states number (Open (length s.stack));
  stack = s.stack ++ number ∷ [];
  starts = s.starts ++ (record { place = length s.stack; step = length s.steps }) ∷ [];
  steps = s.steps ++ row;
  order = s.order;
}

abbrev pub joined : List Start → Stacks → Stacks
joined starts s = record s { starts = starts }

-- the components that begin after a place are gone
pub record IsStarted (place : ℕ) (old new : List Start) : Type 0 where
  pub gone : List Start
  pub parts : old ≡ new ++ gone
  pub after : All (λ b. place < b.place) gone
  pub last : (new ≡ []) ⊎ ((front : List Start) × (b : Start) × (new ≡ front ++ b ∷ []) × (b.place ≤ place))

abbrev pub stepped : Stacks → Stacks
stepped s = record s { steps = take (length s.steps - 1) s.steps }

-- a component that begins at a place of the stack is left: what its numbers' states are then
abbrev pub IsClosedState : ℕ → ℕ → State → State → Type 0
IsClosedState place component New after = after ≡ New
IsClosedState place component (Open i) after = ((place ≤ i) × (after ≡ Done component)) ⊎ ((i < place) × (after ≡ Open i))
IsClosedState place component (Done c) after = after ≡ Done c

-- a number that wasn't come to is still to be done
abbrev pub weight : State → ℕ
weight New = 1
weight (Open i) = 0
weight (Done c) = 0

-- the numbers of a row are put into a component
pub record AreFinished (row : List ℕ) (component : ℕ) (old new : List State) : Type 0 where
  pub size : length new ≡ length old
  pub finished : (v : ℕ) → Contains row v → state_at new v ≡ Done component
  pub others : (v : ℕ) → (Contains row v → ⊥) → state_at new v ≡ state_at old v
  pub lighter : sum_by weight new ≤ sum_by weight old

-- the last component is left
pub record IsClosed (start : Start) (old new : Stacks) : Type 0 where
  pub states : AreFinished (drop start.place old.stack) (length old.order) old.states new.states
  pub stack : new.stack ≡ take start.place old.stack
  pub starts : new.starts ≡ take (length old.starts - 1) old.starts
  pub steps : new.steps ≡ old.steps
  pub order : new.order ≡ old.order ++ slice_index old.stack start.place ∷ []

abbrev pub IsAscending : List Start → Type 0
IsAscending [] = Unit {0}
IsAscending (b ∷ bs) = All (λ c. (b.place < c.place) × (b.step ≤ c.step)) bs × IsAscending bs

-- a step is to be taken that belongs to the component of this place, or to a later one
abbrev pub IsPending : Stacks → ℕ → ℕ → Type 0
IsPending s i j = (e : ℕ) × (e < length s.steps) × (slice_index s.steps e ≡ j) × ((b : Start) → Contains s.starts b → b.place ≤ i → b.step ≤ e)

abbrev pub IsFinished : Stacks → ℕ → Type 0
IsFinished s j = (c : ℕ) × (state_at s.states j ≡ Done c)

-- a number stands in the component of this place, or in a later one
abbrev pub IsStanding : Stacks → ℕ → ℕ → Type 0
IsStanding s i j = (p : ℕ) × (state_at s.states j ≡ Open p) × ((b : Start) → Contains s.starts b → b.place ≤ i → b.place ≤ p)

-- a step stands on its stack within the component of the number that it leaves
abbrev pub HasSource : List (List ℕ) → Stacks → ℕ → Type 0
HasSource rows s e = (i : ℕ) × (i < length s.stack) × Edge rows (slice_index s.stack i) (slice_index s.steps e)
    × ((b : Start) → Contains s.starts b → (b.step ≤ e → b.place ≤ i) × (b.place ≤ i → b.step ≤ e))

-- What holds all along a walk.
pub record IsWalk (rows : List (List ℕ)) (s : Stacks) : Type 0 where
  pub size : length s.states ≡ length rows
  pub stands : (i : ℕ) → i < length s.stack → state_at s.states (slice_index s.stack i) ≡ Open i
  pub stood : (v i : ℕ) → state_at s.states v ≡ Open i → (i < length s.stack) × (slice_index s.stack i ≡ v)
  pub counted : (v c : ℕ) → state_at s.states v ≡ Done c → c < length s.order
  pub ordered : (c : ℕ) → c < length s.order → state_at s.states (slice_index s.order c) ≡ Done c
  pub closed : (v c j : ℕ) → state_at s.states v ≡ Done c → Edge rows v j → (d : ℕ) × (state_at s.states j ≡ Done d) × (d ≤ c)
  pub joined : (u v c : ℕ) → state_at s.states u ≡ Done c → state_at s.states v ≡ Done c → (u ≡ v) ⊎ Path rows u v
  pub ascending : IsAscending s.starts
  pub within : (b : Start) → Contains s.starts b → (b.place < length s.stack) × (b.step ≤ length s.steps)
  pub bottom : (i : ℕ) → i < length s.stack → (b : Start) × Contains s.starts b × (b.place ≤ i)
  pub along : (i j : ℕ) → i < length s.stack → j < length s.stack → ((b : Start) → Contains s.starts b → b.place ≤ i → b.place ≤ j)
      → (i ≡ j) ⊎ Path rows (slice_index s.stack i) (slice_index s.stack j)
  pub source : (e : ℕ) → e < length s.steps → HasSource rows s e
  pub stepped : (i j : ℕ) → i < length s.stack → Edge rows (slice_index s.stack i) j → IsPending s i j ⊎ (IsFinished s j ⊎ IsStanding s i j)

-- numbers that were come to stay so
abbrev pub KeepsOld : Stacks → Stacks → Type 0
KeepsOld s t = (v : ℕ) → (state_at s.states v ≡ New → ⊥) → state_at t.states v ≡ New → ⊥

abbrev pub longest : List (List ℕ) → ℕ
longest [] = 0
longest (row ∷ rows) = max (length row) (longest rows)

-- how much is left to be done, at most
abbrev pub cost : List (List ℕ) → Stacks → ℕ
cost rows s = sum_by weight s.states * (2 + longest rows) + length s.steps + length s.starts

-- a walk, of which nothing stands on the stack
pub record IsAtRest (rows : List (List ℕ)) (s : Stacks) : Type 0 where
  pub graph : IsGraph rows
  pub walk : IsWalk rows s
  pub empty : s.stack ≡ []

-- a walk that goes on from the last component on the stack, which begins there
pub record IsUnderWay (rows : List (List ℕ)) (s : Stacks) (last_start : Start) : Type 0 where
  pub graph : IsGraph rows
  pub walk : IsWalk rows s
  pub last : (front : List Start) × (s.starts ≡ front ++ last_start ∷ [])

-- a number is come to, if it wasn't
pub record ComesTo (number : ℕ) (s t : Stacks) : Type 0 where
  pub old : KeepsOld s t
  pub here : state_at t.states number ≡ New → ⊥

-- Each number is in a component; those of one component lead to one another, and no step leads to a later component.
pub record AreComponents (rows : List (List ℕ)) (states : List State) (order : List ℕ) : Type 0 where
  pub size : length states ≡ length rows
  pub done : (v : ℕ) → v < length rows → (c : ℕ) × (state_at states v ≡ Done c) × (c < length order)
  pub ordered : (c : ℕ) → c < length order → state_at states (slice_index order c) ≡ Done c
  pub closed : (v c j : ℕ) → state_at states v ≡ Done c → Edge rows v j → (d : ℕ) × (state_at states j ≡ Done d) × (d ≤ c)
  pub joined : (u v c : ℕ) → state_at states u ≡ Done c → state_at states v ≡ Done c → (u ≡ v) ⊎ Path rows u v

-- both are in one component
abbrev pub same_component : State → State → Bool
same_component (Done c) (Done d) = c == d
same_component _ _ = false
