-- The automaton of a repetition accepts exactly one or more parts, one after the other.
use Rattle.std.proofs.Common.{◌≡◌, inl, inr, ℕ, refl, sym, subst}
use Rattle.tc_model.specs.Names.{ExpandedName}
use Rattle.tc_model.specs.Trees.{Trees, none, beside}
use Rattle.tc_model.specs.States.{Leaf, Automaton, Run, stay, step, AcceptsFrom, repeat_of}
use Rattle.tc_model.proofs.StatesJoins.{beside_none, front_split, joined_runs}

-- one or more parts that are accepted
pub data Copies (F : ℕ → ExpandedName → Trees → Type 0) (a : Automaton) : Trees → Type 0 where
  one_copy : {h : Trees} → AcceptsFrom F a 0 h → Copies F a h
  more_copies : {h k l : Trees} → l ≡ beside h k → AcceptsFrom F a 0 h → Copies F a k → Copies F a l

-- what is accepted from a state: the rest of one part, or that and more
data Rest (F : ℕ → ExpandedName → Trees → Type 0) (a : Automaton) (i : ℕ) (h : Trees) : Type 0 where
  last : AcceptsFrom F a i h → Rest F a i h
  before : {p q : Trees} → h ≡ beside p q → AcceptsFrom F a i p → Copies F a q → Rest F a i h

-- an edge from the start is one of the part's
from_start : (a : Automaton) {j : ℕ} {l : Leaf} → (repeat_of a).edge 0 l j → a.edge 0 l j
from_start a (inl e) = e
from_start a (inr (end, e)) = e

module _ {F : ℕ → ExpandedName → Trees → Type 0} (a : Automaton) where
  in_once : {i k : ℕ} {h : Trees} → Run F a.edge i h k → Run F (repeat_of a).edge i h k
  in_once stay = stay
  in_once (step f e r) = step f (inl e) (in_once r)

  from_state : {i k : ℕ} {h : Trees} → Run F (repeat_of a).edge i h k → a.accepting k → Rest F a i h
  from_state (stay {i}) acc = last (i, stay, acc)
  from_state (step {i} {j} {k} {l} f (inl e) r) acc = elim (from_state r acc) [
    | last (z, s, end) ↦ last (z, step f e s, end)
    | before {p} {q} is (z, s, end) copies ↦ let more = front_split p q f is in before more.2 (z, step more.1 e s, end) copies
  ]
  from_state (step {i} {j} {k} {l} {g} f (inr (accepts, e)) r) acc = elim (from_state r acc) [
    | last (z, s, end) ↦ before {p = none} {q = g} refl (i, stay, accepts) (one_copy (z, step f e s, end))
    | before {p} {q} is (z, s, end) copies ↦ let more = front_split p q f is in before {p = none} {q = g} refl (i, stay, accepts) (more_copies more.2 (z, step more.1 e s, end) copies)
  ]

  copies_of : {h : Trees} → Rest F a 0 h → Copies F a h
  copies_of (last one) = one_copy one
  copies_of (before is one copies) = more_copies is one copies

  pub repeats : {h : Trees} → AcceptsFrom F (repeat_of a) 0 h → Copies F a h
  repeats (k, r, acc) = copies_of (from_state r acc)

  put_before : {p q : Trees} → AcceptsFrom F a 0 p → AcceptsFrom F (repeat_of a) 0 q → AcceptsFrom F (repeat_of a) 0 (beside p q)
  put_before {p = p} (j, r, acc) (k, stay, end) = subst (AcceptsFrom F (repeat_of a) 0) (sym (beside_none p)) (j, in_once r, acc)
  put_before (j, r, acc) (k, step f e s, end) = (k, joined_runs (in_once r) (step f (inr (acc, from_start a e)) s), end)

  pub repeated : {h : Trees} → Copies F a h → AcceptsFrom F (repeat_of a) 0 h
  repeated (one_copy (k, r, acc)) = (k, in_once r, acc)
  repeated (more_copies is one copies) = subst (AcceptsFrom F (repeat_of a) 0) (sym is) (put_before one (repeated copies))
