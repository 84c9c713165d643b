-- The last of a list, and what is left without it.
use Rattle.std.proofs.Common.{◌≡◌, ◌≢◌, ◌⊎◌, inr, ℕ, zero, suc, ◌-◌, ◌<◌, ◌≤◌, List, [], ◌∷◌, ◌++◌, refl, ap, ◌∙◌, sym, subst, arith, length, get_or, take, slice_index, length-append, append_assoc, Some, None, slice_get, Result, Ok, Err, OnOk, IsErrAnd}
use Rattle.std.proofs.lemmas.List.{get_or_read}
use Rattle.std.proofs.lemmas.List.Elements.{Contains-push, All-cons}
use Rattle.std.specs.List.{All, Contains}
use Rattle.tc_graph.specs.Graph.{IsGraph}
use Rattle.tc_graph.specs.Walks.{Stacks, state_at, IsWalk}
use Rattle.tc_graph.specs.declared.cycles.State.{State}
use Rattle.tc_graph.specs.declared.cycles.State.TheVariants.{New}
use Rattle.tc_graph.specs.declared.cycles.Start.{Start}

some_is : {X : Type 0} {x y : X} → Some y ≡ Some x → y ≡ x
some_is e = cc

none_is : {X : Type 0} {x : X} → None ≡ Some x → ⊥
none_is e = cc

last_at_place : {X : Type 0} (xs : List X) (k : ℕ) (x : X) → length xs ≡ suc k → slice_get xs k ≡ Some x → (front : List X) × (xs ≡ front ++ x ∷ [])
last_at_place [] k x h e = absurd (omega (arith, h))
last_at_place (y ∷ []) zero x h e = ([], ap (λ z. z ∷ []) (some_is e))
last_at_place (y ∷ []) (suc k) x h e = absurd (omega (arith, h))
last_at_place (y ∷ z ∷ zs) zero x h e = absurd (omega (arith, h))
last_at_place (y ∷ z ∷ zs) (suc k) x h e = let (front, parts) = last_at_place (z ∷ zs) k x (omega (arith, h)) e in (y ∷ front, ap (λ w. y ∷ w) parts)

pub last_of : {X : Type 0} (xs : List X) (x : X) → slice_get xs (length xs - 1) ≡ Some x → (front : List X) × (xs ≡ front ++ x ∷ [])
last_of [] x e = absurd (none_is e)
last_of (y ∷ ys) x e =
    let is : length (y ∷ ys) - 1 ≡ length ys = omega arith in
    last_at_place (y ∷ ys) (length ys) x refl (subst (λ k. slice_get (y ∷ ys) k ≡ Some x) is e)

pub nothing_last : {X : Type 0} (xs : List X) → slice_get xs (length xs - 1) ≡ None → xs ≡ []
nothing_last [] e = refl
nothing_last (y ∷ ys) e =
    let is : length (y ∷ ys) - 1 ≡ length ys = omega arith in
    absurd (within (y ∷ ys) (length ys) (omega arith) (subst (λ k. slice_get (y ∷ ys) k ≡ None) is e))
  where
    within : {X : Type 0} (xs : List X) (k : ℕ) → k < length xs → slice_get xs k ≡ None → ⊥
    within [] k h e = omega (arith, h)
    within (x ∷ xs) zero h e = none_is (sym e)
    within (x ∷ xs) (suc k) h e = within xs k (omega (arith, h)) e

pub without_last : {X : Type 0} (xs front : List X) (x : X) → xs ≡ front ++ x ∷ [] → take (length xs - 1) xs ≡ front
without_last xs front x e = ap (λ z. take (length z - 1) z) e ∙ (ap (λ n. take n (front ++ x ∷ [])) (counts x front) ∙ take_front front (x ∷ []))
  where
    counts : {X : Type 0} (x : X) (bs : List X) → length (bs ++ x ∷ []) - 1 ≡ length bs
    counts x bs = omega (arith, length-append bs (x ∷ []))

    take_front : {X : Type 0} (xs ys : List X) → take (length xs) (xs ++ ys) ≡ xs
    take_front [] ys = refl
    take_front (x ∷ xs) ys = ap (λ z. x ∷ z) (take_front xs ys)

-- one more component is gone
pub one_gone : (place : ℕ) (whole now new gone : List Start) (b : Start) → whole ≡ now ++ gone → All (λ c. place < c.place) gone → slice_get now (length now - 1) ≡ Some b
    → new ≡ take (length now - 1) now → place < b.place → (whole ≡ new ++ b ∷ gone) × All (λ c. place < c.place) (b ∷ gone)
one_gone place whole now new gone b e all last rest high =
    let (front, parts) = last_of now b last in
    let is : new ≡ front = rest ∙ without_last now front b parts in (
      e ∙ (ap (λ z. z ++ gone) parts ∙ (append_assoc front (b ∷ []) gone ∙ ap (λ z. z ++ b ∷ gone) (sym is))),
      All-cons (λ (c : Start). place < c.place) b gone high all,
    )

pub left_last : (place : ℕ) (now : List Start) (b : Start) → slice_get now (length now - 1) ≡ Some b → b.place ≤ place
    → (now ≡ []) ⊎ ((front : List Start) × (c : Start) × (now ≡ front ++ c ∷ []) × (c.place ≤ place))
left_last place now b last low = let (front, parts) = last_of now b last in inr (front, b, parts, low)

pub has_last : {X : Type 0} (xs front : List X) (x : X) → xs ≡ front ++ x ∷ [] → Contains xs x
has_last xs front x e = subst (λ z. Contains z x) (sym e) (Contains-push front x)

pub on_ok : {T E P Q : Type 0} (r : Result T E) → (P → Q) → OnOk r P → OnOk r Q
on_ok (Ok x) f h = f h
on_ok (Err e) f h = h

-- an error says nothing of what succeeds
pub error_not_ok : {T E : Type 0} (r : Result T E) (P : Type 0) (Q : E → Type 0) → IsErrAnd r Q → OnOk r P
error_not_ok (Ok x) P Q h = absurd h
error_not_ok (Err e) P Q h = tt

pub below_lent : {place : ℕ} {items lent : List ℕ} → lent ≡ items → place < length items → place ≤ length lent
below_lent {place} {items} {lent} e h = let same = ap length e in omega (arith, h)

-- steps of the last component are left
pub step_left : {step told len items : ℕ} → step ≤ items → (told ≡ step → ⊥) → told ≡ len → len ≡ items → step < items
step_left {step} {told} high other e f = let u : told ≢ step = other in omega arith

pub some_of : {k n : ℕ} → k < n → 0 < n
some_of h = omega arith

pub below_same : {v n m : ℕ} → v < n → m ≡ n → v < m
below_same {v} h e = subst (λ k. v < k) (sym e) h

pub target_is : (xs : List ℕ) (n x : ℕ) → n ≡ length xs → 0 < length xs → x ≡ get_or xs (n - 1) x → slice_index xs (length xs - 1) ≡ x
target_is xs n x is some e =
    let small : n - 1 < length xs = omega (arith, is, some) in
    ap (λ k. slice_index xs (k - 1)) (sym is) ∙ sym (get_or_read xs (n - 1) x small e 0)

pub target_within : {rows : List (List ℕ)} {s : Stacks} (x : ℕ) → IsWalk rows s → IsGraph rows → 0 < length s.steps → slice_index s.steps (length s.steps - 1) ≡ x → x < length rows
target_within {rows} {s} x w graph some is =
    let (i, h, one, f) = w.source (length s.steps - 1) (omega (arith, some)) in
    subst (λ z. z < length rows) is (graph (slice_index s.stack i) (slice_index s.steps (length s.steps - 1)) one)

pub state_is : (states : List State) (v : ℕ) (x y : State) → v < length states → x ≡ get_or states v x → x ≡ y → state_at states v ≡ y
state_is states v x y h e f = sym (get_or_read states v x h e New) ∙ f
