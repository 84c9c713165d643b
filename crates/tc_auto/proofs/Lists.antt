-- What the lists of edges and of accepting states have.
use Rattle.std.proofs.Common.{◌≡◌, ◌<◌, ◌⊎◌, inl, inr, ℕ, zero, suc, ◌+◌, ◌*◌, ◌==◌, false, List, [], ◌∷◌, ◌++◌, if◌then◌else◌, refl, sym, ap, ◌∙◌, subst, arith}
use Rattle.std.specs.List.{Contains}
use Rattle.std.proofs.lemmas.Bool.Decides.{nat_tests}
use Rattle.tc_model.specs.States as s
use Rattle.tc_auto.specs.declared.auto.Leaf.{Leaf}
use Rattle.tc_auto.specs.declared.nfa.Transition.{Transition}
use Rattle.tc_auto.specs.Steps.{leaf, HasStep, first_step, later_step, Has, has_first, has_later, from_each, moved, carried, later, beside_first, beside_second, all_beside_first, all_beside_second, pairs, all_pairs}

pub step_left : (xs ys : List Transition) {i j : ℕ} {l : s.Leaf} → HasStep xs i l j → HasStep (xs ++ ys) i l j
step_left [] ys h = elim h [ ]
step_left (x ∷ xs) ys (first_step a b c) = first_step a b c
step_left (x ∷ xs) ys (later_step h) = later_step (step_left xs ys h)

pub step_right : (xs ys : List Transition) {i j : ℕ} {l : s.Leaf} → HasStep ys i l j → HasStep (xs ++ ys) i l j
step_right [] ys h = h
step_right (x ∷ xs) ys h = later_step (step_right xs ys h)

pub step_cases : (xs ys : List Transition) {i j : ℕ} {l : s.Leaf} → HasStep (xs ++ ys) i l j → HasStep xs i l j ⊎ HasStep ys i l j
step_cases [] ys h = inr h
step_cases (x ∷ xs) ys (first_step a b c) = inl (first_step a b c)
step_cases (x ∷ xs) ys (later_step h) = elim (step_cases xs ys h) [ inl a ↦ inl (later_step a) | inr b ↦ inr b ]

pub has_left : (xs ys : List ℕ) {j : ℕ} → Has xs j → Has (xs ++ ys) j
has_left [] ys h = elim h [ ]
has_left (x ∷ xs) ys (has_first e) = has_first e
has_left (x ∷ xs) ys (has_later h) = has_later (has_left xs ys h)

pub has_right : (xs ys : List ℕ) {j : ℕ} → Has ys j → Has (xs ++ ys) j
has_right [] ys h = h
has_right (x ∷ xs) ys h = has_later (has_right xs ys h)

pub has_cases : (xs ys : List ℕ) {j : ℕ} → Has (xs ++ ys) j → Has xs j ⊎ Has ys j
has_cases [] ys h = inr h
has_cases (x ∷ xs) ys (has_first e) = inl (has_first e)
has_cases (x ∷ xs) ys (has_later h) = elim (has_cases xs ys h) [ inl a ↦ inl (has_later a) | inr b ↦ inr b ]

-- by index
pub step_of : (xs : List Transition) (x : Transition) → Contains xs x → HasStep xs x.from (leaf x.leaf) x.to
step_of [] x (k, low, at) = absurd (omega arith)
step_of (y ∷ ys) x (zero, low, at) = first_step (ap (λ (w : Transition). w.from) at) (ap (λ (w : Transition). leaf w.leaf) at) (ap (λ (w : Transition). w.to) at)
step_of (y ∷ ys) x (suc k, low, at) = later_step (step_of ys x (k, omega arith, at))

pub has_of : (xs : List ℕ) (x : ℕ) → Contains xs x → Has xs x
has_of [] x (k, low, at) = absurd (omega arith)
has_of (y ∷ ys) x (zero, low, at) = has_first at
has_of (y ∷ ys) x (suc k, low, at) = has_later (has_of ys x (k, omega arith, at))

pub contains_of : (xs : List ℕ) (x : ℕ) → Has xs x → Contains xs x
contains_of [] x h = elim h [ ]
contains_of (y ∷ ys) x (has_first e) = (0, omega arith, e)
contains_of (y ∷ ys) x (has_later h) = let at = contains_of ys x h in (suc at.0, omega arith, at.2)

no_element : {X : Type 0} {j : ℕ} → Has [] j → X
no_element h = elim h [ ]

-- edges from each of some states
each_to : (starts : List ℕ) (m : Leaf) (t : ℕ) {i j : ℕ} {l : s.Leaf} → HasStep (from_each starts m t) i l j → Has starts i × (leaf m ≡ l) × (t ≡ j)
each_to [] m t h = elim h [ ]
each_to (x ∷ xs) m t (first_step a b c) = (has_first a, b, c)
each_to (x ∷ xs) m t (later_step h) = let r = each_to xs m t h in (has_later r.0, r.1, r.2)

each_of : (starts : List ℕ) (m : Leaf) (t : ℕ) {i j : ℕ} {l : s.Leaf} → Has starts i → leaf m ≡ l → t ≡ j → HasStep (from_each starts m t) i l j
each_of [] m t h a b = elim h [ ]
each_of (x ∷ xs) m t (has_first e) a b = first_step e a b
each_of (x ∷ xs) m t (has_later h) a b = later_step (each_of xs m t h a b)

zero_or : (n : ℕ) → (n ≡ 0) ⊎ (0 < n)
zero_or zero = inl refl
zero_or (suc n) = inr (omega arith)

if_yes : {X : Type 0} (n : ℕ) (a b : X) → n ≡ 0 → (if n == 0 then a else b) ≡ a
if_yes zero a b e = refl
if_yes (suc n) a b e = absurd (omega arith)

if_no : {X : Type 0} (n : ℕ) (a b : X) → 0 < n → (if n == 0 then a else b) ≡ b
if_no zero a b e = absurd (omega arith)
if_no (suc n) a b e = let no : (suc n == 0) ≡ false = grind (arith, nat_tests) in rw no refl

-- an edge of a second automaton from one of its states but 0, moved by a number; or one from its state 0, from one of some states
abbrev pub Carried : ℕ → (ℕ → Type 0) → (ℕ → s.Leaf → ℕ → Type 0) → ℕ → s.Leaf → ℕ → Type 0
Carried by From Edge i l j = ((x : ℕ) × (y : ℕ) × (i ≡ by + x) × (j ≡ by + y) × (0 < x) × Edge x l y) ⊎ ((y : ℕ) × From i × (j ≡ by + y) × Edge 0 l y)

abbrev pub IsStep : Transition → ℕ → s.Leaf → ℕ → Type 0
IsStep x i l j = (x.from ≡ i) × (leaf x.leaf ≡ l) × (x.to ≡ j)

one_carried : (by : ℕ) (starts : List ℕ) (x : Transition) {i j : ℕ} {l : s.Leaf}
    → HasStep (moved by starts x) i l j
    → Carried by (Has starts) (IsStep x) i l j
one_carried by starts x {i} {j} {l} h = elim (zero_or x.from) [
  | inl e ↦ let r = each_to starts x.leaf (by + x.to) (subst (λ w. HasStep w i l j) (if_yes x.from _ _ e) h) in inr (x.to, r.0, sym r.2, (e, r.1, refl))
  | inr e ↦ elim (subst (λ w. HasStep w i l j) (if_no x.from _ _ e) h) [
    | first_step a b c ↦ inl (x.from, x.to, sym a, sym c, e, (refl, b, refl))
    | later_step none ↦ elim none [ ]
  ]
]

carried_later : (by : ℕ) (From : ℕ → Type 0) (E F : ℕ → s.Leaf → ℕ → Type 0) {i j : ℕ} {l : s.Leaf} → ((a b : ℕ) (m : s.Leaf) → E a m b → F a m b) → Carried by From E i l j → Carried by From F i l j
carried_later by From E F f (inl (x, y, a, b, c, e)) = inl (x, y, a, b, c, f x y _ e)
carried_later by From E F f (inr (y, a, b, e)) = inr (y, a, b, f 0 y _ e)

pub carried_to : (by : ℕ) (starts : List ℕ) (xs : List Transition) {i j : ℕ} {l : s.Leaf} → HasStep (carried by starts xs) i l j → Carried by (Has starts) (HasStep xs) i l j
carried_to by starts [] h = elim h [ ]
carried_to by starts (x ∷ xs) h = elim (step_cases _ (carried by starts xs) h) [
  | inl a ↦ carried_later by (Has starts) (IsStep x) (HasStep (x ∷ xs)) (λ p q m (a, b, c). first_step a b c) (one_carried by starts x a)
  | inr b ↦ carried_later by (Has starts) (HasStep xs) (HasStep (x ∷ xs)) (λ p q m e. later_step e) (carried_to by starts xs b)
]

one_carried_of : (by : ℕ) (starts : List ℕ) (x : Transition) {i j : ℕ} {l : s.Leaf}
    → Carried by (Has starts) (IsStep x) i l j
    → HasStep (moved by starts x) i l j
one_carried_of by starts x {i} {j} {l} (inl (a, b, is, goes, low, (p, q, r))) =
    let some : 0 < x.from = omega arith in
    subst (λ w. HasStep w i l j) (sym (if_no x.from _ _ some)) (first_step (omega arith) q (omega arith))
one_carried_of by starts x {i} {j} {l} (inr (b, from, goes, (p, q, r))) =
    subst (λ w. HasStep w i l j) (sym (if_yes x.from _ _ p)) (each_of starts x.leaf (by + x.to) from q (omega arith))

pub carried_of : (by : ℕ) (starts : List ℕ) (xs : List Transition) {i j : ℕ} {l : s.Leaf} → Carried by (Has starts) (HasStep xs) i l j → HasStep (carried by starts xs) i l j
carried_of by starts [] (inl (x, y, a, b, c, e)) = elim e [ ]
carried_of by starts [] (inr (y, a, b, e)) = elim e [ ]
carried_of by starts (x ∷ xs) (inl (p, q, a, b, c, first_step t u v)) = step_left _ (carried by starts xs) (one_carried_of by starts x (inl (p, q, a, b, c, (t, u, v))))
carried_of by starts (x ∷ xs) (inl (p, q, a, b, c, later_step e)) = step_right _ (carried by starts xs) (carried_of by starts xs (inl (p, q, a, b, c, e)))
carried_of by starts (x ∷ xs) (inr (q, a, b, first_step t u v)) = step_left _ (carried by starts xs) (one_carried_of by starts x (inr (q, a, b, (t, u, v))))
carried_of by starts (x ∷ xs) (inr (q, a, b, later_step e)) = step_right _ (carried by starts xs) (carried_of by starts xs (inr (q, a, b, e)))

pub later_to : (by : ℕ) (js : List ℕ) {j : ℕ} → Has (later by js) j → (y : ℕ) × (j ≡ by + y) × (0 < y) × Has js y
later_to by [] h = elim h [ ]
later_to by (x ∷ xs) {j} h = elim (has_cases _ (later by xs) h) [
  | inl a ↦ elim (zero_or x) [
    | inl e ↦ no_element (subst (λ w. Has w j) (if_yes x _ _ e) a)
    | inr e ↦ elim (subst (λ w. Has w j) (if_no x _ _ e) a) [ has_first is ↦ (x, sym is, e, has_first refl) | has_later none ↦ elim none [ ] ]
  ]
  | inr b ↦ let r = later_to by xs b in (r.0, r.1, r.2, has_later r.3)
]

pub later_of : (by : ℕ) (js : List ℕ) {j : ℕ} (y : ℕ) → j ≡ by + y → 0 < y → Has js y → Has (later by js) j
later_of by [] y is low h = elim h [ ]
later_of by (x ∷ xs) {j} y is low (has_first e) =
    let some : 0 < x = omega arith in
    has_left _ (later by xs) (subst (λ w. Has w j) (sym (if_no x _ _ some)) (has_first (omega arith)))
later_of by (x ∷ xs) y is low (has_later h) = has_right _ (later by xs) (later_of by xs y is low h)

same_or : (y n : ℕ) → y < suc n → (y ≡ n) ⊎ (y < n)
same_or zero zero h = inl refl
same_or zero (suc n) h = inr (omega arith)
same_or (suc y) zero h = absurd (omega arith)
same_or (suc y) (suc n) h = elim (same_or y n (omega arith)) [ inl e ↦ inl (ap suc e) | inr l ↦ inr (omega arith) ]

-- an edge beside each state of the other automaton
pub second_to : (x : Transition) (count n : ℕ) {i j : ℕ} {l : s.Leaf} → HasStep (beside_second x count n) i l j → (y : ℕ) × (y < n) × (i ≡ x.from * count + y) × (leaf x.leaf ≡ l) × (j ≡ x.to * count + y)
second_to x count zero h = elim h [ ]
second_to x count (suc n) h = elim (step_cases (beside_second x count n) _ h) [
  | inl a ↦ let r = second_to x count n a in (r.0, omega arith, r.2, r.3, r.4)
  | inr b ↦ elim b [ first_step is m goes ↦ (n, omega arith, sym is, m, sym goes) | later_step none ↦ elim none [ ] ]
]

pub second_of : (x : Transition) (count n : ℕ) {i j : ℕ} {l : s.Leaf} (y : ℕ) → y < n → i ≡ x.from * count + y → leaf x.leaf ≡ l → j ≡ x.to * count + y → HasStep (beside_second x count n) i l j
second_of x count zero y low a b c = absurd (omega arith)
second_of x count (suc n) {i} {j} {l} y low a b c = elim (same_or y n (omega arith)) [
  | inl e ↦ step_right (beside_second x count n) _ (first_step (ap (λ w. x.from * count + w) (sym e) ∙ sym a) b (ap (λ w. x.to * count + w) (sym e) ∙ sym c))
  | inr less ↦ step_left (beside_second x count n) _ (second_of x count n y less a b c)
]

pub first_to : (x : Transition) (count n : ℕ) {i j : ℕ} {l : s.Leaf} → HasStep (beside_first x count n) i l j → (y : ℕ) × (y < n) × (i ≡ y * count + x.from) × (leaf x.leaf ≡ l) × (j ≡ y * count + x.to)
first_to x count zero h = elim h [ ]
first_to x count (suc n) h = elim (step_cases (beside_first x count n) _ h) [
  | inl a ↦ let r = first_to x count n a in (r.0, omega arith, r.2, r.3, r.4)
  | inr b ↦ elim b [ first_step is m goes ↦ (n, omega arith, sym is, m, sym goes) | later_step none ↦ elim none [ ] ]
]

pub first_of : (x : Transition) (count n : ℕ) {i j : ℕ} {l : s.Leaf} (y : ℕ) → y < n → i ≡ y * count + x.from → leaf x.leaf ≡ l → j ≡ y * count + x.to → HasStep (beside_first x count n) i l j
first_of x count zero y low a b c = absurd (omega arith)
first_of x count (suc n) {i} {j} {l} y low a b c = elim (same_or y n (omega arith)) [
  | inl e ↦ step_right (beside_first x count n) _ (first_step (ap (λ w. w * count + x.from) (sym e) ∙ sym a) b (ap (λ w. w * count + x.to) (sym e) ∙ sym c))
  | inr less ↦ step_left (beside_first x count n) _ (first_of x count n y less a b c)
]

pub all_second_to : (xs : List Transition) (count : ℕ) {i j : ℕ} {l : s.Leaf} → HasStep (all_beside_second xs count) i l j → (x : ℕ) × (z : ℕ) × (y : ℕ) × (i ≡ x * count + y) × (j ≡ z * count + y) × (y < count) × HasStep xs x l z
all_second_to [] count h = elim h [ ]
all_second_to (x ∷ xs) count h = elim (step_cases (beside_second x count count) _ h) [
  | inl a ↦ let r = second_to x count count a in (x.from, x.to, r.0, r.2, r.4, r.1, first_step refl r.3 refl)
  | inr b ↦ let r = all_second_to xs count b in (r.0, r.1, r.2, r.3, r.4, r.5, later_step r.6)
]

pub all_second_of : (xs : List Transition) (count : ℕ) {i j : ℕ} {l : s.Leaf} (x z y : ℕ) → i ≡ x * count + y → j ≡ z * count + y → y < count → HasStep xs x l z → HasStep (all_beside_second xs count) i l j
all_second_of [] count x z y a b c h = elim h [ ]
all_second_of (e ∷ xs) count x z y a b c (first_step p q r) =
    step_left (beside_second e count count) _ (second_of e count count y c (a ∙ ap (λ w. w * count + y) (sym p)) q (b ∙ ap (λ w. w * count + y) (sym r)))
all_second_of (e ∷ xs) count x z y a b c (later_step h) = step_right (beside_second e count count) _ (all_second_of xs count x z y a b c h)

pub all_first_to : (xs : List Transition) (count n : ℕ) {i j : ℕ} {l : s.Leaf} → HasStep (all_beside_first xs count n) i l j → (x : ℕ) × (y : ℕ) × (z : ℕ) × (i ≡ x * count + y) × (j ≡ x * count + z) × (x < n) × HasStep xs y l z
all_first_to [] count n h = elim h [ ]
all_first_to (x ∷ xs) count n h = elim (step_cases (beside_first x count n) _ h) [
  | inl a ↦ let r = first_to x count n a in (r.0, x.from, x.to, r.2, r.4, r.1, first_step refl r.3 refl)
  | inr b ↦ let r = all_first_to xs count n b in (r.0, r.1, r.2, r.3, r.4, r.5, later_step r.6)
]

pub all_first_of : (xs : List Transition) (count n : ℕ) {i j : ℕ} {l : s.Leaf} (x y z : ℕ) → i ≡ x * count + y → j ≡ x * count + z → x < n → HasStep xs y l z → HasStep (all_beside_first xs count n) i l j
all_first_of [] count n x y z a b c h = elim h [ ]
all_first_of (e ∷ xs) count n x y z a b c (first_step p q r) =
    step_left (beside_first e count n) _ (first_of e count n x c (a ∙ ap (λ w. x * count + w) (sym p)) q (b ∙ ap (λ w. x * count + w) (sym r)))
all_first_of (e ∷ xs) count n x y z a b c (later_step h) = step_right (beside_first e count n) _ (all_first_of xs count n x y z a b c h)

pub pairs_to : (count x : ℕ) (ys : List ℕ) {j : ℕ} → Has (pairs count x ys) j → (y : ℕ) × (j ≡ x * count + y) × Has ys y
pairs_to count x [] h = elim h [ ]
pairs_to count x (y ∷ ys) (has_first e) = (y, sym e, has_first refl)
pairs_to count x (y ∷ ys) (has_later h) = let r = pairs_to count x ys h in (r.0, r.1, has_later r.2)

pub pairs_of : (count x : ℕ) (ys : List ℕ) {j : ℕ} (y : ℕ) → j ≡ x * count + y → Has ys y → Has (pairs count x ys) j
pairs_of count x [] y is h = elim h [ ]
pairs_of count x (z ∷ ys) y is (has_first e) = has_first (ap (λ w. x * count + w) e ∙ sym is)
pairs_of count x (z ∷ ys) y is (has_later h) = has_later (pairs_of count x ys y is h)

pub all_pairs_to : (count : ℕ) (xs ys : List ℕ) {j : ℕ} → Has (all_pairs count xs ys) j → (x : ℕ) × (y : ℕ) × (j ≡ x * count + y) × Has xs x × Has ys y
all_pairs_to count [] ys h = elim h [ ]
all_pairs_to count (x ∷ xs) ys h = elim (has_cases (pairs count x ys) _ h) [
  | inl a ↦ let r = pairs_to count x ys a in (x, r.0, r.1, has_first refl, r.2)
  | inr b ↦ let r = all_pairs_to count xs ys b in (r.0, r.1, r.2, has_later r.3, r.4)
]

pub all_pairs_of : (count : ℕ) (xs ys : List ℕ) {j : ℕ} (x y : ℕ) → j ≡ x * count + y → Has xs x → Has ys y → Has (all_pairs count xs ys) j
all_pairs_of count [] ys x y is h k = elim h [ ]
all_pairs_of count (z ∷ xs) ys x y is (has_first e) k = has_left (pairs count z ys) _ (pairs_of count z ys y (is ∙ ap (λ w. w * count + y) (sym e)) k)
all_pairs_of count (z ∷ xs) ys x y is (has_later h) k = has_right (pairs count z ys) _ (all_pairs_of count xs ys x y is h k)
