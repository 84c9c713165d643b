-- The edges of a repetition, each once.
use Rattle.std.proofs.Common.{◌≡◌, ◌<◌, ◌≤◌, ◌⊎◌, inl, inr, ◌↔◌, ℕ, ◌+◌, ◌==◌, Bool, cond, List, [], ◌∷◌, ◌++◌, length, take, get_or, filter, refl, sym, ap, ◌∙◌, subst}
use Rattle.std.specs.List.{Contains}
use Rattle.std.proofs.lemmas.List.{take_more, take_all}
use Rattle.std.proofs.lemmas.List.Elements.{Contains-get_or}
use Rattle.std.proofs.lemmas.Bool.Decides.{eqb_tells}
use Rattle.tc_model.specs.States as s
use Rattle.tc_model.specs.States.{Automaton, repeat_of}
use Rattle.tc_auto.specs.declared.auto.Leaf.{Leaf}
use Rattle.tc_auto.specs.declared.nfa.Transition.{Transition}
use Rattle.tc_auto.specs.Steps.{leaf, HasStep, first_step, later_step, Has, has_first, has_later, Shown}
use Rattle.tc_auto.specs.Repeats.{Gains, IsThis, LeadsFrom, LeadsFromSome}
use Rattle.tc_auto.proofs.Lists.{step_left, step_right, step_cases, step_of, has_left, has_right, has_cases}

-- an edge that stands there already, or is pushed
pub gains_none : (old new : List Transition) (x : Transition) → new ≡ old → Contains old x → Gains old new (IsThis x)
gains_none old new x is has i j l = subst (λ (w : List Transition). HasStep w i l j ↔ (HasStep old i l j ⊎ IsThis x i l j)) (sym is) (λ h. inl h, back)
  where
    back : HasStep old i l j ⊎ IsThis x i l j → HasStep old i l j
    back (inl h) = h
    back (inr (a, b, c)) = subst (λ w. HasStep old w l j) a (subst (λ w. HasStep old x.from w j) b (subst (λ w. HasStep old x.from (leaf x.leaf) w) c (step_of old x has)))

pub gains_one : (old new : List Transition) (x : Transition) → new ≡ old ++ (x ∷ []) → Gains old new (IsThis x)
gains_one old new x is i j l = subst (λ (w : List Transition). HasStep w i l j ↔ (HasStep old i l j ⊎ IsThis x i l j)) (sym is) (λ h. there (step_cases old (x ∷ []) h), back)
  where
    there : HasStep old i l j ⊎ HasStep (x ∷ []) i l j → HasStep old i l j ⊎ IsThis x i l j
    there (inl h) = inl h
    there (inr (first_step a b c)) = inr (a, b, c)
    there (inr (later_step h)) = elim h [ ]

    back : HasStep old i l j ⊎ IsThis x i l j → HasStep (old ++ (x ∷ [])) i l j
    back (inl h) = step_left old (x ∷ []) h
    back (inr (a, b, c)) = step_right old (x ∷ []) (first_step a b c)

-- nothing is gained yet
pub gains_no_first : (from : ℕ) (old : List Transition) → Gains old old (LeadsFrom from [])
gains_no_first from old i j l = (λ h. inl h, back)
  where
    back : HasStep old i l j ⊎ LeadsFrom from [] i l j → HasStep old i l j
    back (inl h) = h
    back (inr (x, a, h)) = elim h [ ]

pub gains_no_state : (firsts old : List Transition) → Gains old old (LeadsFromSome [] firsts)
gains_no_state firsts old i j l = (λ h. inl h, back)
  where
    back : HasStep old i l j ⊎ LeadsFromSome [] firsts i l j → HasStep old i l j
    back (inl h) = h
    back (inr (x, has, h)) = elim has [ ]

-- one first edge more
pub gains_first : (from : ℕ) (firsts : List Transition) (k : ℕ) (x : Transition) → k < length firsts → x ≡ get_or firsts k x → (y : Transition) → from ≡ y.from → leaf x.leaf ≡ leaf y.leaf → x.to ≡ y.to → (old mid new : List Transition)
    → Gains old mid (LeadsFrom from (take k firsts)) → Gains mid new (IsThis y) → Gains old new (LeadsFrom from (take (k + 1) firsts))
gains_first from firsts k x low at y a b c old mid new so_far one i j l = (λ h. there ((one i j l).0 h), back)
  where
    taken : take (k + 1) firsts ≡ take k firsts ++ (x ∷ [])
    taken = take_more firsts k x low ∙ ap (λ w. take k firsts ++ (w ∷ [])) (sym at)

    more : {f : ℕ} → HasStep (take k firsts ++ (x ∷ [])) f l j → HasStep (take (k + 1) firsts) f l j
    more {f} h = subst (λ (w : List Transition). HasStep w f l j) (sym taken) h

    there : HasStep mid i l j ⊎ IsThis y i l j → HasStep old i l j ⊎ LeadsFrom from (take (k + 1) firsts) i l j
    there (inl h) = elim ((so_far i j l).0 h) [ inl p ↦ inl p | inr (f, q, r) ↦ inr (f, q, more (step_left (take k firsts) (x ∷ []) r)) ]
    there (inr (p, q, r)) = inr (x.from, a ∙ p, more (step_right (take k firsts) (x ∷ []) (first_step refl (b ∙ q) (c ∙ r))))

    last : {f : ℕ} → from ≡ i → HasStep (take k firsts) f l j ⊎ HasStep (x ∷ []) f l j → HasStep new i l j
    last {f} q (inl r) = (one i j l).1 (inl ((so_far i j l).1 (inr (f, q, r))))
    last q (inr (first_step u v w)) = (one i j l).1 (inr (sym a ∙ q, sym b ∙ v, sym c ∙ w))
    last q (inr (later_step h)) = elim h [ ]

    back : HasStep old i l j ⊎ LeadsFrom from (take (k + 1) firsts) i l j → HasStep new i l j
    back (inl h) = (one i j l).1 (inl ((so_far i j l).1 (inl h)))
    back (inr (f, q, h)) = last q (step_cases (take k firsts) (x ∷ []) (subst (λ (w : List Transition). HasStep w f l j) taken h))

-- one state more
pub gains_state : (states : List ℕ) (firsts : List Transition) (k n : ℕ) → k < length states → n ≡ get_or states k 0 → (old mid new : List Transition)
    → Gains old mid (LeadsFromSome (take k states) firsts) → Gains mid new (LeadsFrom n firsts) → Gains old new (LeadsFromSome (take (k + 1) states) firsts)
gains_state states firsts k n low at old mid new so_far one i j l = (λ h. there ((one i j l).0 h), back)
  where
    taken : take (k + 1) states ≡ take k states ++ (n ∷ [])
    taken = take_more states k 0 low ∙ ap (λ w. take k states ++ (w ∷ [])) (sym at)

    more : Has (take k states ++ (n ∷ [])) i → Has (take (k + 1) states) i
    more h = subst (λ (w : List ℕ). Has w i) (sym taken) h

    there : HasStep mid i l j ⊎ LeadsFrom n firsts i l j → HasStep old i l j ⊎ LeadsFromSome (take (k + 1) states) firsts i l j
    there (inl h) = elim ((so_far i j l).0 h) [ inl p ↦ inl p | inr (f, q, r) ↦ inr (f, more (has_left (take k states) (n ∷ []) q), r) ]
    there (inr (f, p, r)) = inr (f, more (has_right (take k states) (n ∷ []) (has_first p)), r)

    last : {f : ℕ} → HasStep firsts f l j → Has (take k states) i ⊎ Has (n ∷ []) i → HasStep new i l j
    last {f} r (inl q) = (one i j l).1 (inl ((so_far i j l).1 (inr (f, q, r))))
    last {f} r (inr (has_first e)) = (one i j l).1 (inr (f, e, r))
    last r (inr (has_later h)) = elim h [ ]

    back : HasStep old i l j ⊎ LeadsFromSome (take (k + 1) states) firsts i l j → HasStep new i l j
    back (inl h) = (one i j l).1 (inl ((so_far i j l).1 (inl h)))
    back (inr (f, q, r)) = last r (has_cases (take k states) (n ∷ []) (subst (λ (w : List ℕ). Has w i) taken q))

pub all_firsts : (from : ℕ) (firsts : List Transition) (k : ℕ) (old new : List Transition) → length firsts ≤ k → Gains old new (LeadsFrom from (take k firsts)) → Gains old new (LeadsFrom from firsts)
all_firsts from firsts k old new high g = subst (λ (w : List Transition). Gains old new (LeadsFrom from w)) (take_all k firsts high) g

pub all_states : (states : List ℕ) (firsts : List Transition) (k : ℕ) (old new : List Transition) → length states ≤ k → Gains old new (LeadsFromSome (take k states) firsts) → Gains old new (LeadsFromSome states firsts)
all_states states firsts k old new high g = subst (λ (w : List ℕ). Gains old new (LeadsFromSome w firsts)) (take_all k states high) g

-- the first edges are those from state 0
abbrev is_first : Transition → Bool
is_first x = x.from == 0

first_kept : (xs : List Transition) (x : Transition) {f j : ℕ} {l : s.Leaf} → x.from ≡ 0 → ((g : ℕ) → HasStep (filter is_first xs) g l j → HasStep xs 0 l j) → HasStep (x ∷ filter is_first xs) f l j → HasStep (x ∷ xs) 0 l j
first_kept xs x e more (first_step a b c) = first_step e b c
first_kept xs x {f} e more (later_step r) = later_step (more f r)

first_to : (xs : List Transition) {f j : ℕ} {l : s.Leaf} → HasStep (filter is_first xs) f l j → HasStep xs 0 l j
first_to [] h = elim h [ ]
first_to (x ∷ xs) {f} {j} {l} h = elim (eqb_tells x.from 0) [
  | inl p ↦ first_kept xs x p.1 (λ g r. first_to xs r) (subst (λ (w : Bool). HasStep (cond w (x ∷ filter is_first xs) (filter is_first xs)) f l j) p.0 h)
  | inr p ↦ later_step (first_to xs (subst (λ (w : Bool). HasStep (cond w (x ∷ filter is_first xs) (filter is_first xs)) f l j) p.0 h))
]

first_of : (xs : List Transition) {j : ℕ} {l : s.Leaf} → HasStep xs 0 l j → HasStep (filter is_first xs) 0 l j
first_of [] h = elim h [ ]
first_of (x ∷ xs) {j} {l} (first_step a b c) = elim (eqb_tells x.from 0) [
  | inl p ↦ subst (λ (w : Bool). HasStep (cond w (x ∷ filter is_first xs) (filter is_first xs)) 0 l j) (sym p.0) (first_step a b c)
  | inr p ↦ absurd (p.1 a)
]
first_of (x ∷ xs) {j} {l} (later_step h) = elim (eqb_tells x.from 0) [
  | inl p ↦ subst (λ (w : Bool). HasStep (cond w (x ∷ filter is_first xs) (filter is_first xs)) 0 l j) (sym p.0) (later_step (first_of xs h))
  | inr p ↦ subst (λ (w : Bool). HasStep (cond w (x ∷ filter is_first xs) (filter is_first xs)) 0 l j) (sym p.0) (first_of xs h)
]

pub repeat_gained : (a : Automaton) (n : ℕ) (old new firsts : List Transition) (ends : List ℕ) → Shown n old ends a → firsts ≡ filter (λ (x : Transition). x.from == 0) old → Gains old new (LeadsFromSome ends firsts) → Shown n new ends (repeat_of a)
repeat_gained a n old new firsts ends one is gained = record {
  counted = one.counted;
  edge = λ i j l. (λ h. there i j l ((gained i j l).0 h), back i j l);
  accepting = one.accepting;
}
  where
    there : (i j : ℕ) (l : s.Leaf) → HasStep old i l j ⊎ LeadsFromSome ends firsts i l j → (repeat_of a).edge i l j
    there i j l (inl h) = inl ((one.edge i j l).0 h)
    there i j l (inr (f, has, h)) = inr ((one.accepting i).0 has, (one.edge 0 j l).0 (first_to old (subst (λ (w : List Transition). HasStep w f l j) is h)))

    back : (i j : ℕ) (l : s.Leaf) → (repeat_of a).edge i l j → HasStep new i l j
    back i j l (inl e) = (gained i j l).1 (inl ((one.edge i j l).1 e))
    back i j l (inr (acc, e)) = (gained i j l).1 (inr (0, (one.accepting i).1 acc, subst (λ (w : List Transition). HasStep w 0 l j) (sym is) (first_of old ((one.edge 0 j l).1 e))))

same_step : (t u : ℕ) (m : Leaf) (y : Transition) → t ≡ y.from → m ≡ y.leaf → u ≡ y.to → record { from = t; leaf = m; to = u } ≡ y
same_step t u m y a b c =
    ap (λ (w : ℕ). let r : Transition = record { from = w; leaf = m; to = u } in r) a
    ∙ (ap (λ (w : Leaf). let r : Transition = record { from = y.from; leaf = w; to = u } in r) b
    ∙ ap (λ (w : ℕ). let r : Transition = record { from = y.from; leaf = y.leaf; to = w } in r) c)

pub stands_at : (xs : List Transition) (k : ℕ) (x y : Transition) → k < length xs → get_or xs k x ≡ x → x.from ≡ y.from → x.leaf ≡ y.leaf → x.to ≡ y.to → Contains xs y
stands_at xs k x y low at a b c = let same = same_step x.from x.to x.leaf y a b c in subst (λ (w : Transition). Contains xs w) (at ∙ same) (Contains-get_or xs k x low)
