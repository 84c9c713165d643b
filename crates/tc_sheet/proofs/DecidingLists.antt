-- Whether something among others is so, and the first that is.
use Rattle.std.proofs.Common.{◌≡◌, ◌⊎◌, inl, inr, List, [], ◌∷◌, refl, ap, sym, subst, arith, All, Contains}
use Rattle.std.proofs.lemmas.List.Elements.{Contains-append_left, Contains-append_cases, Contains-push, Contains-push_cases, All-nil, All-cons, All-head, All-tail}
use Rattle.tc_model.specs.SheetText.{IsFirst}
use Rattle.tc_sheet.proofs.CallLaws.{beside}
use Rattle.tc_sheet.proofs.DecidingBytes.{Decided}

pub in_cons : {X : Type 0} (y : X) (ys : List X) (x : X) → Contains (y ∷ ys) x → (y ≡ x) ⊎ Contains ys x
in_cons y ys x h = by (Contains-append_cases (y ∷ []) ys x h)
  where
    one : Contains (y ∷ []) x → y ≡ x
    one k = elim (Contains-push_cases [] y x k) [ inl (i, low, e) ↦ absurd (omega (arith, low)) | inr e ↦ e ]

    by : Contains (y ∷ []) x ⊎ Contains ys x → (y ≡ x) ⊎ Contains ys x
    by (inl k) = inl (one k)
    by (inr k) = inr k

pub in_first : {X : Type 0} (x : X) (xs : List X) → Contains (x ∷ xs) x
in_first x xs = Contains-append_left (x ∷ []) xs x (Contains-push [] x)

pub in_none : {X : Type 0} (x : X) → Contains [] x → ⊥
in_none x (i, low, e) = omega (arith, low)

-- one of these is so, or none is
abbrev pub AmongHere : {X : Type 0} → (X → Type 0) → List X → Type 0
AmongHere {X} P xs = ((x : X) × (Contains xs x × P x)) ⊎ ((x : X) → Contains xs x → P x → ⊥)

pub among_here : {X : Type 0} (P : X → Type 0) → ((x : X) → Decided (P x)) → (xs : List X) → AmongHere P xs
among_here P d [] = inr (λ x c h. in_none x c)
among_here P d (y ∷ ys) = by (d y) (among_here P d ys)
  where
    by : Decided (P y) → AmongHere P ys → AmongHere P (y ∷ ys)
    by (inl h) k = inl (y, (in_first y ys, h))
    by (inr h) (inl (x, (c, k))) = inl (x, (beside y ys x c, k))
    by (inr h) (inr k) = inr (λ x c i. elim (in_cons y ys x c) [ inl e ↦ h (subst P (sym e) i) | inr b ↦ k x b i ])

pub exists_here : {X : Type 0} (P : X → Type 0) → ((x : X) → Decided (P x)) → (xs : List X) → Decided ((x : X) × (Contains xs x × P x))
exists_here P d xs = elim (among_here P d xs) [ inl z ↦ inl z | inr h ↦ inr (λ z. h z.0 z.1.0 z.1.1) ]

-- this is among them
pub contains_here : {X : Type 0} → ((x y : X) → Decided (x ≡ y)) → (xs : List X) (y : X) → Decided (Contains xs y)
contains_here d xs y = elim (among_here (λ x. x ≡ y) (λ x. d x y) xs) [
  | inl (x, (c, e)) ↦ inl (subst (Contains xs) e c)
  | inr h ↦ inr (λ c. h y c refl)
]

-- the first that is so
pub first_here : {X : Type 0} (P : X → Type 0) → ((x : X) → Decided (P x)) → (xs : List X) → ((x : X) × IsFirst P xs x) ⊎ All (λ x. P x → ⊥) xs
first_here P d [] = inr (All-nil (λ x. P x → ⊥))
first_here {X} P d (y ∷ ys) = by (d y) (first_here P d ys)
  where
    by : Decided (P y) → ((x : X) × IsFirst P ys x) ⊎ All (λ x. P x → ⊥) ys → ((x : X) × IsFirst P (y ∷ ys) x) ⊎ All (λ x. P x → ⊥) (y ∷ ys)
    by (inl h) k = inl (y, record { before = []; after = ys; parts = refl; not_before = All-nil (λ x. P x → ⊥); holds = h })
    by (inr h) (inl (x, f)) =
        inl (x, record { before = y ∷ f.before; after = f.after; parts = ap (λ w. y ∷ w) f.parts; not_before = All-cons (λ x. P x → ⊥) y f.before h f.not_before; holds = f.holds })
    by (inr h) (inr k) = inr (All-cons (λ x. P x → ⊥) y ys h k)

-- none isn't so, and so all are
pub all_so : {X : Type 0} (P : X → Type 0) → ((x : X) → Decided (P x)) → (xs : List X) → All (λ x. (P x → ⊥) → ⊥) xs → All P xs
all_so P d [] a = All-nil P
all_so P d (x ∷ xs) a = All-cons P x xs (by (d x)) (all_so P d xs (All-tail (λ x. (P x → ⊥) → ⊥) x xs a))
  where
    by : Decided (P x) → P x
    by (inl h) = h
    by (inr h) = absurd (All-head (λ x. (P x → ⊥) → ⊥) x xs a h)
