-- What the lists in loops hold.
use Rattle.std.proofs.Common.{◌≡◌, ◌<◌, ◌≤◌, ℕ, ◌+◌, ◌*◌, ◌==◌, if◌then◌else◌, List, [], ◌++◌, length, get_or, drop, mul_comm, sym, ap, ◌∙◌, ◌∷◌, subst, add-one, append_assoc, arith, append-nil}
use Rattle.std.proofs.lemmas.List.{drop_all, drop_more}
use Rattle.std.specs.List.{Contains}
use Rattle.std.proofs.lemmas.List.Elements.{Contains-get_or}
use Rattle.std.proofs.lemmas.Nat.{mul-add-lt}
use Rattle.tc_auto.specs.declared.nfa.Transition.{Transition}
use Rattle.tc_auto.specs.Steps.{IsWithin, beside_first, beside_second, edges_from}
use Rattle.tc_auto.specs.declared.nfa.Nfa.{Nfa}

pub end_inside : (p : Nfa) → IsWithin p → (xs : List ℕ) → xs ≡ p.accepting.items → (i d : ℕ) → i < length xs → get_or xs i d < p.count
end_inside p w xs e i d h = w.ends _ (subst (λ (ys : List ℕ). Contains ys (get_or xs i d)) e (Contains-get_or xs i d h))

pub step_inside : (p : Nfa) → IsWithin p → (xs : List Transition) → xs ≡ p.steps.items → (i : ℕ) (d : Transition) → i < length xs → ((get_or xs i d).from < p.count) × ((get_or xs i d).to < p.count)
step_inside p w xs e i d h = w.steps _ (subst (λ (ys : List Transition). Contains ys (get_or xs i d)) e (Contains-get_or xs i d h))

pub pair_inside : (x y m n top : ℕ) → x < m → y < n → m * n < top → x * n + y < top
pair_inside x y m n top a b h = omega (arith, mul-add-lt x n y m a b, mul_comm n m)

-- at the end nothing is left to put
pub all_put : {X Y : Type 0} (f : List X → List Y) → f [] ≡ [] → (xs : List X) (i : ℕ) (put : List Y) → length xs ≤ i → put ++ f (drop i xs) ≡ f xs → (ys : List X) → xs ≡ ys → put ≡ f ys
all_put f none xs i put h e ys is = sym (append-nil put) ∙ (ap (λ w. put ++ w) (sym none) ∙ (ap (λ w. put ++ f w) (sym (drop_all i xs h)) ∙ (e ∙ ap f is)))

-- the same where something was there before
pub all_put_on : {X Y : Type 0} (f : List X → List Y) → f [] ≡ [] → (xs : List X) (i : ℕ) (put whole : List Y) → length xs ≤ i → put ++ f (drop i xs) ≡ whole → put ≡ whole
all_put_on f none xs i put whole h e = sym (append-nil put) ∙ (ap (λ w. put ++ w) (sym none) ∙ (ap (λ w. put ++ f w) (sym (drop_all i xs h)) ∙ e))

-- what is put for one of a list goes from what is left to what was put
pub item_put : {X Y : Type 0} (one : X → List Y) (all : List X → List Y) → ((x : X) (xs : List X) → all (x ∷ xs) ≡ one x ++ all xs) → (xs : List X) (i : ℕ) (d : X) (old new whole : List Y) → i < length xs
    → new ≡ old ++ one (get_or xs i d) → old ++ all (drop i xs) ≡ whole → new ++ all (drop (i + 1) xs) ≡ whole
item_put one all step xs i d old new whole h put so_far =
    let x = get_or xs i d in
    let rest = all (drop (i + 1) xs) in
    ap (λ l. l ++ rest) put ∙ (append_assoc old (one x) rest ∙ (ap (λ l. old ++ l) (sym (ap all (drop_more xs i d h) ∙ step x (drop (i + 1) xs))) ∙ so_far))

-- an edge of another's leaf
abbrev pub edge_as : Transition → ℕ → ℕ → Transition
edge_as x from to = record { from = from; leaf = x.leaf; to = to }

-- one more pair of states
put_more : (x : Transition) (from to i j : ℕ) (start before old new : List Transition) → i ≡ from → j ≡ to → old ≡ start ++ before → new ≡ old ++ edge_as x i j ∷ [] → new ≡ start ++ (before ++ edge_as x from to ∷ [])
put_more x from to i j start before old new is_from is_to so_far pushed =
    pushed
    ∙ (ap (λ w. w ++ edge_as x i j ∷ []) so_far
    ∙ (append_assoc start before (edge_as x i j ∷ [])
    ∙ ap (λ w. start ++ (before ++ w ∷ [])) (ap (λ w. edge_as x w j) is_from ∙ ap (edge_as x from) is_to)))

pub second_more : (x : Transition) (count y i j : ℕ) (start old new : List Transition) → i ≡ x.from * count + y → j ≡ x.to * count + y → old ≡ start ++ beside_second x count y → new ≡ old ++ edge_as x i j ∷ []
    → new ≡ start ++ beside_second x count (y + 1)
second_more x count y i j start old new is_from is_to so_far pushed =
    put_more x (x.from * count + y) (x.to * count + y) i j start (beside_second x count y) old new is_from is_to so_far pushed ∙ ap (λ n. start ++ beside_second x count n) (sym (add-one y))

pub first_more : (x : Transition) (count k i j : ℕ) (start old new : List Transition) → i ≡ k * count + x.from → j ≡ k * count + x.to → old ≡ start ++ beside_first x count k → new ≡ old ++ edge_as x i j ∷ []
    → new ≡ start ++ beside_first x count (k + 1)
first_more x count k i j start old new is_from is_to so_far pushed =
    put_more x (k * count + x.from) (k * count + x.to) i j start (beside_first x count k) old new is_from is_to so_far pushed ∙ ap (λ n. start ++ beside_first x count n) (sym (add-one k))

-- the edges of a state that one edge gives, and those that the others give
pub edges_step : (base i : ℕ) (x : Transition) (xs : List Transition) → edges_from base i (x ∷ xs) ≡ edges_from base i (x ∷ []) ++ edges_from base i xs
edges_step base i x xs = ap (λ w. w ++ edges_from base i xs) (sym (append-nil (if x.from == i then (record { to = base + x.to; leaf = x.leaf } ∷ []) else [])))
