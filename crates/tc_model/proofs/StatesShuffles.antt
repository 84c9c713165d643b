-- The automaton of an interleave accepts exactly the shuffles.
use Rattle.std.proofs.Common.{◌≡◌, ◌<◌, inl, inr, ℕ, ◌+◌, ◌*◌, ◌/◌, ◌%◌, refl, sym, ap, ◌∙◌, subst, arith}
use Rattle.std.proofs.lemmas.Nat.{div-mul-add, mod-mul-add}
use Rattle.tc_model.specs.Names.{ExpandedName}
use Rattle.tc_model.specs.Trees.{Trees, none, text, element}
use Rattle.tc_model.specs.Matching.{Shuffle, both_end, left_text, left_element, right_text, right_element}
use Rattle.tc_model.specs.States.{Leaf, Front, front_text, front_element, Automaton, Run, stay, step, AcceptsFrom, pair, interleave_of}
use Rattle.tc_model.proofs.StatesJoins.{IsSound}

same_pair : (n x y u v : ℕ) → x * n + y ≡ u * n + v → y < n → v < n → (x ≡ u) × (y ≡ v)
same_pair n x y u v e p q = (sym (div-mul-add x n y p) ∙ (ap (λ w. w / n) e ∙ div-mul-add u n v q), sym (mod-mul-add x n y p) ∙ (ap (λ w. w % n) e ∙ mod-mul-add u n v q))

start_pair : (b : Automaton) → pair b 0 0 ≡ 0
start_pair b = omega arith

module _ {F : ℕ → ExpandedName → Trees → Type 0} where
  -- one item more in the left part, or in the right
  front_left : {l : Leaf} {g h : Trees} (p q : Trees) → Front F l g h → Shuffle p q h → (r : Trees) × Front F l r p × Shuffle r q g
  front_left p q (front_text {s}) m = (text s p, front_text, left_text m)
  front_left p q (front_element {r} {n} {c} f) m = (element n c p, front_element f, left_element m)

  front_right : {l : Leaf} {g h : Trees} (p q : Trees) → Front F l g h → Shuffle p q h → (r : Trees) × Front F l r q × Shuffle p r g
  front_right p q (front_text {s}) m = (text s q, front_text, right_text m)
  front_right p q (front_element {r} {n} {c} f) m = (element n c q, front_element f, right_element m)

  module _ (a b : Automaton) (sa : IsSound a) (sb : IsSound b) where
    -- a hedge that the interleave accepts is a shuffle
    pub unshuffles : {i k : ℕ} {h : Trees} (x y : ℕ) → Run F (interleave_of a b).edge i h k → i ≡ pair b x y → y < b.count → (interleave_of a b).accepting k
        → (p : Trees) × (q : Trees) × Shuffle p q h × AcceptsFrom F a x p × AcceptsFrom F b y q
    unshuffles x y stay at within (u, v, is, acc_u, acc_v) =
        let same = same_pair b.count x y u v (sym at ∙ is) within (sb.accepted v acc_v) in
        (none, none, both_end, (x, stay, subst a.accepting (sym same.0) acc_u), (y, stay, subst b.accepting (sym same.1) acc_v))
    unshuffles x y (step {i} {j} {k} {l} f (inl (u, z, v, is, goes, small, e)) r) at within acc =
        let same = same_pair b.count x y u v (sym at ∙ is) within small in
        let rest = unshuffles z v r goes small acc in
        let more = front_left rest.0 rest.1 f rest.2 in
        (more.0, rest.1, more.2, (rest.3.0, step more.1 (subst (λ w. a.edge w l z) (sym same.0) e) rest.3.1, rest.3.2), subst (λ w. AcceptsFrom F b w rest.1) (sym same.1) rest.4)
    unshuffles x y (step {i} {j} {k} {l} f (inr (u, v, z, is, goes, low, e)) r) at within acc =
        let same = same_pair b.count x y u v (sym at ∙ is) within (sb.from v z l e) in
        let rest = unshuffles u z r goes (sb.below v z l e) acc in
        let more = front_right rest.0 rest.1 f rest.2 in
        (rest.0, more.0, more.2, subst (λ w. AcceptsFrom F a w rest.0) (sym same.0) rest.3, (rest.4.0, step more.1 (subst (λ w. b.edge w l z) (sym same.1) e) rest.4.1, rest.4.2))

    -- a shuffle of accepted parts is accepted
    pub shuffles : {x y u v : ℕ} {p q h : Trees} → Shuffle p q h → Run F a.edge x p u → Run F b.edge y q v → x < a.count → y < b.count → Run F (interleave_of a b).edge (pair b x y) h (pair b u v)
    shuffles both_end stay stay low w = stay
    shuffles both_end stay (step {j = j} {l = l} {h = h} f e s) low w = elim f [ ]
    shuffles both_end (step {j = j} {l = l} {h = h} f e r) s low w = elim f [ ]
    shuffles (left_text m) (step {i} {j} {k} {l} front_text e r) s low w = step front_text (inl (i, j, _, refl, refl, w, e)) (shuffles m r s (sa.below i j l e) w)
    shuffles (left_element m) (step {i} {j} {k} {l} (front_element f) e r) s low w = step (front_element f) (inl (i, j, _, refl, refl, w, e)) (shuffles m r s (sa.below i j l e) w)
    shuffles (right_text m) r (step {i} {j} {k} {l} front_text e s) low w = step front_text (inr (_, i, j, refl, refl, low, e)) (shuffles m r s low (sb.below i j l e))
    shuffles (right_element m) r (step {i} {j} {k} {l} (front_element f) e s) low w = step (front_element f) (inr (_, i, j, refl, refl, low, e)) (shuffles m r s low (sb.below i j l e))

    pub separates : {h : Trees} → AcceptsFrom F (interleave_of a b) 0 h → (p : Trees) × (q : Trees) × Shuffle p q h × AcceptsFrom F a 0 p × AcceptsFrom F b 0 q
    separates (k, r, acc) = unshuffles 0 0 r (sym (start_pair b)) sb.some acc

    pub mixes : {p q h : Trees} → Shuffle p q h → AcceptsFrom F a 0 p → AcceptsFrom F b 0 q → AcceptsFrom F (interleave_of a b) 0 h
    mixes {h = h} m (u, r, acc_u) (v, s, acc_v) =
        (pair b u v, subst (λ w. Run F (interleave_of a b).edge w h (pair b u v)) (start_pair b) (shuffles m r s sa.some sb.some), (u, v, refl, acc_u, acc_v))
