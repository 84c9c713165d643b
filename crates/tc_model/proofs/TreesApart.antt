-- Trees one at a time from the back, and normal trees place by place.
use Rattle.std.proofs.Common.{◌≡◌, ◌↔◌, ◌⊎◌, inl, inr, ℕ, ◌+◌, List, refl, ap, ◌∙◌, sym, subst, Bool, true, false, cond, ◌&&◌, ◌||◌, arith}
use Rattle.std.proofs.lemmas.Bool.{true≢false}
use Rattle.tc_model.specs.Trees.{Trees, none, text, element, beside, node_count, is_white_space_only, joined_to, joined, kept, dropped, normal_form, IsNormal, AreLawful}
use Rattle.tc_model.specs.Chains.{Tree, an_element, a_text}
use Rattle.tc_model.specs.TreesApart.{alone, followed_by, FromBack, is_none, is_followed, is_text, ends_in_text_after, ends_in_text, bears_text, IsApartAfter, IsApart}
use Rattle.tc_model.proofs.TotalJoin.{beside_none, beside_assoc}

pub nodes_beside : (h k : Trees) → node_count (beside h k) ≡ node_count h + node_count k
nodes_beside none k = omega arith
nodes_beside (text s rest) k = let e : node_count (beside rest k) ≡ node_count rest + node_count k = nodes_beside rest k in omega (arith, e)
nodes_beside (element n kids rest) k = let e : node_count (beside rest k) ≡ node_count rest + node_count k = nodes_beside rest k in omega (arith, e)

-- a tree before others
pub before_rest : (t : Tree) (h k : Trees) → beside (followed_by h t) k ≡ beside h (beside (alone t) k)
before_rest t h k = beside_assoc h (alone t) k

from_back_of : (k h : Trees) → FromBack h → FromBack (beside h k)
from_back_of none h b = subst FromBack (sym (beside_none h)) b
from_back_of (text s rest) h b = subst FromBack (before_rest (a_text s) h rest) (from_back_of rest (followed_by h (a_text s)) (is_followed h (a_text s) refl b))
from_back_of (element n kids rest) h b = subst FromBack (before_rest (an_element n kids) h rest) (from_back_of rest (followed_by h (an_element n kids)) (is_followed h (an_element n kids) refl b))

-- all trees have a view from the back
pub from_back : (h : Trees) → FromBack h
from_back h = from_back_of h none is_none

pub ends_beside : (b : Bool) (h k : Trees) → ends_in_text_after b (beside h k) ≡ ends_in_text_after (ends_in_text_after b h) k
ends_beside b none k = refl
ends_beside b (text s rest) k = ends_beside true rest k
ends_beside b (element n kids rest) k = ends_beside false rest k

-- the last one tells
pub ends_alone : (b : Bool) (t : Tree) → ends_in_text_after b (alone t) ≡ is_text t
ends_alone b (an_element n kids) = refl
ends_alone b (a_text s) = refl

pub ends_followed : (h : Trees) (t : Tree) → ends_in_text (followed_by h t) ≡ is_text t
ends_followed h t = ends_beside false h (alone t) ∙ ends_alone (ends_in_text h) t

or_assoc : (a b c : Bool) → a || (b || c) ≡ (a || b) || c
or_assoc true b c = refl
or_assoc false b c = refl

pub bears_beside : (h k : Trees) → bears_text (beside h k) ≡ bears_text h || bears_text k
bears_beside none k = refl
bears_beside (text s rest) k = refl
bears_beside (element n kids rest) k = ap (λ w. bears_text kids || w) (bears_beside rest k) ∙ or_assoc (bears_text kids) (bears_text rest) (bears_text k)

pub lawful_beside : (h k : Trees) → AreLawful (beside h k) ↔ (AreLawful h × AreLawful k)
lawful_beside none k = (λ l. (tt, l), λ p. p.1)
lawful_beside (text s rest) k =
    let (to, of) = lawful_beside rest k in
    (λ l. ((l.0, (to l.1).0), (to l.1).1), λ p. (p.0.0, of (p.0.1, p.1)))
lawful_beside (element n kids rest) k =
    let (to, of) = lawful_beside rest k in
    (λ l. ((l.0, l.1, (to l.2).0), (to l.2).1), λ p. (p.0.0, p.0.1, of (p.0.2, p.1)))

-- side by side, the second behind what the first ends in
pub apart_beside : (b : Bool) (h k : Trees) → IsApartAfter b (beside h k) ↔ (IsApartAfter b h × IsApartAfter (ends_in_text_after b h) k)
apart_beside b none k = (λ a. (tt, a), λ p. p.1)
apart_beside b (text s rest) k =
    let (to, of) = apart_beside true rest k in
    (λ a. ((a.0, a.1, (to a.2).0), (to a.2).1), λ p. (p.0.0, p.0.1, of (p.0.2, p.1)))
apart_beside b (element n kids rest) k =
    let (to, of) = apart_beside false rest k in
    (λ a. ((a.0, (to a.1).0), (to a.1).1), λ p. (p.0.0, of (p.0.1, p.1)))

-- behind no text no more is asked
pub apart_freed : (b : Bool) (h : Trees) → IsApartAfter b h → IsApart h
apart_freed b none a = tt
apart_freed b (text s rest) a = (refl, a.1, a.2)
apart_freed b (element n kids rest) a = a

-- and behind a text, that the tree is none
pub apart_after : (b : Bool) (t : Tree) → IsApartAfter b (alone t) ↔ (IsApart (alone t) × ((b && is_text t) ≡ false))
apart_after b (an_element n kids) = (λ a. (a, and_false b), λ p. p.0)
  where
    and_false : (b : Bool) → b && false ≡ false
    and_false true = refl
    and_false false = refl
apart_after b (a_text s) = (λ a. ((refl, a.1, tt), subst (λ w. (w && true) ≡ false) (sym a.0) refl), λ p. (free b p.1, p.0.1, tt))
  where
    free : (b : Bool) → (b && true) ≡ false → b ≡ false
    free true e = e
    free false e = refl

-- trees with one more behind them are apart exactly where both are and no two texts meet
pub apart_followed : (h : Trees) (t : Tree) → IsApart (followed_by h t) ↔ (IsApart h × IsApart (alone t) × ((ends_in_text h && is_text t) ≡ false))
apart_followed h t =
    let (to, of) = apart_beside false h (alone t) in
    let (split, meet) = apart_after (ends_in_text h) t in
    (λ a. ((to a).0, (split (to a).1).0, (split (to a).1).1), λ p. of (p.0, meet (p.1, p.2)))

-- no text stands beside another
abbrev IsJoined : Bool → Trees → Type 0
IsJoined behind none = Unit {0}
IsJoined behind (text s rest) = (behind ≡ false) × IsJoined true rest
IsJoined behind (element n kids rest) = IsJoined false kids × IsJoined false rest

in_front : (s : List ℕ) (h : Trees) → IsJoined false h → IsJoined false (joined_to s h)
in_front s none j = (refl, tt)
in_front s (text t rest) j = (refl, j.1)
in_front s (element n kids rest) j = (refl, j)

joined_joins : (h : Trees) → IsJoined false (joined h)
joined_joins none = tt
joined_joins (text s rest) = in_front s (joined rest) (joined_joins rest)
joined_joins (element n kids rest) = (joined_joins kids, joined_joins rest)

true_or_false : (b : Bool) → (b ≡ true) ⊎ (b ≡ false)
true_or_false true = inl refl
true_or_false false = inr refl

dropped_apart : (b : Bool) (h : Trees) → IsJoined b h → IsApartAfter b (dropped h)
dropped_apart b none j = tt
dropped_apart b (text s rest) j = by (true_or_false (is_white_space_only s)) (dropped_apart true rest j.1)
  where
    by : (is_white_space_only s ≡ true) ⊎ (is_white_space_only s ≡ false) → IsApartAfter true (dropped rest) → IsApartAfter b (kept s (dropped rest))
    by (inl w) a = subst (λ v. IsApartAfter b (cond v (dropped rest) (text s (dropped rest)))) (sym w) (subst (λ v. IsApartAfter v (dropped rest)) (sym j.0) (apart_freed true (dropped rest) a))
    by (inr w) a = subst (λ v. IsApartAfter b (cond v (dropped rest) (text s (dropped rest)))) (sym w) (j.0, w, a)
dropped_apart b (element n kids rest) j = (dropped_apart false kids j.0, dropped_apart false rest j.1)

keeps : (s : List ℕ) (h : Trees) → is_white_space_only s ≡ false → kept s h ≡ text s h
keeps s h w = ap (λ v. cond v h (text s h)) w

normal_of : (b : Bool) (h : Trees) → IsApartAfter b h → normal_form h ≡ h
normal_of b none s = refl
normal_of b (text t none) s = keeps t none s.1
normal_of b (text t (text u rest)) s = absurd (true≢false s.2.0)
normal_of b (text t (element n kids rest)) s = keeps t (normal_form (element n kids rest)) s.1 ∙ ap (text t) (normal_of true (element n kids rest) s.2)
normal_of b (element n kids rest) s = ap (λ k. element n k (normal_form rest)) (normal_of false kids s.0) ∙ ap (element n kids) (normal_of false rest s.1)

-- trees are in normal form exactly where they are apart
pub normal_apart : (h : Trees) → IsNormal h ↔ IsApart h
normal_apart h = (λ is. subst (IsApartAfter false) is (dropped_apart false (joined h) (joined_joins h)), normal_of false h)

-- once is enough
pub normal_twice : (h : Trees) → normal_form (normal_form h) ≡ normal_form h
normal_twice h = normal_of false (normal_form h) (dropped_apart false (joined h) (joined_joins h))
