-- A set of numbers, and a set of pairs, is one list.
use Rattle.std.proofs.Common.{◌≡◌, ◌↔◌, ℕ, List, refl, ◌∙◌, sym}
use Rattle.std.specs.List.{Contains}
use Rattle.std.specs.List.Sorted.{IsStrictlySortedBy}
use Rattle.std.specs.Cmp.{IsTotalOrder}
use Rattle.std.specs.FinMap.{IsAntisymmetric, nat_cmp-IsAntisymmetric}
use Rattle.std.specs.declared.cmp.Ordering.{Ordering}
use Rattle.std.specs.declared.cmp.Ordering.TheVariants.{Less, Equal, Greater}
use Rattle.std.specs.Ordering.{nat_cmp, ordering_then}
use Rattle.std.proofs.lemmas.Cmp.{nat_cmp_total, on_total, then_total}
use Rattle.tc_alpha.proofs.Members.{has_from_contains, contains_from_has, is_in_order}
use Rattle.tc_rows.specs.PairSets.{pair_cmp, listed}

module _ {K : Type 0} (R : K → K → Ordering) (order : IsTotalOrder R) (exact : IsAntisymmetric R) where
  one_list : (xs ys : List K) → IsStrictlySortedBy R xs → IsStrictlySortedBy R ys → ((z : K) → Contains xs z ↔ Contains ys z) → xs ≡ ys
  one_list xs ys a b e =
      is_in_order order exact xs ys a (λ z h. has_from_contains ys z ((e z).0 (contains_from_has xs z h))) (λ z h. has_from_contains xs z ((e z).1 (contains_from_has ys z h)))
      ∙ sym (is_in_order order exact ys ys b (λ z h. h) (λ z h. h))

pub one_set : (xs ys : List ℕ) → IsStrictlySortedBy nat_cmp xs → IsStrictlySortedBy nat_cmp ys → ((z : ℕ) → Contains xs z ↔ Contains ys z) → xs ≡ ys
one_set = one_list nat_cmp nat_cmp_total nat_cmp-IsAntisymmetric

pub pairs_total : IsTotalOrder pair_cmp
pairs_total = then_total (on_total (λ (p : ℕ × ℕ). p.0) nat_cmp_total) (on_total (λ (p : ℕ × ℕ). p.1) nat_cmp_total)

both_equal : (a b : Ordering) → ordering_then a b ≡ Equal → (a ≡ Equal) × (b ≡ Equal)
both_equal Less b e = cc
both_equal Equal b e = (refl, e)
both_equal Greater b e = cc

pub pairs_apart : IsAntisymmetric pair_cmp
pairs_apart p q e =
    let both = both_equal (nat_cmp p.0 q.0) (nat_cmp p.1 q.1) e in
    let first : p.0 ≡ q.0 = nat_cmp-IsAntisymmetric p.0 q.0 both.0 in
    let second : p.1 ≡ q.1 = nat_cmp-IsAntisymmetric p.1 q.1 both.1 in
    λ i. (first i, second i)

pub one_pair_set : (xs ys : List (ℕ × ℕ)) → IsStrictlySortedBy pair_cmp xs → IsStrictlySortedBy pair_cmp ys → ((i j : ℕ) → listed xs i j ↔ listed ys i j) → xs ≡ ys
one_pair_set xs ys a b e = one_list pair_cmp pairs_total pairs_apart xs ys a b (λ z. e z.0 z.1)
