-- Lines in order are different, and so is what is written in them.
use Rattle.std.proofs.Common.{◌≡◌, ◌<◌, ℕ, zero, suc, List, [], ◌∷◌, length, get_or, map, slice_get, Some, subst, sym, ap, ◌∙◌, refl, arith}
use Rattle.std.specs.List.Sorted.{IsStrictlySortedBy}
use Rattle.std.specs.Cmp.Lexicographic.{slice_cmp}
use Rattle.std.specs.Ordering.{nat_cmp}
use Rattle.std.specs.declared.cmp.Ordering.TheVariants.{Less, Equal}
use Rattle.std.proofs.lemmas.Cmp.{nat_list_cmp_total, tied_itself}
use Rattle.std.proofs.lemmas.List.{get_or-map, length-map}
use Rattle.std.proofs.lemmas.Option.{slice_get_within, get_or_from_slice_get}
use Rattle.std.proofs.lemmas.Map.Views.{All-after_first}
use Rattle.std.proofs.lemmas.Map.Keys.{sorted_tail}
use Rattle.tc_model.specs.declared.lists.CertData.{CertData}
use Rattle.tc_model.specs.CertificateData.{IsFormed}
use Rattle.tc_model.specs.CertificateLines.{pairs_line}
use Rattle.tc_mat.specs.Matrix.{Matrix}
use Rattle.tc_mat.specs.Matrix as m
use Rattle.tc_mat.specs.Held.{Held, AreDifferent}
use Rattle.tc_rows.specs.PairSets.{listed}
use Rattle.tc_rows.proofs.Ascending.{one_pair_set}
use Rattle.tc_rows.proofs.PairLaws.{same_back, same_on}
use Rattle.tc_beh.specs.Listing.{AreDistinct}
use Rattle.tc_beh.specs.Outs.{sets_of}
use Rattle.tc_beh.specs.Places.{pairs_of}
use Rattle.tc_beh.specs.Putting.{has}
use Rattle.tc_beh.proofs.Pairs.{listed_pairs}
use Rattle.tc_beh.proofs.RoomSets.{are_pairs}

not_before : (xs : List ℕ) → slice_cmp nat_cmp xs xs ≡ Less → ⊥
not_before xs e = differs (sym e ∙ tied_itself nat_list_cmp_total xs)
  where
    differs : Less ≡ Equal → ⊥
    differs e = cc

module _ {X : Type 0} (line : X → List ℕ) where
  first_differs : (x : X) (xs : List X) → IsStrictlySortedBy (slice_cmp nat_cmp) (map line (x ∷ xs)) → (i : ℕ) (d : X) → i < length xs → x ≡ get_or xs i d → ⊥
  first_differs x xs ascend i d low e =
      let below : slice_cmp nat_cmp (line x) (get_or (map line xs) i (line d)) ≡ Less = All-after_first (slice_cmp nat_cmp) (line x) (map line xs) ascend i (line d) (subst (λ n. i < n) (sym (length-map xs line)) low) in
      let same : get_or (map line xs) i (line d) ≡ line x = get_or-map line xs i d (line d) low ∙ ap line (sym e) in
      not_before (line x) (subst (λ ys. slice_cmp nat_cmp (line x) ys ≡ Less) same below)

  places_same : (xs : List X) → IsStrictlySortedBy (slice_cmp nat_cmp) (map line xs) → (d : X) (i j : ℕ) → i < length xs → j < length xs → get_or xs i d ≡ get_or xs j d → i ≡ j
  places_same [] ascend d i j a b e = absurd (omega (arith, a))
  places_same (x ∷ xs) ascend d zero zero a b e = refl
  places_same (x ∷ xs) ascend d zero (suc j) a b e = absurd (first_differs x xs ascend j d (omega (arith, b)) e)
  places_same (x ∷ xs) ascend d (suc i) zero a b e = absurd (first_differs x xs ascend i d (omega (arith, a)) (sym e))
  places_same (x ∷ xs) ascend d (suc i) (suc j) a b e = ap suc (places_same xs (sorted_tail (slice_cmp nat_cmp) (line x) (map line xs) ascend) d i j (omega (arith, a)) (omega (arith, b)) e)

pub outputs_differ : (c : CertData) → IsFormed c → AreDistinct c.outputs
outputs_differ c formed i j a b e = places_same pairs_line c.outputs formed.outputs_ordered [] i j a b e

same_list : (a b : Matrix) → m.HaveSamePairs a b → pairs_of a ≡ pairs_of b
same_list a b same =
    let first = same_back (has a) (listed (pairs_of a)) (listed_pairs a) in
    let second = same_on (has a) (has b) (listed (pairs_of b)) same (listed_pairs b) in
    one_pair_set (pairs_of a) (pairs_of b) (are_pairs a a.size refl).ascend (are_pairs b b.size refl).ascend (same_on (listed (pairs_of a)) (has a) (listed (pairs_of b)) first second)

-- sets that are those of different lists differ
pub sets_differ : (c : CertData) → IsFormed c → (held : Held) → sets_of held.matrices ≡ c.outputs → AreDifferent held
sets_differ c formed held e i j a b at there same = outputs_differ c formed i j (low i a at) (low j b there) (pairs i a at ∙ (same_list a b same ∙ sym (pairs j b there)))
  where
    low : (k : ℕ) (m : Matrix) → slice_get held.matrices k ≡ Some m → k < length c.outputs
    low k m at = let l = slice_get_within held.matrices k m at in let n = length-map held.matrices pairs_of in let f = ap length e in omega (arith, l, n, f)

    pairs : (k : ℕ) (m : Matrix) → slice_get held.matrices k ≡ Some m → get_or c.outputs k [] ≡ pairs_of m
    pairs k m at =
        sym (ap (λ (ps : List (List (ℕ × ℕ))). get_or ps k []) e) ∙ (get_or-map pairs_of held.matrices k m [] (slice_get_within held.matrices k m at) ∙ ap pairs_of (get_or_from_slice_get held.matrices k m m at))
