-- What is held: its sizes, and what a row adds or can't add to it.
use Rattle.std.proofs.Common.{◌≡◌, ◌<◌, ◌+◌, [], ℕ, List, length, get_or, Some, subst, sym, ap, ◌∙◌, arith}
use Rattle.std.specs.List.{Contains}
use Rattle.std.proofs.lemmas.List.{get_or_append_left, get_or_default, get_or-map, length-append, length-map}
use Rattle.std.proofs.lemmas.List.Elements.{Contains-get_or, All-get_or}
use Rattle.std.proofs.lemmas.Option.{slice_get-get_or}
use Rattle.tc_mat.specs.Matrix.{Matrix, IsMatrix, IsComposition}
use Rattle.tc_mat.specs.Held.{Held, IsHeld, AreMatrices}
use Rattle.tc_mat.proofs.Sets.{one_form}
use Rattle.tc_rows.specs.Triples.{Triple, outputs, entries}
use Rattle.tc_rows.specs.PairSets.{HaveSamePairs, IsPairs, listed, product}
use Rattle.tc_rows.specs.Rows.{AreEntries}
use Rattle.tc_rows.proofs.PairLaws.{same_back, same_on}
use Rattle.tc_rows.proofs.Ascending.{one_pair_set}
use Rattle.tc_beh.specs.Putting.{has}
use Rattle.tc_beh.specs.Places.{pairs_of, no_matrix}
use Rattle.tc_beh.specs.Held.{Extends, IsNew, AreProducts, set_at}
use Rattle.tc_beh.specs.Outs.{sets_of, IsLeftOut, GrowsBy}
use Rattle.tc_beh.proofs.Pairs.{listed_pairs}
use Rattle.tc_beh.proofs.RoomSets.{are_pairs}
use Rattle.tc_beh.proofs.RoomIs.{composed}

-- all that is held has the size
pub sizes_of : (h : Held) (n : ℕ) → AreMatrices h → h.size ≡ n → (k : ℕ) → k < length h.matrices → (set_at h k).size ≡ n
sizes_of h n are e k low = (are k no_matrix low).0 ∙ e

pub matrices_before : (old new : Held) → Extends old new → AreMatrices new → AreMatrices old
matrices_before old new more are = λ k d low.
    let count : length new.matrices ≡ length old.matrices + length more.more = ap length more.all ∙ length-append old.matrices more.more in
    let same : get_or new.matrices k d ≡ get_or old.matrices k d = ap (λ l. get_or l k d) more.all ∙ get_or_append_left old.matrices more.more d k low in
    let (size, is) = are k d (omega (arith, low, count)) in
    (ap (λ (m : Matrix). m.size) (sym same) ∙ (size ∙ more.size), subst (λ (m : Matrix). IsMatrix m) same is)

-- one list of pairs for matrices of a size that have the same
pub one_matrix : (a b : Matrix) → IsMatrix a → IsMatrix b → a.size ≡ b.size → pairs_of a ≡ pairs_of b → a ≡ b
one_matrix a b p q e same =
    one_form a b p q e (same_on (has a) (listed (pairs_of b)) (has b)
    (subst (λ l. HaveSamePairs (has a) (listed l)) same (listed_pairs a)) (same_back (has b) (listed (pairs_of b)) (listed_pairs b)))

-- a matrix that isn't held isn't held as a list
pub not_among : (h : Held) (m : Matrix) → AreMatrices h → m.size ≡ h.size → IsMatrix m → (IsHeld h m → ⊥) → Contains (sets_of h.matrices) (pairs_of m) → ⊥
not_among h m are size is isnt (k, low, at) =
    let many : length (sets_of h.matrices) ≡ length h.matrices = length-map h.matrices pairs_of in
    let inside : k < length h.matrices = omega (arith, low, many) in
    let same : pairs_of (set_at h k) ≡ pairs_of m = sym (get_or-map pairs_of h.matrices k no_matrix [] inside) ∙ (get_or_default (sets_of h.matrices) k [] (pairs_of m) low ∙ at) in
    let (s, i) = are k no_matrix inside in
    let one : set_at h k ≡ m = one_matrix (set_at h k) m i is (s ∙ sym size) same in
    isnt (k, slice_get-get_or h.matrices k no_matrix inside ∙ ap Some one)

module _ (x : Triple) (es : List (List (ℕ × ℕ))) (are : AreEntries x es) where
  -- an entry is one list
  pub is_entry : (m : Matrix) (i : ℕ) → m.size ≡ outputs x → i < entries x → HaveSamePairs (listed (get_or es i [])) (has m) → get_or es i [] ≡ pairs_of m
  is_entry m i size low same =
      let inside : i < length es = let c = are.count in omega (arith, low, c) in
      one_pair_set (get_or es i []) (pairs_of m) (All-get_or (IsPairs (outputs x)) es i [] inside are.each).ascend (are_pairs m (outputs x) size).ascend
      (same_on (listed (get_or es i [])) (has m) (listed (pairs_of m)) same (listed_pairs m))

  pub among : (m : Matrix) (i : ℕ) → m.size ≡ outputs x → i < entries x → HaveSamePairs (listed (get_or es i [])) (has m) → Contains es (pairs_of m)
  among m i size low same =
      let inside : i < length es = let c = are.count in omega (arith, low, c) in
      subst (λ l. Contains es l) (is_entry m i size low same) (Contains-get_or es i [] inside)

  -- a set that is new is an entry that is left out
  pub left_out : (h : Held) (m : Matrix) (i : ℕ) → AreMatrices h → h.size ≡ outputs x → m.size ≡ h.size → IsMatrix m → (IsHeld h m → ⊥)
      → i < entries x → HaveSamePairs (listed (get_or es i [])) (has m) → IsLeftOut h es
  left_out h m i held size of is isnt low same = (pairs_of m, among m i (of ∙ size) low same, not_among h m held of is isnt)

  module _ (old new : Held) (first second : ℕ → ℕ) (each : (i : ℕ) → i < entries x → HaveSamePairs (listed (get_or es i [])) (product (listed (pairs_of (set_at old (first i)))) (listed (pairs_of (set_at old (second i)))))) where
    is_product : (m : Matrix) (i : ℕ) → i < entries x → IsComposition (set_at old (first i)) (set_at old (second i)) m → HaveSamePairs (listed (get_or es i [])) (has m)
    is_product m i low is =
        same_on (listed (get_or es i [])) (product (listed (pairs_of (set_at old (first i)))) (listed (pairs_of (set_at old (second i))))) (has m) (each i low)
        (same_back (has m) (product (listed (pairs_of (set_at old (first i)))) (listed (pairs_of (set_at old (second i)))))
        (same_on (has m) (listed (pairs_of m)) (product (listed (pairs_of (set_at old (first i)))) (listed (pairs_of (set_at old (second i))))) (listed_pairs m)
        (composed (set_at old (first i)) (set_at old (second i)) m is)))

    -- products that come on are entries, and one that is new is left out
    pub grows_by_products : Extends old new → AreMatrices new → new.size ≡ outputs x → AreProducts old new first second (entries x) → GrowsBy old new es
    grows_by_products more held size products = record {
      held = more;
      found = λ k from to.
          let (i, low, is) = products k from to in
          among (set_at new k) i (sizes_of new (outputs x) held size k to) low (is_product (set_at new k) i low is);
    }

    pub product_left_out : (i : ℕ) → AreMatrices new → new.size ≡ outputs x → i < entries x → IsNew new (set_at old (first i)) (set_at old (second i)) → IsLeftOut new es
    product_left_out i held size low (m, of, is, composition, isnt) = left_out new m i held size of is isnt low (is_product m i low composition)
