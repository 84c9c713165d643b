-- The place of a mention among symbols.
use Rattle.std.proofs.Common.{◌≡◌, ℕ, zero, suc, ◌+◌, ◌<◌, ◌≤◌, List, [], ◌∷◌, length, get_or, Some, slice_get, refl, ap, sym, subst, ◌∙◌, ◌⊎◌, inl, inr, true, false, cond, map, Result, Ok, Err, MatchResult, arith, ltb}
use Rattle.std.specs.List.{HoldsAt}
use Rattle.std.specs.List.Sorted.{IsStrictlySortedBy, IsSortedBy, IsNonDecreasingBy, IsSearchInRange, IsBinarySearchResult}
use Rattle.std.specs.Ordering.{is_eq, is_lt, ordering_index, ordering_reverse}
use Rattle.std.specs.declared.cmp.Ordering.{Ordering}
use Rattle.std.specs.declared.cmp.Ordering.TheVariants.{Less, Equal, Greater}
use Rattle.std.specs.Cmp.{IsTotalOrder}
use Rattle.std.proofs.lemmas.List.Sorted.{searchable_from_sorted}
use Rattle.std.proofs.lemmas.Map.Keys.{Less-from_sorted, sorted_head, sorted_tail}
use Rattle.std.proofs.lemmas.Bool.Decides.{nat_tests}
use Rattle.tc_model.specs.Symbols.{Mention, mention_cmp, place_of}
use Rattle.tc_alpha.proofs.Orders.{total, same, itself, same_mention}
use Rattle.tc_alpha.proofs.Members.{Has, every_member}

abbrev Rises : List Mention → Type 0
Rises xs = IsStrictlySortedBy mention_cmp xs

pub place_le : (m : Mention) (xs : List Mention) → place_of m xs ≤ length xs
place_le m [] = omega arith
place_le m (x ∷ xs) =
    let rest = place_le m xs in
    elim (is_eq (mention_cmp m x)) as (λ b. cond b 0 (place_of m xs + 1) ≤ length (x ∷ xs)) [ true ↦ omega arith | false ↦ omega arith ]

-- a mention that is none of them
pub place_absent : (m : Mention) (xs : List Mention) → ((x : Mention) → Has xs x → m ≡ x → ⊥) → place_of m xs ≡ length xs
place_absent m [] none = refl
place_absent m (x ∷ xs) none =
    let rest = place_absent m xs (λ y h e. none y (inr h) e) in
    elim (is_eq (mention_cmp m x)) as (λ b. is_eq (mention_cmp m x) ≡ b → cond b 0 (place_of m xs + 1) ≡ length (x ∷ xs)) [
      | true ↦ λ e. absurd (none x (inl refl) (same_mention m x e))
      | false ↦ λ e. omega arith
    ] refl

pub place_has : (m : Mention) (xs : List Mention) → Has xs m → place_of m xs < length xs
place_has m [] h = absurd h
place_has m (x ∷ xs) (inl e) =
    let is : is_eq (mention_cmp m x) ≡ true = ap is_eq (subst (λ w. mention_cmp m w ≡ Equal) (sym e) (itself m)) in
    subst (λ b. cond b 0 (place_of m xs + 1) < length (x ∷ xs)) (sym is) (omega arith)
place_has m (x ∷ xs) (inr h) =
    let rest = place_has m xs h in
    elim (is_eq (mention_cmp m x)) as (λ b. cond b 0 (place_of m xs + 1) < length (x ∷ xs)) [ true ↦ omega arith | false ↦ omega arith ]

-- what stands at its place is the mention
pub placed : (m : Mention) (xs : List Mention) → place_of m xs < length xs → slice_get xs (place_of m xs) ≡ Some m
placed m [] h = absurd (omega arith)
placed m (x ∷ xs) h =
    elim (is_eq (mention_cmp m x)) as (λ b. is_eq (mention_cmp m x) ≡ b → cond b 0 (place_of m xs + 1) < length (x ∷ xs) → slice_get (x ∷ xs) (cond b 0 (place_of m xs + 1)) ≡ Some m) [
      | true ↦ λ e l. ap Some (sym (same_mention m x e))
      | false ↦ λ e l. later x xs (place_of m xs) ∙ placed m xs (omega arith)
    ] refl h
  where
    later : (x : Mention) (xs : List Mention) (k : ℕ) → slice_get (x ∷ xs) (k + 1) ≡ slice_get xs k
    later x xs k = let e : k + 1 ≡ suc k = omega arith in ap (slice_get (x ∷ xs)) e

pub has_placed : (m : Mention) (xs : List Mention) → place_of m xs < length xs → Has xs m
has_placed m [] h = absurd (omega arith)
has_placed m (x ∷ xs) h =
    elim (is_eq (mention_cmp m x)) as (λ b. is_eq (mention_cmp m x) ≡ b → cond b 0 (place_of m xs + 1) < length (x ∷ xs) → (x ≡ m) ⊎ Has xs m) [
      | true ↦ λ e l. inl (sym (same_mention m x e))
      | false ↦ λ e l. inr (has_placed m xs (omega arith))
    ] refl h

-- in a list that rises, a mention's place is where it stands
pub place_at : (xs : List Mention) (k : ℕ) (m : Mention) → Rises xs → slice_get xs k ≡ Some m → place_of m xs ≡ k
place_at [] k m rises e = cc
place_at (x ∷ xs) zero m rises e =
    let first : x ≡ m = cc in
    let is : is_eq (mention_cmp m x) ≡ true = ap is_eq (subst (λ w. mention_cmp m w ≡ Equal) (sym first) (itself m)) in
    ap (λ b. cond b 0 (place_of m xs + 1)) is
place_at (x ∷ xs) (suc k) m rises e =
    let rest = place_at xs k m (sorted_tail mention_cmp x xs rises) e in
    let less : mention_cmp x m ≡ Less = every_member (λ y. mention_cmp x y ≡ Less) xs m (sorted_head mention_cmp x xs rises) (has_at xs k m e) in
    let is : is_eq (mention_cmp m x) ≡ false = ap is_eq (IsTotalOrder.antisymm total m x ∙ ap ordering_reverse less) in
    ap (λ b. cond b 0 (place_of m xs + 1)) is ∙ omega arith
  where
    has_at : (xs : List Mention) (k : ℕ) (m : Mention) → slice_get xs k ≡ Some m → Has xs m
    has_at [] k m e = cc
    has_at (x ∷ xs) zero m e = let first : x ≡ m = cc in inl first
    has_at (x ∷ xs) (suc k) m e = inr (has_at xs k m e)

is_sorted : (xs : List Mention) → Rises xs → IsSortedBy (λ a b. is_lt (mention_cmp a b)) xs
is_sorted xs rises k d low high =
    let less = Less-from_sorted mention_cmp xs k (k + 1) d rises (omega arith) high in
    ap is_lt (IsTotalOrder.antisymm total (get_or xs (k + 1) d) (get_or xs k d) ∙ ap ordering_reverse less)

get_at : (xs : List Mention) (k : ℕ) (d m : Mention) → k < length xs → get_or xs k d ≡ m → slice_get xs k ≡ Some m
get_at [] k d m h e = absurd (omega arith)
get_at (x ∷ xs) zero d m h e = ap Some e
get_at (x ∷ xs) (suc k) d m h e = get_at xs k d m (omega arith) e

has_index : (xs : List Mention) (x : Mention) → Has xs x → (k : ℕ) × (k < length xs) × ((d : Mention) → get_or xs k d ≡ x)
has_index [] x h = absurd h
has_index (y ∷ xs) x (inl e) = (0, omega arith, λ d. e)
has_index (y ∷ xs) x (inr h) = let rest = has_index xs x h in (suc rest.0, omega arith, rest.2)

-- what a binary search among symbols finds
pub searched : (xs : List Mention) (m : Mention) (r : Result ℕ ℕ) → Rises xs → IsSearchInRange r (length xs) → IsBinarySearchResult (λ y. mention_cmp y m) xs r
    → MatchResult r (λ i. i ≡ place_of m xs) (λ i. length xs ≡ place_of m xs)
searched xs m (Ok i) rises range found = sym (place_at xs i m rises (get_at xs i m m range (same (get_or xs i m) m (found m))))
searched xs m (Err i) rises range found =
    let parts = found (searchable_from_sorted total (λ y. y) xs m (is_sorted xs rises)) in
    sym (place_absent m xs (λ x h e.
    let at = has_index xs x h in
    elim (ltb_cases at.0 i) [
      | inl low ↦ differs x m Less (ap (λ w. mention_cmp w m) (sym (at.2 m)) ∙ parts.0 at.0 m (omega arith) low) (λ q. cc) (sym e)
      | inr high ↦ differs x m Greater (ap (λ w. mention_cmp w m) (sym (at.2 m)) ∙ parts.1 at.0 m high at.1) (λ q. cc) (sym e)
    ]))
  where
    ltb_cases : (a b : ℕ) → (a < b) ⊎ (b ≤ a)
    ltb_cases a b = elim (ltb a b) as (λ t. ltb a b ≡ t → (a < b) ⊎ (b ≤ a)) [ true ↦ λ e. inl (grind (arith, nat_tests)) | false ↦ λ e. inr (grind (arith, nat_tests)) ] refl

    differs : (x m : Mention) (r : Ordering) → mention_cmp x m ≡ r → (r ≡ Equal → ⊥) → x ≡ m → ⊥
    differs x m r e never is = never (sym e ∙ subst (λ w. mention_cmp x w ≡ Equal) is (itself x))

module _ {X : Type 0} (f : X → Mention) where
  at_mapped : (P : Mention → Type 0) (xs : List X) (i : ℕ) → i < length xs → HoldsAt (λ x. P (f x)) xs i → HoldsAt P (map f xs) i
  at_mapped P [] i h p = absurd (omega arith)
  at_mapped P (x ∷ xs) zero h p = λ d. p x
  at_mapped P (x ∷ xs) (suc i) h p = at_mapped P xs i (omega arith) p

  get_mapped : (xs : List X) (i : ℕ) (d : X) → get_or (map f xs) i (f d) ≡ f (get_or xs i d)
  get_mapped [] i d = refl
  get_mapped (x ∷ xs) zero d = refl
  get_mapped (x ∷ xs) (suc i) d = get_mapped xs i d

  length_mapped : (xs : List X) → length (map f xs) ≡ length xs
  length_mapped [] = refl
  length_mapped (x ∷ xs) = let rest = length_mapped xs in omega arith

  back : (R : Mention → ℕ) (xs : List X) → IsNonDecreasingBy R (map f xs) → IsNonDecreasingBy (λ x. R (f x)) xs
  back R xs up i j d le in_range =
      let same = length_mapped xs in
      let at = up i j (f d) le (omega arith) in
      subst (λ w. R w ≤ R (f (get_or xs j d))) (get_mapped xs i d) (subst (λ w. R (get_or (map f xs) i (f d)) ≤ R w) (get_mapped xs j d) at)

  -- the same of items that are seen as mentions
  pub searched_by : (xs : List X) (m : Mention) (r : Result ℕ ℕ) → Rises (map f xs) → IsSearchInRange r (length xs) → IsBinarySearchResult (λ x. mention_cmp (f x) m) xs r
      → MatchResult r (λ i. i ≡ place_of m (map f xs)) (λ i. length xs ≡ place_of m (map f xs))
  searched_by xs m (Ok i) rises range found =
      let same_length = length_mapped xs in
      let low : i < length (map f xs) = omega arith in
      searched (map f xs) m (Ok i) rises low (at_mapped (λ y. mention_cmp y m ≡ Equal) xs i range found)
  searched_by xs m (Err i) rises range found =
      let same_length = length_mapped xs in
      let low : i ≤ length (map f xs) = omega arith in
      sym same_length ∙ searched (map f xs) m (Err i) rises low (λ up.
      let parts = found (back (λ y. ordering_index (mention_cmp y m)) xs up) in
      (λ k d a b. at_mapped (λ y. mention_cmp y m ≡ Less) xs k (omega arith) (λ x. parts.0 k x a b) d, λ k d a b. at_mapped (λ y. mention_cmp y m ≡ Greater) xs k (omega arith) (λ x. parts.1 k x a (omega arith)) d))
