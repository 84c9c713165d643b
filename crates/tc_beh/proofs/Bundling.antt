-- Edges in bundles: how they are made, and the flags that they set.
use Rattle.std.proofs.Common.{◌≡◌, ◌≢◌, ◌<◌, ◌≤◌, ◌⊎◌, inl, inr, ◌+◌, ◌-◌, ◌*◌, ◌/◌, ◌%◌, ◌^◌, ◌↔◌, ◌++◌, ◌∷◌, [], ℕ, List, length, get_or, set, min, max, bit_or, bit_and, slice_get, Some, subst, sym, ap, ◌∙◌, refl, arith, length-append}
use Rattle.std.specs.Int.{bit_at, trailing_zeros, w64}
use Rattle.std.specs.Global.{Vec}
use Rattle.std.specs.List.{Contains}
use Rattle.std.proofs.Math.ListN.{get_or-append}
use Rattle.std.proofs.lemmas.Bool.{cases_lt, cases_eq}
use Rattle.std.proofs.lemmas.List.{get_or-set_same, get_or-set_other, length-set, get_or_push, get_or_default, get_or_past}
use Rattle.std.proofs.lemmas.Option.{get_or_from_slice_get, slice_get_within, slice_get-get_or}
use Rattle.std.proofs.lemmas.Nat.{div-mul-add, mod-mul-add, and_le_l}
use Rattle.std.proofs.lemmas.Nat.Bits.{bit_at_or, bit_at_and, bit_at-lt, bit_at-zero, bit_at-pow_same, bit_at-pow_other, bit_at-trailing_zeros}
use Rattle.tc_model.specs.States as s
use Rattle.tc_model.specs.Grammars as g
use Rattle.tc_auto.specs.Arrows.{AreWithin}
use Rattle.tc_auto.specs.Stands.{Stands, states}
use Rattle.tc_auto.specs.declared.arrows.Arrow.{Arrow}
use Rattle.tc_auto.specs.declared.auto.Auto.{Auto}
use Rattle.tc_mat.specs.Matrix.{words_a_row}
use Rattle.tc_beh.specs.Bundles.{no_bundle, bundle_at, no_arrow, arrow_at, IsBundleOf, IsIn, widened, HasEdge, GainsEdge, AreOf, AreLow, AreBundled, AreEdges, AreStepsOf, IsCurrent, IsWordOf, AreWordsOf, HaveCommon, Meet, LeadsAlong, LeadsBy, PutsBy, IsAfter, PutsAfter}
use Rattle.tc_beh.specs.Rooms.{flag_at}
use Rattle.tc_beh.specs.declared.bundles.Bundle.{Bundle}
use Rattle.tc_beh.specs.declared.bundles.Bundles.{Bundles}
use Rattle.tc_beh.specs.declared.bundles.Words.{Words}

-- ---- one edge more
-- of two bits of which one is set
either : (a b r : ℕ) → r ≡ max a b → r ≡ 1 → a < 2 → b < 2 → (a ≡ 1) ⊎ (b ≡ 1)
either a b r is one low high = grind arith

one_of : (a b r : ℕ) → r ≡ max a b → (a ≡ 1) ⊎ (b ≡ 1) → a < 2 → b < 2 → r ≡ 1
one_of a b r is (inl e) low high = omega arith
one_of a b r is (inr e) low high = omega arith

both : (a b r : ℕ) → r ≡ min a b → r ≡ 1 → a < 2 → b < 2 → (a ≡ 1) × (b ≡ 1)
both a b r is one low high = (omega arith, omega arith)

-- a bit that is put
module _ (bits place : ℕ) where
  pub put_bit : (p : ℕ) → bit_at (bit_or bits (2 ^ place)) p ≡ 1 → (bit_at bits p ≡ 1) ⊎ (p ≡ place)
  put_bit p one = elim (either (bit_at bits p) (bit_at (2 ^ place) p) (bit_at (bit_or bits (2 ^ place)) p) (bit_at_or bits (2 ^ place) p) one (bit_at-lt bits p) (bit_at-lt (2 ^ place) p)) [
    | inl a ↦ inl a
    | inr b ↦ inr (by (cases_eq p place) b)
  ]
    where
      by : (p ≡ place) ⊎ (p ≡ place → ⊥) → bit_at (2 ^ place) p ≡ 1 → p ≡ place
      by (inl e) b = e
      by (inr not) b = absurd (omega (arith, b, bit_at-pow_other place p (let u : p ≢ place = not in u)))

  pub bit_kept : (p : ℕ) → (bit_at bits p ≡ 1) ⊎ (p ≡ place) → bit_at (bit_or bits (2 ^ place)) p ≡ 1
  bit_kept p is = one_of (bit_at bits p) (bit_at (2 ^ place) p) (bit_at (bit_or bits (2 ^ place)) p) (bit_at_or bits (2 ^ place) p) (by is) (bit_at-lt bits p) (bit_at-lt (2 ^ place) p)
    where
      by : (bit_at bits p ≡ 1) ⊎ (p ≡ place) → (bit_at bits p ≡ 1) ⊎ (bit_at (2 ^ place) p ≡ 1)
      by (inl a) = inl a
      by (inr e) = inr (ap (bit_at (2 ^ place)) e ∙ bit_at-pow_same place)

-- a state by its word and its bit
state_is : (i from : ℕ) → i / 64 ≡ from / 64 → i % 64 ≡ from % 64 → i ≡ from
state_is i from e f = omega arith

module _ (old new : List Bundle) (place : ℕ) (a : Arrow) (is : IsBundleOf old place (a.from / 64) a.to) (e : new ≡ widened old place (2 ^ (a.from % 64))) where
  here : bundle_at new place ≡ record (bundle_at old place) { bits = bit_or (bundle_at old place).bits (2 ^ (a.from % 64)) }
  here = ap (λ l. get_or l place no_bundle) e ∙ get_or-set_same old place _ no_bundle is.0

  there : (k : ℕ) → (k ≡ place → ⊥) → bundle_at new k ≡ bundle_at old k
  there k not = ap (λ l. get_or l k no_bundle) e ∙ get_or-set_other old place k _ no_bundle (let u : k ≢ place = not in u)

  count : length new ≡ length old
  count = ap length e ∙ length-set old place _

  pub widen_gains : GainsEdge old a new
  widen_gains i j = (forth, back)
    where
      forth : HasEdge new i j → HasEdge old i j ⊎ ((i ≡ a.from) × (j ≡ a.to))
      forth (k, low, edge) = by (cases_eq k place)
        where
          at : k ≡ place → HasEdge old i j ⊎ ((i ≡ a.from) × (j ≡ a.to))
          at same =
              let (word, to, bit) = subst (IsIn i j) (ap (bundle_at new) same ∙ here) edge in
              elim (put_bit (bundle_at old place).bits (a.from % 64) (i % 64) bit) [
                | inl b ↦ inl (place, is.0, (word, to, b))
                | inr b ↦ inr (state_is i a.from (sym word ∙ is.1) b, sym to ∙ is.2)
              ]

          by : (k ≡ place) ⊎ (k ≡ place → ⊥) → HasEdge old i j ⊎ ((i ≡ a.from) × (j ≡ a.to))
          by (inl same) = at same
          by (inr not) = inl (k, omega (arith, low, count), subst (IsIn i j) (there k not) edge)

      back : HasEdge old i j ⊎ ((i ≡ a.from) × (j ≡ a.to)) → HasEdge new i j
      back (inr (from, to)) = (
        place,
        omega (arith, is.0, count),
        subst (IsIn i j) (sym here) (is.1 ∙ ap (λ n. n / 64) (sym from), is.2 ∙ sym to, bit_kept (bundle_at old place).bits (a.from % 64) (i % 64) (inr (ap (λ n. n % 64) from))),
      )
      back (inl (k, low, edge)) = by (cases_eq k place)
        where
          at : k ≡ place → HasEdge new i j
          at same =
              let (word, to, bit) = subst (λ n. IsIn i j (bundle_at old n)) same edge in
              (place, omega (arith, is.0, count), subst (IsIn i j) (sym here) (word, to, bit_kept (bundle_at old place).bits (a.from % 64) (i % 64) (inl bit)))

          by : (k ≡ place) ⊎ (k ≡ place → ⊥) → HasEdge new i j
          by (inl same) = at same
          by (inr not) = (k, omega (arith, low, count), subst (IsIn i j) (sym (there k not)) edge)

  pub widen_low : (n : ℕ) → AreLow n old → AreLow n new
  widen_low n are k low = by (cases_eq k place)
    where
      by : (k ≡ place) ⊎ (k ≡ place → ⊥) → ((bundle_at new k).word < words_a_row n) × ((bundle_at new k).to < n)
      by (inl same) =
          let old_low = are place is.0 in
          let same_word : (bundle_at new k).word ≡ (bundle_at old place).word = ap (λ (b : Bundle). b.word) (ap (bundle_at new) same ∙ here) in
          let same_to : (bundle_at new k).to ≡ (bundle_at old place).to = ap (λ (b : Bundle). b.to) (ap (bundle_at new) same ∙ here) in
          (omega (arith, old_low.0, same_word), omega (arith, old_low.1, same_to))
      by (inr not) =
          let old_low = are k (omega (arith, low, count)) in
          let same_word : (bundle_at new k).word ≡ (bundle_at old k).word = ap (λ (b : Bundle). b.word) (there k not) in
          let same_to : (bundle_at new k).to ≡ (bundle_at old k).to = ap (λ (b : Bundle). b.to) (there k not) in
          (omega (arith, old_low.0, same_word), omega (arith, old_low.1, same_to))

-- a bundle of one edge
abbrev pub single : Arrow → Bundle
single a = record { word = a.from / 64; to = a.to; bits = 2 ^ (a.from % 64) }

module _ (old new : List Bundle) (a : Arrow) (e : new ≡ old ++ single a ∷ []) where
  at_end : bundle_at new (length old) ≡ single a
  at_end = ap (λ l. get_or l (length old) no_bundle) e ∙ get_or_push old (single a) no_bundle (length old) refl

  before : (k : ℕ) → k < length old → bundle_at new k ≡ bundle_at old k
  before k low = ap (λ l. get_or l k no_bundle) e ∙ get_or-append old (single a ∷ []) no_bundle k low

  more : length new ≡ length old + 1
  more = ap length e ∙ length-append old (single a ∷ [])

  pub push_gains : GainsEdge old a new
  push_gains i j = (forth, back)
    where
      forth : HasEdge new i j → HasEdge old i j ⊎ ((i ≡ a.from) × (j ≡ a.to))
      forth (k, low, edge) = by (cases_lt k (length old))
        where
          at : k ≡ length old → (i ≡ a.from) × (j ≡ a.to)
          at same =
              let (word, to, bit) = subst (IsIn i j) (ap (bundle_at new) same ∙ at_end) edge in
              (state_is i a.from (sym word) (bit_of (cases_eq (i % 64) (a.from % 64)) bit), sym to)
            where
              bit_of : (i % 64 ≡ a.from % 64) ⊎ (i % 64 ≡ a.from % 64 → ⊥) → bit_at (2 ^ (a.from % 64)) (i % 64) ≡ 1 → i % 64 ≡ a.from % 64
              bit_of (inl f) b = f
              bit_of (inr not) b = absurd (omega (arith, b, bit_at-pow_other (a.from % 64) (i % 64) (let u : i % 64 ≢ a.from % 64 = not in u)))

          by : (k < length old) ⊎ (length old ≤ k) → HasEdge old i j ⊎ ((i ≡ a.from) × (j ≡ a.to))
          by (inl less) = inl (k, less, subst (IsIn i j) (before k less) edge)
          by (inr past) = inr (at (omega (arith, past, low, more)))

      back : HasEdge old i j ⊎ ((i ≡ a.from) × (j ≡ a.to)) → HasEdge new i j
      back (inl (k, low, edge)) = (k, omega (arith, low, more), subst (IsIn i j) (sym (before k low)) edge)
      back (inr (from, to)) = (
        length old,
        omega (arith, more),
        subst (IsIn i j) (sym at_end) (ap (λ n. n / 64) (sym from), sym to, ap (λ n. bit_at (2 ^ (a.from % 64)) (n % 64)) from ∙ bit_at-pow_same (a.from % 64)),
      )

  pub push_low : (n : ℕ) → a.from < n → a.to < n → AreLow n old → AreLow n new
  push_low n from to are k low = by (cases_lt k (length old))
    where
      by : (k < length old) ⊎ (length old ≤ k) → ((bundle_at new k).word < words_a_row n) × ((bundle_at new k).to < n)
      by (inl less) = subst (λ (b : Bundle). (b.word < words_a_row n) × (b.to < n)) (sym (before k less)) (are k less)
      by (inr past) =
          let same : k ≡ length old = omega (arith, past, low, more) in
          subst (λ (b : Bundle). (b.word < words_a_row n) × (b.to < n)) (sym (ap (bundle_at new) same ∙ at_end)) (omega (arith, from), to)

-- ---- the first edges
abbrev pub AreFirst : List Arrow → ℕ → List Bundle → Type 0
AreFirst arrows n bundles = (i j : ℕ) → HasEdge bundles i j ↔ ((k : ℕ) × (k < n) × (get_or arrows k (record { from = i; to = j }) ≡ record { from = i; to = j }))

pub none_first : (arrows : List Arrow) → AreFirst arrows 0 []
none_first arrows i j = (λ (k, low, edge). absurd (omega (arith, low)), λ (k, low, is). absurd (omega (arith, low)))

pub next_first : (arrows : List Arrow) (n : ℕ) (a : Arrow) (old new : List Bundle) → ((d : Arrow) → get_or arrows n d ≡ a) → GainsEdge old a new → AreFirst arrows n old → AreFirst arrows (n + 1) new
next_first arrows n a old new here gains are i j = (forth, back)
  where
    edge : Arrow
    edge = record { from = i; to = j }

    forth : HasEdge new i j → (k : ℕ) × (k < n + 1) × (get_or arrows k (record { from = i; to = j }) ≡ record { from = i; to = j })
    forth h = elim ((gains i j).0 h) [
      | inl b ↦ let (k, low, is) = (are i j).0 b in (k, omega (arith, low), is)
      | inr (from, to) ↦ (n, omega arith, here (record { from = i; to = j }) ∙ λ t. record { from = sym from t; to = sym to t })
    ]

    back : (k : ℕ) × (k < n + 1) × (get_or arrows k (record { from = i; to = j }) ≡ record { from = i; to = j }) → HasEdge new i j
    back (k, low, is) = by (cases_lt k n)
      where
        by : (k < n) ⊎ (n ≤ k) → HasEdge new i j
        by (inl less) = (gains i j).1 (inl ((are i j).1 (k, less, is)))
        by (inr past) =
            let last : n ≡ k = omega (arith, low, past) in
            let same : record { from = i; to = j } ≡ a = sym is ∙ (ap (λ m. get_or arrows m (record { from = i; to = j })) (sym last) ∙ here (record { from = i; to = j })) in
            (gains i j).1 (inr (ap (λ (b : Arrow). b.from) same, ap (λ (b : Arrow). b.to) same))

pub all_first : (arrows : List Arrow) (n : ℕ) (bundles : List Bundle) → n ≡ length arrows → AreFirst arrows n bundles → AreOf arrows bundles
all_first arrows n bundles all are i j = (
  λ h. let (k, low, is) = (are i j).0 h in (k, omega (arith, low, all), is),
  λ (k, low, is). (are i j).1 (k, omega (arith, low, all), is),
)

-- edges of an automaton
pub are_bundled : (a : Auto) (taken : s.Leaf) (arrows : List Arrow) (bundles : List Bundle) → AreWithin (states a) arrows
    → ((side : s.Side) (x : g.Grammar) → Stands side x a → (e : Arrow) → Contains arrows e ↔ s.IsEdge x side e.from taken e.to) → AreOf arrows bundles → AreLow (states a) bundles → AreBundled a taken bundles
are_bundled a taken arrows bundles within exact are low = record {
  low = low;
  from = λ i j h. let c = (are i j).0 h in subst (λ (e : Arrow). e.from < states a) c.2 (within c.0 (record { from = i; to = j }) c.1).0;
  exact = λ side x st i j. (
    λ h. (exact side x st (record { from = i; to = j })).0 ((are i j).0 h),
    λ h. (are i j).1 ((exact side x st (record { from = i; to = j })).1 h),
  );
}

-- ---- a list of bundles more
pub no_element : {X : Type 0} (xs : List X) (k : ℕ) (v : X) → xs ≡ [] → slice_get xs k ≡ Some v → ⊥
no_element xs k v none got = absurd (omega (arith, slice_get_within xs k v got, ap length none))

pub one_longer : {X : Type 0} (old new : List X) (v : X) → new ≡ old ++ v ∷ [] → length new ≡ length old + 1
one_longer old new v e = ap length e ∙ length-append old (v ∷ [])

-- what is so of each stays so where one more is put
pub each_pushed : {X : Type 0} (old new : List X) (row : X) → new ≡ old ++ row ∷ [] → (P : ℕ → X → Type 0) → ((k : ℕ) (v : X) → slice_get old k ≡ Some v → P k v) → P (length old) row → (k : ℕ) (v : X) → slice_get new k ≡ Some v → P k v
each_pushed {X} old new row e P are last k v got = by (cases_lt k (length old))
  where
    here : get_or new k v ≡ v
    here = get_or_from_slice_get new k v v got

    by : (k < length old) ⊎ (length old ≤ k) → P k v
    by (inl less) =
        let same : get_or old k v ≡ v = sym (ap (λ l. get_or l k v) e ∙ get_or-append old (row ∷ []) v k less) ∙ here in
        are k v (slice_get-get_or old k v less ∙ ap Some same)
    by (inr past) =
        let end : k ≡ length old = omega (arith, past, slice_get_within new k v got, one_longer old new row e) in
        let same : row ≡ v = sym (ap (λ l. get_or l k v) e ∙ get_or_push old row v k (sym end)) ∙ here in
        subst (P k) same (subst (λ n. P n row) (sym end) last)

-- words that were made anew
pub steps_worded : (a : Auto) (b : Bundles) → AreStepsOf a b → (w : Words) → length w.bits.items ≡ length b.words.bits.items → IsCurrent w → AreStepsOf a (record b { words = w })
steps_worded a b is w count current = record { text = is.text; count = is.count; patterns = is.patterns; words = count ∙ is.words; current = current }

-- ---- words of flags
abbrev pub AreFirstBits : List ℕ → ℕ → ℕ → ℕ → Type 0
AreFirstBits flags word n bits = (p : ℕ) → (bit_at bits p ≡ 1) ↔ ((p < n) × (get_or flags (64 * word + p) 0 ≡ 1))

pub no_bits : (flags : List ℕ) (word : ℕ) → AreFirstBits flags word 0 0
no_bits flags word p = (λ h. absurd (omega (arith, h, bit_at-zero p)), λ (low, is). absurd (omega (arith, low)))

pub with_bit : (flags : List ℕ) (word n old new : ℕ) → get_or flags (64 * word + n) 0 ≡ 1 → new ≡ bit_or old (2 ^ n) → AreFirstBits flags word n old → AreFirstBits flags word (n + 1) new
with_bit flags word n old new is e are p = (forth, back)
  where
    forth : bit_at new p ≡ 1 → (p < n + 1) × (get_or flags (64 * word + p) 0 ≡ 1)
    forth h = elim (put_bit old n p (ap (λ w. bit_at w p) (sym e) ∙ h)) [
      | inl b ↦ let (low, f) = (are p).0 b in (omega (arith, low), f)
      | inr b ↦ (omega (arith, b), ap (λ k. get_or flags (64 * word + k) 0) b ∙ is)
    ]

    back : (p < n + 1) × (get_or flags (64 * word + p) 0 ≡ 1) → bit_at new p ≡ 1
    back (low, f) = ap (λ w. bit_at w p) e ∙ bit_kept old n p (by (cases_lt p n))
      where
        by : (p < n) ⊎ (n ≤ p) → (bit_at old p ≡ 1) ⊎ (p ≡ n)
        by (inl less) = inl ((are p).1 (less, f))
        by (inr past) = inr (omega (arith, past, low))

pub without_bit : (flags : List ℕ) (word n bits : ℕ) → (get_or flags (64 * word + n) 0 ≡ 1 → ⊥) → AreFirstBits flags word n bits → AreFirstBits flags word (n + 1) bits
without_bit flags word n bits isnt are p = (λ h. let (low, f) = (are p).0 h in (omega (arith, low), f), back)
  where
    back : (p < n + 1) × (get_or flags (64 * word + p) 0 ≡ 1) → bit_at bits p ≡ 1
    back (low, f) = by (cases_lt p n)
      where
        by : (p < n) ⊎ (n ≤ p) → bit_at bits p ≡ 1
        by (inl less) = (are p).1 (less, f)
        by (inr past) = let same : p ≡ n = omega (arith, past, low) in absurd (isnt (subst (λ k. get_or flags (64 * word + k) 0 ≡ 1) same f))

-- ---- words that meet
pub common : (first second : ℕ) → (bit_and first second ≡ 0 → ⊥) → first < 2 ^ 64 → HaveCommon first second
common first second some fits =
    let (low, one, none) = bit_at-trailing_zeros w64 (bit_and first second) (let u : bit_and first second ≢ 0 = some in omega arith) (omega (arith, fits, and_le_l first second)) in
    let p = trailing_zeros w64 (bit_and first second) in
    let (l, r) = both (bit_at first p) (bit_at second p) (bit_at (bit_and first second) p) (bit_at_and first second p) one (bit_at-lt first p) (bit_at-lt second p) in
    (p, low, l, r)

pub in_common : (first second : ℕ) → HaveCommon first second → bit_and first second ≡ 0 → ⊥
in_common first second (p, low, l, r) none =
    let e : bit_at (bit_and first second) p ≡ 0 = ap (λ n. bit_at n p) none ∙ bit_at-zero p in
    absurd (omega (arith, e, l, r, bit_at_and first second p))

-- ---- flags, edge by edge or bundle by bundle
-- one of the first leads there
abbrev pub LeadsFirst : (ℕ → ℕ) → (ℕ → Type 0) → ℕ → ℕ → Type 0
LeadsFirst to Holds n j = (k : ℕ) × (k < n) × (to k ≡ j) × Holds k

module _ (to : ℕ → ℕ) (Holds : ℕ → Type 0) where
  split_first : (n j : ℕ) → LeadsFirst to Holds (n + 1) j → LeadsFirst to Holds n j ⊎ ((to n ≡ j) × Holds n)
  split_first n j (k, low, at, is) = elim (cases_lt k n) [
    | inl a ↦ inl (k, a, at, is)
    | inr a ↦ let same : k ≡ n = omega (arith, low, a) in inr (subst (λ m. (to m ≡ j) × Holds m) same (at, is))
  ]

  later : (n j : ℕ) → LeadsFirst to Holds n j → LeadsFirst to Holds (n + 1) j
  later n j (k, low, at, is) = (k, omega (arith, low), at, is)

  pub not_met : (n : ℕ) (old new : List ℕ) → (Holds n → ⊥) → PutsBy (LeadsFirst to Holds n) old new → PutsBy (LeadsFirst to Holds (n + 1)) old new
  not_met n old new isnt is = record {
    each = is.each;
    exact = λ j. (
      λ h. elim ((is.exact j).0 h) [ inl a ↦ inl a | inr b ↦ inr (later n j b) ],
      λ h. elim h [
        | inl a ↦ (is.exact j).1 (inl a)
        | inr b ↦ elim (split_first n j b) [ inl d ↦ (is.exact j).1 (inr d) | inr d ↦ absurd (isnt d.1) ]
      ],
    );
  }

  pub is_met : (n : ℕ) (old mid new : List ℕ) → Holds n → flag_at new (to n) ≡ 1 → ((k : ℕ) → k ≢ 2 + to n → get_or new k 0 ≡ get_or mid k 0) → PutsBy (LeadsFirst to Holds n) old mid → PutsBy (LeadsFirst to Holds (n + 1)) old new
  is_met n old mid new holds put others is = record { each = each; exact = λ j. (forth j, back j) }
    where
      at : (j : ℕ) → (to n ≡ j) ⊎ (flag_at new j ≡ flag_at mid j)
      at j = elim (cases_eq (to n) j) [ inl a ↦ inl a | inr a ↦ inr (others (2 + j) (λ f. a (omega (arith, f)))) ]

      one : (j : ℕ) → to n ≡ j → flag_at new j ≡ 1
      one j f = subst (λ k. flag_at new k ≡ 1) f put

      each : (j : ℕ) → (flag_at new j ≡ 1) ⊎ (flag_at new j ≡ flag_at old j)
      each j = elim (at j) [ inl a ↦ inl (one j a) | inr a ↦ elim (is.each j) [ inl b ↦ inl (a ∙ b) | inr b ↦ inr (a ∙ b) ] ]

      forth : (j : ℕ) → flag_at new j ≡ 1 → (flag_at old j ≡ 1) ⊎ LeadsFirst to Holds (n + 1) j
      forth j h = elim (at j) [
        | inl a ↦ inr (n, omega arith, a, holds)
        | inr a ↦ elim ((is.exact j).0 (sym a ∙ h)) [ inl b ↦ inl b | inr b ↦ inr (later n j b) ]
      ]

      from : (j : ℕ) → (to n ≡ j) ⊎ (flag_at new j ≡ flag_at mid j) → flag_at mid j ≡ 1 → flag_at new j ≡ 1
      from j (inl a) h = one j a
      from j (inr a) h = a ∙ h

      back : (j : ℕ) → (flag_at old j ≡ 1) ⊎ LeadsFirst to Holds (n + 1) j → flag_at new j ≡ 1
      back j (inl a) = from j (at j) ((is.exact j).1 (inl a))
      back j (inr b) = elim (split_first n j b) [ inl d ↦ from j (at j) ((is.exact j).1 (inr d)) | inr d ↦ one j d.0 ]

-- the first of some edges, and of some bundles
abbrev pub AlongFirst : List Arrow → List ℕ → ℕ → ℕ → Type 0
AlongFirst arrows hedge = LeadsFirst (λ k. (arrow_at arrows k).to) (λ k. get_or hedge (arrow_at arrows k).from 0 ≡ 1)

abbrev pub ByFirst : List Bundle → List ℕ → ℕ → ℕ → Type 0
ByFirst bundles words = LeadsFirst (λ k. (bundle_at bundles k).to) (λ k. Meet (bundle_at bundles k) words)

-- the states to which edges lead from states with a flag
module _ (a : Auto) (hedge : List ℕ) (taken : s.Leaf) where
  abbrev AreAfter : (ℕ → Type 0) → Type 0
  AreAfter Leads = (side : s.Side) (x : g.Grammar) → Stands side x a → (j : ℕ) → Leads j ↔ IsAfter side x a hedge taken j

  puts_after : (Leads : ℕ → Type 0) (old new : List ℕ) → AreAfter Leads → PutsBy Leads old new → PutsAfter a hedge taken old new
  puts_after Leads old new are is = record {
    each = is.each;
    exact = λ side x st j. (
      λ h. elim ((is.exact j).0 h) [ inl b ↦ inl b | inr b ↦ inr ((are side x st j).0 b) ],
      λ h. elim h [ inl b ↦ (is.exact j).1 (inl b) | inr b ↦ (is.exact j).1 (inr ((are side x st j).1 b)) ],
    );
  }

  module _ (arrows : List Arrow) (bundles : List Bundle) (edges : AreEdges a taken arrows bundles) (old new : List ℕ) where
    pub put_along : PutsBy (LeadsAlong arrows hedge) old new → PutsAfter a hedge taken old new
    put_along is = puts_after (LeadsAlong arrows hedge) old new (λ side x st j. (after_forth side x st j, after_back side x st j)) is
      where
        after_forth : (side : s.Side) (x : g.Grammar) → Stands side x a → (j : ℕ) → LeadsAlong arrows hedge j → IsAfter side x a hedge taken j
        after_forth side x st j (k, low, to, flag) =
            let e : Arrow = arrow_at arrows k in
            let there : Contains arrows e = (k, low, get_or_default arrows k e no_arrow low) in
            (e.from, (edges.within k no_arrow low).0, flag, subst (λ t. s.IsEdge x side e.from taken t) to ((edges.exact side x st e).0 there))

        after_back : (side : s.Side) (x : g.Grammar) → Stands side x a → (j : ℕ) → IsAfter side x a hedge taken j → LeadsAlong arrows hedge j
        after_back side x st j (i, low, flag, edge) =
            let e : Arrow = record { from = i; to = j } in
            let (k, within, at) = (edges.exact side x st e).1 edge in
            let same : arrow_at arrows k ≡ e = get_or_default arrows k no_arrow e within ∙ at in
            (k, within, ap (λ (b : Arrow). b.to) same, subst (λ (b : Arrow). get_or hedge b.from 0 ≡ 1) (sym same) flag)

    pub put_by : (words : List ℕ) → AreWordsOf hedge words → words_a_row (states a) ≤ length words → PutsBy (LeadsBy bundles words) old new → PutsAfter a hedge taken old new
    put_by words are count is = puts_after (LeadsBy bundles words) old new (λ side x st j. (after_forth side x st j, after_back side x st j)) is
      where
        after_forth : (side : s.Side) (x : g.Grammar) → Stands side x a → (j : ℕ) → LeadsBy bundles words j → IsAfter side x a hedge taken j
        after_forth side x st j (k, low, to, (p, fits, one, bit)) =
            let b : Bundle = bundle_at bundles k in
            let i = 64 * b.word + p in
            let e : i ≡ b.word * 64 + p = omega arith in
            let word : b.word ≡ i / 64 = sym (ap (λ n. n / 64) e ∙ div-mul-add b.word 64 p fits) in
            let place : i % 64 ≡ p = ap (λ n. n % 64) e ∙ mod-mul-add b.word 64 p fits in
            let edge : HasEdge bundles i j = (k, low, (word, to, ap (bit_at b.bits) place ∙ bit)) in
            let inside : b.word < length words = omega (arith, (edges.bundled.low k low).0, count) in
            (i, edges.bundled.from i j edge, (are b.word inside p fits).0 one, (edges.bundled.exact side x st i j).0 edge)

        after_back : (side : s.Side) (x : g.Grammar) → Stands side x a → (j : ℕ) → IsAfter side x a hedge taken j → LeadsBy bundles words j
        after_back side x st j (i, low, flag, edge) =
            let (k, within, (word, to, bit)) = (edges.bundled.exact side x st i j).1 edge in
            let b : Bundle = bundle_at bundles k in
            let p = i % 64 in
            let e : i ≡ 64 * (i / 64) + p = omega arith in
            let inside : i / 64 < length words = omega (arith, low, count) in
            let one : bit_at (get_or words (i / 64) 0) p ≡ 1 = (are (i / 64) inside p (omega arith)).1 (ap (λ n. get_or hedge n 0) (sym e) ∙ flag) in
            (k, within, to, (p, omega arith, ap (λ n. bit_at (get_or words n 0) p) word ∙ one, bit))
