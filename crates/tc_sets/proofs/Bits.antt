-- Sets of numbers and the bits that keep them.
use Rattle.std.proofs.Common.{Result, Ok, Err, IfOk, IsErrAnd, ◌≡◌, ◌≢◌, ◌⊎◌, inl, inr, ◌↔◌, Bool, true, false, IsTrue, ℕ, ◌+◌, ◌*◌, ◌/◌, ◌%◌, ◌<◌, ◌≤◌, ◌^◌, List, refl, sym, ap, subst, ◌∙◌, length, get_or, set, arith, bit_and, bit_or, take, drop, ◌++◌, replicate, min, max}
use Rattle.std.specs.Int.{bit_at}
use Rattle.std.proofs.lemmas.Bool.{cases_eq, cases_lt}
use Rattle.std.proofs.lemmas.List.{ext_get_or, get_or-set_same, get_or-set_other, length-set, take_at, get_or-replicate, get_or_past, length-replicate}
use Rattle.std.proofs.lemmas.Nat.Bits.{bit_at_and, bit_at_or, bit_at-pow_same, bit_at-pow_other, same_from_bits, bit_at-lt, bit_at-zero}
use Rattle.tc_sets.specs.Numbers.{Numbers, words_for, bit_of, Has, IsSet, HasNone, AreApart, SetsHaveOneForm}

abbrev pub numbers : ℕ → List ℕ → Numbers
numbers n words = record { size = n; words = words }

pub word_fits : (n j : ℕ) → j < n → j / 64 < words_for n
word_fits n j h = omega arith

-- the bit of a number is that at a place of a word
number_bit : (words : List ℕ) (word place : ℕ) → place < 64 → bit_of words ((64 * word + place) / 64) ((64 * word + place) % 64) ≡ bit_of words word place
number_bit words word place low =
    let u : (64 * word + place) / 64 ≡ word = omega arith in
    let v : (64 * word + place) % 64 ≡ place = omega arith in
    ap (λ k. bit_of words k ((64 * word + place) % 64)) u ∙ ap (λ k. bit_of words word k) v

pub number_below : (s : Numbers) → IsSet s → (j : ℕ) → Has s j → j < s.size
number_below s ok j has = by (cases_lt j s.size)
  where
    by : (j < s.size) ⊎ (s.size ≤ j) → j < s.size
    by (inl l) = l
    by (inr h) =
        let whole : 64 * (j / 64) + j % 64 ≡ j = omega arith in
        let none = ok.padding (j / 64) (j % 64) (inr (omega (arith, whole, h))) in
        absurd (omega (arith, sym has ∙ none))

zero_bit : (b : ℕ) → b < 2 → (b ≡ 1 → ⊥) → b ≡ 0
zero_bit b low not = let apart : b ≢ 1 = not in omega arith

-- words without numbers are zero
pub word_of_none : (s : Numbers) → IsSet s → HasNone s → (w : ℕ) → get_or s.words w 0 ≡ 0
word_of_none s ok none w = same_from_bits (get_or s.words w 0) 0 (λ k. by k (cases_lt k 64) ∙ sym (bit_at-zero k))
  where
    by : (k : ℕ) → (k < 64) ⊎ (64 ≤ k) → bit_of s.words w k ≡ 0
    by k (inl l) = zero_bit (bit_of s.words w k) (bit_at-lt _ k) (λ one. none (64 * w + k) (number_bit s.words w k l ∙ one))
    by k (inr h) = ok.padding w k (inl h)

pub none_in_zeros : (words : List ℕ) (n : ℕ) → ((w : ℕ) → get_or words w 0 ≡ 0) → HasNone (numbers n words)
none_in_zeros words n zeros j has = omega (arith, sym has ∙ ap (λ v. bit_at v (j % 64)) (zeros (j / 64)), bit_at-zero (j % 64))

pub zeros_are : (k : ℕ) (words : List ℕ) → words ≡ replicate k 0 → (w : ℕ) → get_or words w 0 ≡ 0
zeros_are k words e w = ap (λ ws. get_or ws w 0) e ∙ by (cases_lt w k)
  where
    by : (w < k) ⊎ (k ≤ w) → get_or {A = ℕ} (replicate k 0) w 0 ≡ 0
    by (inl l) = get_or-replicate k w 0 0 l
    by (inr l) = get_or_past (replicate k 0) w 0 (omega (arith, length-replicate {A = ℕ} k 0))

pub zeros_are_set : (n : ℕ) (words : List ℕ) → length words ≡ words_for n → ((w : ℕ) → get_or words w 0 ≡ 0) → IsSet (numbers n words)
zeros_are_set n words whole zeros = record { whole = whole; padding = λ word place out. ap (λ v. bit_at v place) (zeros word) ∙ bit_at-zero place }

pub zero_words : (words : List ℕ) → ((k : ℕ) → k < length words → get_or words k 0 ≡ 0) → (w : ℕ) → get_or words w 0 ≡ 0
zero_words words all w = by (cases_lt w (length words))
  where
    by : (w < length words) ⊎ (length words ≤ w) → get_or words w 0 ≡ 0
    by (inl l) = all w l
    by (inr h) = get_or_past words w 0 h

-- ---- one number more
or_same : (w k : ℕ) → bit_at (bit_or w (2 ^ k)) k ≡ 1
or_same w k = omega (arith, bit_at_or w (2 ^ k) k, bit_at-pow_same k, bit_at-lt w k)

or_other : (w k m : ℕ) → m ≢ k → bit_at (bit_or w (2 ^ k)) m ≡ bit_at w m
or_other w k m ne = omega (arith, bit_at_or w (2 ^ k) m, bit_at-pow_other k m ne)

module _ (n : ℕ) (words : List ℕ) (number : ℕ) (ok : IsSet (numbers n words)) (low : number < n) where
  abbrev at : ℕ
  at = number / 64

  abbrev after : List ℕ
  after = set words at (bit_or (get_or words at 0) (2 ^ (number % 64)))

  at_within : at < length words
  at_within = omega (arith, word_fits n number low, ok.whole)

  touched : (word place : ℕ) → ((word ≡ at) × (place ≡ number % 64) × (bit_of after word place ≡ 1)) ⊎ (((word ≡ at) × (place ≡ number % 64) → ⊥) × (bit_of after word place ≡ bit_of words word place))
  touched word place = by (cases_eq word at) (cases_eq place (number % 64))
    where
      by : (word ≡ at) ⊎ (word ≡ at → ⊥) → (place ≡ number % 64) ⊎ (place ≡ number % 64 → ⊥)
          → ((word ≡ at) × (place ≡ number % 64) × (bit_of after word place ≡ 1)) ⊎ (((word ≡ at) × (place ≡ number % 64) → ⊥) × (bit_of after word place ≡ bit_of words word place))
      by (inl e) (inl q) =
          inl (e, q, ap (λ k. bit_of after k place) e ∙ (ap (λ v. bit_at v place) (get_or-set_same words at _ 0 at_within) ∙ (ap (λ m. bit_at (bit_or (get_or words at 0) (2 ^ (number % 64))) m) q ∙ or_same (get_or words at 0) (number % 64))))
      by (inl e) (inr q) =
          inr (λ t. q t.1, ap (λ k. bit_of after k place) e ∙ (ap (λ v. bit_at v place) (get_or-set_same words at _ 0 at_within) ∙ (or_other (get_or words at 0) (number % 64) place q ∙ sym (ap (λ k. bit_of words k place) e))))
      by (inr ne) q = inr (λ t. ne t.0, ap (λ v. bit_at v place) (get_or-set_other words at word _ 0 ne))

  pub added_is_set : IsSet (numbers n after)
  added_is_set = record { whole = length-set words at _ ∙ ok.whole; padding = λ word place out. kept word place out (touched word place) }
    where
      kept : (word place : ℕ) → (64 ≤ place) ⊎ (n ≤ 64 * word + place) → ((word ≡ at) × (place ≡ number % 64) × (bit_of after word place ≡ 1)) ⊎ (((word ≡ at) × (place ≡ number % 64) → ⊥) × (bit_of after word place ≡ bit_of words word place)) → bit_of after word place ≡ 0
      kept word place (inl h) (inl (e, q, one)) = absurd (omega (arith, q))
      kept word place (inr h) (inl (e, q, one)) = absurd (omega (arith, e, q))
      kept word place out (inr (not, same)) = same ∙ ok.padding word place out

  pub added_numbers : (j : ℕ) → Has (numbers n after) j ↔ (Has (numbers n words) j ⊎ (j ≡ number))
  added_numbers j = (λ h. to h (touched (j / 64) (j % 64)), λ h. of h (touched (j / 64) (j % 64)))
    where
      to : Has (numbers n after) j → ((j / 64 ≡ at) × (j % 64 ≡ number % 64) × (bit_of after (j / 64) (j % 64) ≡ 1)) ⊎ (((j / 64 ≡ at) × (j % 64 ≡ number % 64) → ⊥) × (bit_of after (j / 64) (j % 64) ≡ bit_of words (j / 64) (j % 64))) → Has (numbers n words) j ⊎ (j ≡ number)
      to h (inl (e, q, one)) = inr (omega (arith, e, q))
      to h (inr (not, same)) = inl (sym same ∙ h)

      of : Has (numbers n words) j ⊎ (j ≡ number) → ((j / 64 ≡ at) × (j % 64 ≡ number % 64) × (bit_of after (j / 64) (j % 64) ≡ 1)) ⊎ (((j / 64 ≡ at) × (j % 64 ≡ number % 64) → ⊥) × (bit_of after (j / 64) (j % 64) ≡ bit_of words (j / 64) (j % 64))) → Has (numbers n after) j
      of h (inl (e, q, one)) = one
      of (inl h) (inr (not, same)) = same ∙ h
      of (inr is) (inr (not, same)) = absurd (not (ap (λ k. k / 64) is, ap (λ k. k % 64) is))

-- a list written back into the place that it was lent from
pub written_back : (xs ys : List ℕ) (n : ℕ) → n ≡ length xs → length ys ≡ length xs → take n (ys ++ drop (length ys) xs) ≡ ys
written_back xs ys n e f = take_at ys (drop (length ys) xs) n (f ∙ sym e)

-- ---- words joined and met
module _ (n : ℕ) (old other new : List ℕ) (size : length new ≡ length old) where
  pub joined_is_set : IsSet (numbers n old) → IsSet (numbers n other) → ((w : ℕ) → get_or new w 0 ≡ bit_or (get_or old w 0) (get_or other w 0)) → IsSet (numbers n new)
  joined_is_set ok also joins = record {
    whole = size ∙ ok.whole;
    padding = λ word place out. omega (arith, ap (λ v. bit_at v place) (joins word), bit_at_or (get_or old word 0) (get_or other word 0) place, ok.padding word place out, also.padding word place out);
  }

  pub joined_numbers : ((w : ℕ) → get_or new w 0 ≡ bit_or (get_or old w 0) (get_or other w 0)) → (j : ℕ) → Has (numbers n new) j ↔ (Has (numbers n old) j ⊎ Has (numbers n other) j)
  joined_numbers joins j = (λ h. to h (cases_eq (bit_of old (j / 64) (j % 64)) 1), of)
    where
      is : bit_of new (j / 64) (j % 64) ≡ max (bit_of old (j / 64) (j % 64)) (bit_of other (j / 64) (j % 64))
      is = ap (λ v. bit_at v (j % 64)) (joins (j / 64)) ∙ bit_at_or (get_or old (j / 64) 0) (get_or other (j / 64) 0) (j % 64)

      to : Has (numbers n new) j → (bit_of old (j / 64) (j % 64) ≡ 1) ⊎ (bit_of old (j / 64) (j % 64) ≡ 1 → ⊥) → Has (numbers n old) j ⊎ Has (numbers n other) j
      to h (inl one) = inl one
      to h (inr not) = let zero_one = zero_bit (bit_of old (j / 64) (j % 64)) (bit_at-lt _ (j % 64)) not in inr (omega (arith, h, is, zero_one))

      of : Has (numbers n old) j ⊎ Has (numbers n other) j → Has (numbers n new) j
      of (inl h) = omega (arith, h, is, bit_at-lt (get_or other (j / 64) 0) (j % 64))
      of (inr h) = omega (arith, h, is, bit_at-lt (get_or old (j / 64) 0) (j % 64))

  pub met_is_set : IsSet (numbers n old) → ((w : ℕ) → get_or new w 0 ≡ bit_and (get_or old w 0) (get_or other w 0)) → IsSet (numbers n new)
  met_is_set ok meets = record {
    whole = size ∙ ok.whole;
    padding = λ word place out. omega (arith, ap (λ v. bit_at v place) (meets word), bit_at_and (get_or old word 0) (get_or other word 0) place, ok.padding word place out);
  }

  pub met_numbers : ((w : ℕ) → get_or new w 0 ≡ bit_and (get_or old w 0) (get_or other w 0)) → (j : ℕ) → Has (numbers n new) j ↔ (Has (numbers n old) j × Has (numbers n other) j)
  met_numbers meets j = (λ h. (omega (arith, h, is, bit_at-lt (get_or old (j / 64) 0) (j % 64), bit_at-lt (get_or other (j / 64) 0) (j % 64)), omega (arith, h, is, bit_at-lt (get_or old (j / 64) 0) (j % 64), bit_at-lt (get_or other (j / 64) 0) (j % 64))), λ (a, b). omega (arith, a, b, is))
    where
      is : bit_of new (j / 64) (j % 64) ≡ min (bit_of old (j / 64) (j % 64)) (bit_of other (j / 64) (j % 64))
      is = ap (λ v. bit_at v (j % 64)) (meets (j / 64)) ∙ bit_at_and (get_or old (j / 64) 0) (get_or other (j / 64) 0) (j % 64)

-- one word more
abbrev pub SoFar : (ℕ → ℕ → ℕ) → List ℕ → List ℕ → ℕ → List ℕ → Type 0
SoFar op old other i words = ((w : ℕ) → w < i → get_or words w 0 ≡ op (get_or old w 0) (get_or other w 0)) × ((w : ℕ) → i ≤ w → get_or words w 0 ≡ get_or old w 0)

module _ (op : ℕ → ℕ → ℕ) (old other now : List ℕ) (k : ℕ) (low : k < length now) where
  pub word_more : SoFar op old other k now → SoFar op old other (k + 1) (set now k (op (get_or now k 0) (get_or other k 0)))
  word_more (before, behind) = (λ w l. done w l (cases_eq w k), λ w h. let apart : w ≢ k = omega arith in get_or-set_other now k w _ 0 apart ∙ behind w (omega arith))
    where
      done : (w : ℕ) → w < k + 1 → (w ≡ k) ⊎ (w ≡ k → ⊥) → get_or (set now k (op (get_or now k 0) (get_or other k 0))) w 0 ≡ op (get_or old w 0) (get_or other w 0)
      done w l (inl e) =
          let R : ℕ → Type 0 = λ v. get_or (set now k (op (get_or now k 0) (get_or other k 0))) v 0 ≡ op (get_or old v 0) (get_or other v 0) in
          let here : R k = get_or-set_same now k _ 0 low ∙ ap (λ v. op v (get_or other k 0)) (behind k (omega arith)) in
          subst R (sym e) here
      done w l (inr ne) = let apart : w ≢ k = ne in get_or-set_other now k w _ 0 apart ∙ before w (omega arith)

pub all_words : (op : ℕ → ℕ → ℕ) → op 0 0 ≡ 0 → (old other now : List ℕ) (k : ℕ) → length now ≤ k → length now ≡ length old → length old ≡ length other → SoFar op old other k now → (w : ℕ) → get_or now w 0 ≡ op (get_or old w 0) (get_or other w 0)
all_words op none old other now k high same size (before, behind) w = by (cases_lt w k)
  where
    by : (w < k) ⊎ (k ≤ w) → get_or now w 0 ≡ op (get_or old w 0) (get_or other w 0)
    by (inl l) = before w l
    by (inr h) =
        get_or_past now w 0 (omega arith)
        ∙ (sym none ∙ (ap (λ v. op v 0) (sym (get_or_past old w 0 (omega (arith, same)))) ∙ ap (λ v. op (get_or old w 0) v) (sym (get_or_past other w 0 (omega (arith, same, size))))))

-- ---- nothing in common
pub apart_words : (s t : Numbers) → IsSet s → IsSet t → AreApart s t → (w : ℕ) → bit_and (get_or s.words w 0) (get_or t.words w 0) ≡ 0
apart_words s t ok also apart w = same_from_bits (bit_and (get_or s.words w 0) (get_or t.words w 0)) 0 (λ k. bit_at_and (get_or s.words w 0) (get_or t.words w 0) k ∙ (by k (cases_lt k 64) ∙ sym (bit_at-zero k)))
  where
    both : (k : ℕ) → k < 64 → (bit_of s.words w k ≡ 1) ⊎ (bit_of s.words w k ≡ 1 → ⊥) → min (bit_of s.words w k) (bit_of t.words w k) ≡ 0
    both k l (inl one) =
        let other = zero_bit (bit_of t.words w k) (bit_at-lt _ k) (λ two. apart (64 * w + k) (number_bit s.words w k l ∙ one) (number_bit t.words w k l ∙ two)) in
        omega (arith, other)
    both k l (inr not) = omega (arith, zero_bit (bit_of s.words w k) (bit_at-lt _ k) not)

    by : (k : ℕ) → (k < 64) ⊎ (64 ≤ k) → min (bit_of s.words w k) (bit_of t.words w k) ≡ 0
    by k (inl l) = both k l (cases_eq (bit_of s.words w k) 1)
    by k (inr h) = omega (arith, ok.padding w k (inl h))

pub words_apart : (s t : Numbers) → IsSet s → s.size ≡ t.size → ((w : ℕ) → w < length s.words → bit_and (get_or s.words w 0) (get_or t.words w 0) ≡ 0) → AreApart s t
words_apart s t ok same apart j a b =
    let low = number_below s ok j a in
    let none = apart (j / 64) (omega (arith, word_fits s.size j low, ok.whole)) in
    omega (arith, a, b, bit_at_and (get_or s.words (j / 64) 0) (get_or t.words (j / 64) 0) (j % 64), ap (λ v. bit_at v (j % 64)) none, bit_at-zero (j % 64))

-- ---- one form
same_bit : (a b : ℕ) → a < 2 → b < 2 → (a ≡ 1 → b ≡ 1) → (b ≡ 1 → a ≡ 1) → a ≡ b
same_bit a b p q f g = by (cases_eq a 1) (cases_eq b 1)
  where
    by : (a ≡ 1) ⊎ (a ≡ 1 → ⊥) → (b ≡ 1) ⊎ (b ≡ 1 → ⊥) → a ≡ b
    by (inl x) y = x ∙ sym (f x)
    by (inr x) (inl y) = absurd (x (g y))
    by (inr x) (inr y) = zero_bit a p x ∙ sym (zero_bit b q y)

pub one_form : SetsHaveOneForm
one_form s t p q size same = ap (λ n. numbers n s.words) size ∙ ap (numbers t.size) words
  where
    bit : (w k : ℕ) → (k < 64) ⊎ (64 ≤ k) → bit_of s.words w k ≡ bit_of t.words w k
    bit w k (inl l) =
        same_bit _ _ (bit_at-lt _ k) (bit_at-lt _ k)
        (λ h. sym (number_bit t.words w k l) ∙ (same (64 * w + k)).0 (number_bit s.words w k l ∙ h))
        (λ h. sym (number_bit s.words w k l) ∙ (same (64 * w + k)).1 (number_bit t.words w k l ∙ h))
    bit w k (inr h) = p.padding w k (inl h) ∙ sym (q.padding w k (inl h))

    words : s.words ≡ t.words
    words = ext_get_or 0 s.words t.words (p.whole ∙ (ap words_for size ∙ sym q.whole)) (λ w l. same_from_bits (get_or s.words w 0) (get_or t.words w 0) (λ k. bit w k (cases_lt k 64)))

-- ---- what calls leave
pub set_back : (len number : ℕ) (kept lent new : List ℕ) → lent ≡ kept → length lent ≡ len → length new ≡ length lent
    → new ≡ set lent (number / 64) (bit_or (get_or lent (number / 64) 0) (2 ^ (number % 64)))
    → take len (new ++ drop (length new) kept) ≡ set kept (number / 64) (bit_or (get_or kept (number / 64) 0) (2 ^ (number % 64)))
set_back len number kept lent new lends e f is =
    written_back kept new len (sym e ∙ ap length lends) (f ∙ ap length lends)
    ∙ (is ∙ ap (λ ws. set ws (number / 64) (bit_or (get_or ws (number / 64) 0) (2 ^ (number % 64)))) lends)

module _ (len n m : ℕ) (kept lent new other given : List ℕ) (lends : lent ≡ kept) (e : length lent ≡ len) (f : length new ≡ length lent) (gives : other ≡ given) (size : m ≡ n) (ok : IsSet (numbers n kept)) (also : IsSet (numbers m given)) where
  back : take len (new ++ drop (length new) kept) ≡ new
  back = written_back kept new len (sym e ∙ ap length lends) (f ∙ ap length lends)

  other_set : IsSet (numbers n other)
  other_set = subst (λ ws. IsSet (numbers n ws)) (sym gives) (subst (λ k. IsSet (numbers k given)) size also)

  old_set : IsSet (numbers n lent)
  old_set = subst (λ ws. IsSet (numbers n ws)) (sym lends) ok

  pub lengths_agree : length lent ≡ length other
  lengths_agree = old_set.whole ∙ sym other_set.whole

  pub join_set : ((w : ℕ) → get_or new w 0 ≡ bit_or (get_or lent w 0) (get_or other w 0)) → IsSet (numbers n (take len (new ++ drop (length new) kept)))
  join_set joins = subst (λ ws. IsSet (numbers n ws)) (sym back) (joined_is_set n lent other new f old_set other_set joins)

  pub join_has : ((w : ℕ) → get_or new w 0 ≡ bit_or (get_or lent w 0) (get_or other w 0)) → (j : ℕ) → Has (numbers n (take len (new ++ drop (length new) kept))) j ↔ (Has (numbers n kept) j ⊎ Has (numbers m given) j)
  join_has joins j =
      subst (λ ws. Has (numbers n ws) j ↔ (Has (numbers n kept) j ⊎ Has (numbers m given) j)) (sym back)
      (subst (λ ws. Has (numbers n new) j ↔ (Has (numbers n ws) j ⊎ Has (numbers m given) j)) lends (subst (λ ws. Has (numbers n new) j ↔ (Has (numbers n lent) j ⊎ Has (numbers m ws) j)) gives (joined_numbers n lent other new f joins j)))

  pub meet_set : ((w : ℕ) → get_or new w 0 ≡ bit_and (get_or lent w 0) (get_or other w 0)) → IsSet (numbers n (take len (new ++ drop (length new) kept)))
  meet_set meets = subst (λ ws. IsSet (numbers n ws)) (sym back) (met_is_set n lent other new f old_set meets)

  pub meet_has : ((w : ℕ) → get_or new w 0 ≡ bit_and (get_or lent w 0) (get_or other w 0)) → (j : ℕ) → Has (numbers n (take len (new ++ drop (length new) kept))) j ↔ (Has (numbers n kept) j × Has (numbers m given) j)
  meet_has meets j =
      subst (λ ws. Has (numbers n ws) j ↔ (Has (numbers n kept) j × Has (numbers m given) j)) (sym back)
      (subst (λ ws. Has (numbers n new) j ↔ (Has (numbers n ws) j × Has (numbers m given) j)) lends (subst (λ ws. Has (numbers n new) j ↔ (Has (numbers n lent) j × Has (numbers m ws) j)) gives (met_numbers n lent other new f meets j)))

pub empty_told : {T : Type 0} (s : Numbers) (n : ℕ) (kept words : List ℕ) → numbers n kept ≡ s → words ≡ kept → IsSet (numbers n kept) → T ↔ ((k : ℕ) → k < length words → get_or words k 0 ≡ 0) → T ↔ HasNone s
empty_told {T} s n kept words view same ok told = subst (λ w. T ↔ HasNone w) view (λ t. none_in_zeros kept n (zero_words kept (subst (λ ws. (k : ℕ) → k < length ws → get_or ws k 0 ≡ 0) same (told.0 t))), λ none. told.1 (subst (λ ws. (k : ℕ) → k < length ws → get_or ws k 0 ≡ 0) (sym same) (λ k low. word_of_none (numbers n kept) ok none k)))

pub apart_told : (b : Bool) (s t : Numbers) (xs ys : List ℕ) → xs ≡ s.words → ys ≡ t.words → s.size ≡ t.size → IsSet s → IsSet t
    → (IsTrue b → (w : ℕ) → w < length xs → bit_and (get_or xs w 0) (get_or ys w 0) ≡ 0) → (b ≡ false → (w : ℕ) × (bit_and (get_or xs w 0) (get_or ys w 0) ≢ 0)) → IsTrue b ↔ AreApart s t
apart_told b s t xs ys a c size ok also none met = (λ h. words_apart s t ok size (subst (λ us. (w : ℕ) → w < length us → bit_and (get_or us w 0) (get_or t.words w 0) ≡ 0) a (subst (λ us. (w : ℕ) → w < length xs → bit_and (get_or xs w 0) (get_or us w 0) ≡ 0) c (none h))), λ apart. by apart (true_or_false b))
  where
    true_or_false : (v : Bool) → (v ≡ true) ⊎ (v ≡ false)
    true_or_false true = inl refl
    true_or_false false = inr refl

    by : AreApart s t → (b ≡ true) ⊎ (b ≡ false) → IsTrue b
    by apart (inl is) = is
    by apart (inr is) =
        let (w, some) = met is in
        absurd (some (ap (λ us. bit_and (get_or us w 0) (get_or ys w 0)) a ∙ (ap (λ us. bit_and (get_or s.words w 0) (get_or us w 0)) c ∙ apart_words s t ok also apart w)))

-- nothing is said of the value of an error
pub error_no_value : {T E : Type 0} (r : Result T E) (P : T → Type 0) (Q : E → Type 0) → IsErrAnd r Q → IfOk r P
error_no_value (Ok v) P Q h = absurd h
error_no_value (Err e) P Q h = tt
