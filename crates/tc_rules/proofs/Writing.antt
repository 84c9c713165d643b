-- Rows are written bit by bit.
use Rattle.std.proofs.Common.{◌≡◌, ◌⊎◌, inl, inr, ℕ, zero, suc, ◌+◌, ◌*◌, ◌/◌, ◌%◌, ◌<◌, ◌≤◌, List, [], ◌∷◌, ◌++◌, Bool, true, false, refl, ap, sym, ◌∙◌, subst, length, get_or, nat_eq, arith, if◌then◌else◌}
use Rattle.std.specs.Int.{bit_at}
use Rattle.std.proofs.lemmas.Bool.{eq-eqb, eqb-true}
use Rattle.std.proofs.lemmas.List.{length-append}
use Rattle.tc_sets.specs.Numbers.{Has}
use Rattle.tc_sets.proofs.Bits.{numbers, added_is_set, added_numbers}
use Rattle.tc_model.specs.Sheets.{Path, no_alternative, alternative}
use Rattle.tc_model.specs.PathStates.{Items, State}
use Rattle.tc_rules.specs.Words.{bit, span, count_steps, total, with_bit, IsPadded, IsRow}
use Rattle.tc_rules.proofs.RowStates.{cut_by, cut_is}

-- one more value of a span
pub span_more : (f : ℕ → Bool) (at n : ℕ) → span f at (suc n) ≡ span f at n ++ f (at + n) ∷ []
span_more f at zero = let same : at ≡ at + 0 = omega arith in ap (λ i. f i ∷ []) same
span_more f at (suc n) = let same : suc at + n ≡ at + suc n = omega arith in ap (λ w. f at ∷ w) (span_more f (suc at) n ∙ ap (λ i. span f (suc at) n ++ f i ∷ []) same)

pub span_alike : (f g : ℕ → Bool) (at n : ℕ) → ((i : ℕ) → i < at + n → f i ≡ g i) → span f at n ≡ span g at n
span_alike f g at zero h = refl
span_alike f g at (suc n) h = ap (λ b. b ∷ span f (suc at) n) (h at (omega arith)) ∙ ap (λ w. g at ∷ w) (span_alike f g (suc at) n (λ i l. h i (omega (arith, l))))

-- the same from the first on
pub span_end : (f : ℕ → Bool) (n : ℕ) → span f 0 (suc n) ≡ span f 0 n ++ f n ∷ []
span_end f n = let same : 0 + n ≡ n = omega arith in span_more f 0 n ∙ ap (λ i. span f 0 n ++ f i ∷ []) same

pub span_front : (f g : ℕ → Bool) (n : ℕ) → ((i : ℕ) → i < n → f i ≡ g i) → span f 0 n ≡ span g 0 n
span_front f g n h = span_alike f g 0 n (λ i l. h i (omega (arith, l)))

-- ---- a word more
get_zero : (ws : List ℕ) (k : ℕ) → get_or (ws ++ 0 ∷ []) k 0 ≡ get_or ws k 0
get_zero [] zero = refl
get_zero [] (suc zero) = refl
get_zero [] (suc (suc k)) = refl
get_zero (w ∷ ws) zero = refl
get_zero (w ∷ ws) (suc k) = get_zero ws k

pub zero_bit : (ws : List ℕ) (i : ℕ) → bit (ws ++ 0 ∷ []) i ≡ bit ws i
zero_bit ws i = ap (λ w. nat_eq (bit_at w (i % 64)) 1) (get_zero ws (i / 64))

-- ---- one bit more
module _ (n : ℕ) (ws : List ℕ) (padded : IsPadded n ws) where
  next_none : bit ws n ≡ false
  next_none =
      let at : 64 * (n / 64) + n % 64 ≡ n = omega arith in
      ap (λ d. nat_eq d 1) (padded.padding (n / 64) (n % 64) (inr (omega (arith, at))))

  -- room for it
  pub room : n % 64 ≡ 0 → IsPadded (suc n) (ws ++ 0 ∷ [])
  room e = record {
    whole = omega (arith, e, length-append ws (0 ∷ []), padded.whole);
    padding = λ w p out. ap (λ v. bit_at v p) (get_zero ws w) ∙ padded.padding w p (by w p out);
  }
    where
      by : (w p : ℕ) → (64 ≤ p) ⊎ (suc n ≤ 64 * w + p) → (64 ≤ p) ⊎ (n ≤ 64 * w + p)
      by w p (inl h) = inl h
      by w p (inr h) = inr (omega (arith, h))

  pub no_room : 0 < n % 64 → IsPadded (suc n) ws
  no_room e = record { whole = omega (arith, e, padded.whole); padding = λ w p out. padded.padding w p (by w p out) }
    where
      by : (w p : ℕ) → (64 ≤ p) ⊎ (suc n ≤ 64 * w + p) → (64 ≤ p) ⊎ (n ≤ 64 * w + p)
      by w p (inl h) = inl h
      by w p (inr h) = inr (omega (arith, h))

bools : (a b : Bool) → (a ≡ true → b ≡ true) → (b ≡ true → a ≡ true) → a ≡ b
bools true b f g = sym (f refl)
bools false true f g = g refl
bools false false f g = refl

-- what was written so far, where the next bit is none
pub none_more : (n : ℕ) (ws us : List ℕ) → IsPadded n ws → ((i : ℕ) → bit us i ≡ bit ws i) → span (bit us) 0 (suc n) ≡ span (bit ws) 0 n ++ false ∷ []
none_more n ws us padded same =
    span_end (bit us) n
    ∙ (ap (λ w. w ++ bit us n ∷ []) (span_front (bit us) (bit ws) n (λ i l. same i)) ∙ ap (λ b. span (bit ws) 0 n ++ b ∷ []) (same n ∙ next_none n ws padded))

-- and where it is set
module _ (n : ℕ) (ws us : List ℕ) (padded : IsPadded n ws) (fits : IsPadded (suc n) us) (same : (i : ℕ) → bit us i ≡ bit ws i) where
  low : n < suc n
  low = omega arith

  pub set_padded : IsPadded (suc n) (with_bit us n)
  set_padded = added_is_set (suc n) us n fits low

  set_here : bit (with_bit us n) n ≡ true
  set_here = eq-eqb _ 1 ((added_numbers (suc n) us n fits low n).1 (inr refl))

  set_other : (i : ℕ) → i < n → bit (with_bit us n) i ≡ bit us i
  set_other i l = bools _ _ (λ e. by ((added_numbers (suc n) us n fits low i).0 (eqb-true _ 1 e))) (λ e. eq-eqb _ 1 ((added_numbers (suc n) us n fits low i).1 (inl (eqb-true _ 1 e))))
    where
      by : Has (numbers (suc n) us) i ⊎ (i ≡ n) → bit us i ≡ true
      by (inl h) = eq-eqb _ 1 h
      by (inr e) = absurd (omega (arith, e, l))

  pub one_more_set : span (bit (with_bit us n)) 0 (suc n) ≡ span (bit ws) 0 n ++ true ∷ []
  one_more_set =
      span_end (bit (with_bit us n)) n
      ∙ (ap (λ w. w ++ bit (with_bit us n) n ∷ []) (span_front (bit (with_bit us n)) (bit ws) n (λ i l. set_other i l ∙ same i)) ∙ ap (λ b. span (bit ws) 0 n ++ b ∷ []) set_here)

-- ---- all alternatives one behind the other
abbrev pub flat : State → Items
flat [] = []
flat (items ∷ xs) = items ++ flat xs

-- of a path's steps, one truth value each
abbrev pub IsLong : Path → State → Type 0
IsLong no_alternative [] = Unit {0}
IsLong no_alternative (x ∷ xs) = ⊥
IsLong (alternative ss p) [] = ⊥
IsLong (alternative ss p) (x ∷ xs) = (length x ≡ count_steps ss) × IsLong p xs

first_equal : (a b : Bool) (us vs : Items) → (a ∷ us) ≡ (b ∷ vs) → a ≡ b
first_equal a b us vs e = cc

rest_equal : (a b : Bool) (us vs : Items) → (a ∷ us) ≡ (b ∷ vs) → us ≡ vs
rest_equal a b us vs e = cc

-- what stands in front, and what is left
front : (f : ℕ → Bool) (items rest : Items) (at m : ℕ) → span f at m ≡ items ++ rest → (span f at (length items) ≡ items) × (k : ℕ) × (m ≡ length items + k) × (span f (at + length items) k ≡ rest)
front f [] rest at m e = let same : at + 0 ≡ at = omega arith in (refl, m, omega arith, ap (λ i. span f i m) same ∙ e)
front f (b ∷ items) rest at zero e = absurd (cc)
front f (b ∷ items) rest at (suc m) e =
    let more = front f items rest (suc at) m (rest_equal (f at) b (span f (suc at) m) (items ++ rest) e) in
    let here = first_equal (f at) b (span f (suc at) m) (items ++ rest) e in
    let next : at + suc (length items) ≡ suc at + length items = omega arith in (
      ap (λ c. c ∷ span f (suc at) (length items)) here ∙ ap (λ w. b ∷ w) more.0,
      more.1,
      omega (arith, more.2),
      ap (λ i. span f i more.1) next ∙ more.3,
    )

span_nothing : (f : ℕ → Bool) (at m : ℕ) → span f at m ≡ [] → m ≡ 0
span_nothing f at zero e = refl
span_nothing f at (suc m) e = absurd (cc)

unflat : (f : ℕ → Bool) (p : Path) (xs : State) (at m : ℕ) → IsLong p xs → span f at m ≡ flat xs → (cut_by f at p ≡ xs) × (total at p ≡ at + m)
unflat f no_alternative [] at m h e = (refl, omega (arith, span_nothing f at m e))
unflat f no_alternative (x ∷ xs) at m h e = absurd h
unflat f (alternative ss p) [] at m h e = absurd h
unflat f (alternative ss p) (x ∷ xs) at m h e =
    let here = front f x (flat xs) at m e in
    let left : span f (at + count_steps ss) here.1 ≡ flat xs = ap (λ n. span f (at + n) here.1) (sym h.0) ∙ here.3 in
    let more = unflat f p xs (at + count_steps ss) here.1 h.1 left in (
      ap (λ n. span f at n ∷ cut_by f (at + count_steps ss) p) (sym h.0) ∙ (ap (λ w. w ∷ cut_by f (at + count_steps ss) p) here.0 ∙ ap (λ w. x ∷ w) more.0),
      omega (arith, more.1, here.2, h.0),
    )

-- all that was written is a row of the path
pub row_is : (p : Path) (xs : State) (n : ℕ) (ws : List ℕ) → IsLong p xs → IsPadded n ws → span (bit ws) 0 n ≡ flat xs → IsRow p xs ws
row_is p xs n ws h padded e =
    let told = unflat (bit ws) p xs 0 n h e in
    let all : total 0 p ≡ n = omega (arith, told.1) in
    record { padded = subst (λ k. IsPadded k ws) (sym all) padded; state = cut_is (bit ws) 0 p ∙ told.0 }

-- the same as the code goes
pub room_made : (n : ℕ) (ws us : List ℕ) → IsPadded n ws → n % 64 ≡ 0 → us ≡ ws ++ 0 ∷ [] → IsPadded (n + 1) us × ((i : ℕ) → bit us i ≡ bit ws i)
room_made n ws us h e put =
    let more : n + 1 ≡ suc n = omega arith in (
      subst (λ k. IsPadded k us) (sym more) (subst (IsPadded (suc n)) (sym put) (room n ws h e)),
      λ i. ap (λ w. bit w i) put ∙ zero_bit ws i,
    )

pub room_there : (n : ℕ) (ws : List ℕ) → IsPadded n ws → 0 < n % 64 → IsPadded (n + 1) ws
room_there n ws h e = let more : n + 1 ≡ suc n = omega arith in subst (λ k. IsPadded k ws) (sym more) (no_room n ws h e)

pub within : (n : ℕ) (us : List ℕ) → IsPadded (n + 1) us → n / 64 < length us
within n us h = omega (arith, h.whole)

module _ (n m : ℕ) (ws us vs : List ℕ) (value : Bool) (is : m ≡ n + 1) (padded : IsPadded n ws) (fits : IsPadded (n + 1) us) (same : (i : ℕ) → bit us i ≡ bit ws i) (put : vs ≡ (if value then with_bit us n else us)) where
  next : m ≡ suc n
  next = is ∙ (omega arith)

  fits_next : IsPadded (suc n) us
  fits_next = let more : n + 1 ≡ suc n = omega arith in subst (λ k. IsPadded k us) more fits

  pub push_padded : IsPadded m vs
  push_padded = subst (λ k. IsPadded k vs) (sym next) (subst (IsPadded (suc n)) (sym put) (by value))
    where
      by : (b : Bool) → IsPadded (suc n) (if b then with_bit us n else us)
      by true = set_padded n ws us padded fits_next same
      by false = fits_next

  pub push_bits : span (bit vs) 0 m ≡ span (bit ws) 0 n ++ value ∷ []
  push_bits = ap (λ k. span (bit vs) 0 k) next ∙ (ap (λ w. span (bit w) 0 (suc n)) put ∙ by value)
    where
      by : (b : Bool) → span (bit (if b then with_bit us n else us)) 0 (suc n) ≡ span (bit ws) 0 n ++ b ∷ []
      by true = one_more_set n ws us padded fits_next same
      by false = none_more n ws us padded same
