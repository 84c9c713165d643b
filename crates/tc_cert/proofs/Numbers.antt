-- The number at the front of bytes.
use Rattle.std.proofs.Common.{◌≡◌, ◌<◌, ◌≤◌, ◌+◌, ◌*◌, ◌-◌, ℕ, zero, suc, Bool, true, false, List, [], ◌∷◌, ◌++◌, length, take, drop, get_or, map, cond, refl, sym, ap, subst, ◌∙◌, arith, decimal}
use Rattle.std.specs.Char.{digit_value, is_ascii_digit}
use Rattle.std.specs.List.{prefix_len}
use Rattle.std.specs.Str.Parse.{AllDigits, digits_value, digits_value_after}
use Rattle.std.specs.Int.Digits.{digits_of}
use Rattle.std.proofs.lemmas.Int.Digits.{first_digits_of}
use Rattle.std.proofs.lemmas.Str.Parse.{IsNumeralModel, digit_from_value}
use Rattle.std.proofs.lemmas.Str.{digit_value_digit}
use Rattle.std.proofs.lemmas.Fmt.{decimal_is_IsNumeral, decimal-digits_value, decimal-digits_of, decimal_digit}
use Rattle.std.proofs.lemmas.List.{take-append-drop, drop_more}
use Rattle.tc_model.specs.CertificateData.{IsNumber}
use Rattle.tc_cert.specs.Pieces.{Stops, IsNumberAt, HasNoLeadingZero}
use Rattle.tc_cert.proofs.Fields.{wide}

digit_of_value : (c : ℕ) → digit_value c < 10 → is_ascii_digit c ≡ true
digit_of_value c h = let k = digit_from_value c h in grind (arith, k)

value_of_digit : (c : ℕ) → is_ascii_digit c ≡ true → digit_value c < 10
value_of_digit c h = let r : (48 ≤ c) × (c ≤ 57) = grind (arith, h) in omega (arith, digit_value_digit c r)

pub bool_apart : (b : Bool) → b ≡ true → b ≡ false → ⊥
bool_apart true p q = cc
bool_apart false p q = cc

one_more : (k : ℕ) → suc k ≡ 1 + k
one_more k = omega arith

-- the digits at the front are digits, and none follows them
pub prefix_digits : (bs : List ℕ) → AllDigits 10 (take (prefix_len is_ascii_digit bs) bs)
prefix_digits [] = tt
prefix_digits (c ∷ cs) = by (prefix_digits cs) (is_ascii_digit c) refl
  where
    by : AllDigits 10 (take (prefix_len is_ascii_digit cs) cs) → (b : Bool) → is_ascii_digit c ≡ b → AllDigits 10 (take (cond b (1 + prefix_len is_ascii_digit cs) 0) (c ∷ cs))
    by more true e = subst (λ n. AllDigits 10 (take n (c ∷ cs))) (one_more (prefix_len is_ascii_digit cs)) (value_of_digit c e, more)
    by more false e = tt

pub prefix_stops : (bs : List ℕ) → Stops (drop (prefix_len is_ascii_digit bs) bs)
prefix_stops [] = λ c after e h. cc
prefix_stops (c ∷ cs) = by (prefix_stops cs) (is_ascii_digit c) refl
  where
    by : Stops (drop (prefix_len is_ascii_digit cs) cs) → (b : Bool) → is_ascii_digit c ≡ b → Stops (drop (cond b (1 + prefix_len is_ascii_digit cs) 0) (c ∷ cs))
    by more true e = subst (λ n. Stops (drop n (c ∷ cs))) (one_more (prefix_len is_ascii_digit cs)) more
    by more false e = λ d after s h. let same : c ≡ d = cc in bool_apart (is_ascii_digit c) (digit_of_value c (subst (λ x. digit_value x < 10) (sym same) h)) e

-- digits that none follows are all that stand at the front
stopped : (r : List ℕ) → Stops r → prefix_len is_ascii_digit r ≡ 0
stopped [] s = refl
stopped (c ∷ cs) s = by (is_ascii_digit c) refl
  where
    by : (b : Bool) → is_ascii_digit c ≡ b → cond b (1 + prefix_len is_ascii_digit cs) 0 ≡ 0
    by true e = absurd (s c cs refl (value_of_digit c e))
    by false e = refl

pub prefix_of : (ds r : List ℕ) → AllDigits 10 ds → Stops r → prefix_len is_ascii_digit (ds ++ r) ≡ length ds
prefix_of [] r d s = stopped r s
prefix_of (c ∷ cs) r d s = ap (λ b. cond b (1 + prefix_len is_ascii_digit (cs ++ r)) 0) (digit_of_value c d.0) ∙ ap (λ n. 1 + n) (prefix_of cs r d.1 s) ∙ omega arith

own : IsNumeralModel (AllDigits 10) (digits_value 10)
own = record { to = λ ds p. p; from = λ ds p. p; same = λ ds p. refl }

-- a number begins with 0 only where it is 0
first_map : (ds : List ℕ) → 0 < get_or ds 0 0 → 48 < get_or (map (λ d. 48 + d) ds) 0 0
first_map [] h = absurd (omega arith)
first_map (d ∷ ds) h = omega arith

no_leading_zero : (n : ℕ) → IsNumber n → get_or (decimal n) 0 0 ≡ 48 → length (decimal n) ≡ 1
no_leading_zero zero h e = ap length (decimal_digit 0 (omega arith))
no_leading_zero (suc n) h e =
    let is : decimal (suc n) ≡ map (λ d. 48 + d) (digits_of 10 (suc n)) = decimal-digits_of (suc n) (omega arith) (wide (suc n) h) in
    let more : 48 < get_or (map (λ d. 48 + d) (digits_of 10 (suc n))) 0 0 = first_map (digits_of 10 (suc n)) (first_digits_of 10 (suc n) (omega arith) (omega arith)) in
    let same : get_or (decimal (suc n)) 0 0 ≡ get_or (map (λ d. 48 + d) (digits_of 10 (suc n))) 0 0 = ap (λ l. get_or l 0 0) is in
    absurd (omega (arith, same, more, e))

take_all : (ds r : List ℕ) → take (length ds) (ds ++ r) ≡ ds
take_all [] r = refl
take_all (d ∷ ds) r = ap (λ l. d ∷ l) (take_all ds r)

-- what any number at the front says of the digits there
pub record IsFound (bs : List ℕ) (n : ℕ) : Type 0 where
  pub plain : HasNoLeadingZero (take (prefix_len is_ascii_digit bs) bs)
  pub value : digits_value 10 (take (prefix_len is_ascii_digit bs) bs) ≡ n

pub found : (bs : List ℕ) (n : ℕ) (rest : List ℕ) → IsNumberAt bs n rest → IsFound bs n
found bs n rest at =
    let is = decimal_is_IsNumeral n (wide n at.number) in
    let count : prefix_len is_ascii_digit bs ≡ length (decimal n) = ap (prefix_len is_ascii_digit) at.spelled ∙ prefix_of (decimal n) rest is.0.1 at.whole in
    let digits : take (prefix_len is_ascii_digit bs) bs ≡ decimal n = ap (λ k. take k bs) count ∙ ap (take (length (decimal n))) at.spelled ∙ take_all (decimal n) rest in
    record {
      plain = subst HasNoLeadingZero (sym digits) (record { some = is.0.0; lead = no_leading_zero n at.number });
      value = ap (digits_value 10) digits ∙ is.1;
    }

-- the digits at the front, and what follows them
module _ (bs ds rest : List ℕ) (k : ℕ) (count : k ≡ prefix_len is_ascii_digit bs) (front : ds ≡ take k bs) where
  cut : ds ≡ take (prefix_len is_ascii_digit bs) bs
  cut = front ∙ ap (λ j. take j bs) count

  pub are_digits : AllDigits 10 ds
  are_digits = subst (AllDigits 10) (sym cut) (prefix_digits bs)

  pub no_numeral : (HasNoLeadingZero ds → ⊥) → (n : ℕ) (r : List ℕ) → IsNumberAt bs n r → ⊥
  no_numeral bar n r at = bar (subst HasNoLeadingZero (sym cut) (found bs n r at).plain)

  pub no_value : 4294967296 ≤ digits_value 10 ds → (n : ℕ) (r : List ℕ) → IsNumberAt bs n r → ⊥
  no_value great n r at = absurd (omega (arith, great, ap (digits_value 10) cut, (found bs n r at).value, at.number))

  -- digits without a leading zero are a number
  pub is_number : rest ≡ drop k bs → (n : ℕ) → HasNoLeadingZero ds → n ≡ digits_value 10 ds → n < 4294967296 → IsNumberAt bs n rest
  is_number back n plain value small =
      let written : decimal (digits_value 10 ds) ≡ ds = decimal-digits_value own ds are_digits plain.some plain.lead (omega (arith, value)) in
      let rest_is : rest ≡ drop (prefix_len is_ascii_digit bs) bs = back ∙ ap (λ j. drop j bs) count in
      record {
        number = small;
        whole = subst Stops (sym rest_is) (prefix_stops bs);
        spelled = sym (take-append-drop k bs) ∙ (λ i. sym front i ++ sym back i) ∙ ap (λ l. l ++ rest) (sym written ∙ ap decimal (sym value));
      }

-- one more digit at the front, or none
pub prefix_more : (bs : List ℕ) (i : ℕ) → i < length bs → is_ascii_digit (get_or bs i 0) ≡ true → prefix_len is_ascii_digit (drop i bs) ≡ 1 + prefix_len is_ascii_digit (drop (i + 1) bs)
prefix_more bs i h e = ap (prefix_len is_ascii_digit) (drop_more bs i 0 h) ∙ ap (λ b. cond b (1 + prefix_len is_ascii_digit (drop (i + 1) bs)) 0) e

pub prefix_none : (bs : List ℕ) (i : ℕ) → i < length bs → is_ascii_digit (get_or bs i 0) ≡ false → prefix_len is_ascii_digit (drop i bs) ≡ 0
prefix_none bs i h e = ap (prefix_len is_ascii_digit) (drop_more bs i 0 h) ∙ ap (λ b. cond b (1 + prefix_len is_ascii_digit (drop (i + 1) bs)) 0) e

-- the digit at a place, and the value behind it
pub digit_there : (ds : List ℕ) (i : ℕ) → i < length ds → AllDigits 10 (drop i ds) → (48 ≤ get_or ds i 0) × (get_or ds i 0 ≤ 57)
digit_there ds i h all = digit_from_value (get_or ds i 0) (subst (AllDigits 10) (drop_more ds i 0 h) all).0

pub value_more : (value total d : ℕ) (ds : List ℕ) (i : ℕ) → i < length ds → AllDigits 10 (drop i ds) → digits_value_after 10 value (drop i ds) ≡ total → d ≡ get_or ds i 0 - 48
    → (digits_value_after 10 (value * 10 + d) (drop (i + 1) ds) ≡ total) × AllDigits 10 (drop (i + 1) ds)
value_more value total d ds i h all is e =
    let cut : drop i ds ≡ get_or ds i 0 ∷ drop (i + 1) ds = drop_more ds i 0 h in
    let same : d ≡ digit_value (get_or ds i 0) = omega (arith, e, digit_value_digit (get_or ds i 0) (digit_there ds i h all)) in
    (ap (λ n. digits_value_after 10 (value * 10 + n) (drop (i + 1) ds)) same ∙ sym (ap (digits_value_after 10 value) cut) ∙ is, (subst (AllDigits 10) cut all).1)

-- more digits never make it less
value_le : (n : ℕ) (ds : List ℕ) → n ≤ digits_value_after 10 n ds
value_le n [] = omega arith
value_le n (c ∷ cs) = omega (arith, value_le (n * 10 + digit_value c) cs)

pub too_great : (value total : ℕ) (ds : List ℕ) (i : ℕ) → i < length ds → AllDigits 10 (drop i ds) → digits_value_after 10 value (drop i ds) ≡ total
    → 4294967295 < value * 10 + (get_or ds i 0 - 48) → 4294967296 ≤ total
too_great value total ds i h all is great =
    let c : ℕ = get_or ds i 0 in
    let cut : drop i ds ≡ c ∷ drop (i + 1) ds = drop_more ds i 0 h in
    let digit : digit_value c < 10 = (subst (AllDigits 10) cut all).0 in
    let whole : digits_value_after 10 (value * 10 + digit_value c) (drop (i + 1) ds) ≡ total = sym (ap (digits_value_after 10 value) cut) ∙ is in
    omega (arith, digit_value_digit c (digit_from_value c digit), value_le (value * 10 + digit_value c) (drop (i + 1) ds), whole, great)
