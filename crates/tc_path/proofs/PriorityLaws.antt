-- Digits and what they write.
use Rattle.std.proofs.Common.{rules, ◌≡◌, ℕ, zero, suc, ◌+◌, ◌-◌, ◌*◌, ◌^◌, ◌<◌, ◌≤◌, ◌==◌, Bool, true, false, cond, List, [], ◌∷◌, refl, ap, ◌∙◌, sym, subst, length, take, arith, Result, Ok, Err}
use Rattle.std.specs.Prelude.{ℤ, pos, neg_ℤ, ◌-ℤ◌}
use Rattle.std.specs.Int.{w64}
use mir.Val.{to_z, of_z}
use Rattle.std.proofs.lemmas.Int.{ints}
use Rattle.std.specs.Result.{OkIff, result_unwrap_or}
use Rattle.std.specs.List.{prefix_len, list_all}
use Rattle.std.specs.Str.Parse.{digits_value, ParsesUnsigned}
use Rattle.std.proofs.lemmas.Bool.{true≢false, and_from, eqb-true}
use Rattle.std.proofs.lemmas.Str.Parse.{IsNumeralModel, IsDigitsTest, numerals_by_value, digits_value_short, parse_digits}
use Rattle.tc_model.specs.XmlTextBytes.{after_white}
use Rattle.tc_model.specs.PathTextTokens.{is_digit, after_digits}
use Rattle.tc_model.specs.PathTextPriority.{digits_before, FractionAt, no_point, a_point, Unsigned, PriorityText, positive, negative}
use Rattle.tc_model.proofs.XmlTextPhrases.{same_others}
use Rattle.tc_path.proofs.TokenLaws.{no_length}

abbrev AllDigits : List ℕ → Type 0
AllDigits ds = list_all is_digit ds ≡ true

-- the digits at the front are digits
pub all_digits : (bs : List ℕ) → list_all is_digit (digits_before bs) ≡ true
all_digits [] = refl
all_digits (b ∷ bs) = by (is_digit b) refl (all_digits bs)
  where
    by : (x : Bool) → is_digit b ≡ x → list_all is_digit (digits_before bs) ≡ true → list_all is_digit (digits_before (b ∷ bs)) ≡ true
    by true e h =
        let count : prefix_len is_digit (b ∷ bs) ≡ suc (prefix_len is_digit bs) = ap (λ c. cond c (1 + prefix_len is_digit bs) 0) e ∙ omega arith in
        ap (λ n. list_all is_digit (take n (b ∷ bs))) count ∙ and_from (is_digit b) (list_all is_digit (digits_before bs)) e h
    by false e h = ap (λ c. list_all is_digit (take (cond c (1 + prefix_len is_digit bs) 0) (b ∷ bs))) e

tells : IsDigitsTest AllDigits
tells = search rules

own : IsNumeralModel AllDigits (digits_value 10)
own = numerals_by_value AllDigits tells

pub parsed : {E : Type 0} (ds : List ℕ) (r : Result ℕ E) → ParsesUnsigned 64 10 ds r → list_all is_digit ds ≡ true → length ds ≤ 6 → result_unwrap_or r 0 ≡ digits_value 10 ds
parsed {E} ds r h p l = by r (parse_digits own 64 ds r h p)
  where
    by : (r : Result ℕ E) → OkIff r ((0 < length ds) × (digits_value 10 ds < 2 ^ 64)) (digits_value 10 ds) → result_unwrap_or r 0 ≡ digits_value 10 ds
    by (Ok x) (q, e) = e
    by (Err x) n = none ds p l n
      where
        none : (ds : List ℕ) → list_all is_digit ds ≡ true → length ds ≤ 6 → ((0 < length ds) × (digits_value 10 ds < 2 ^ 64) → ⊥) → 0 ≡ digits_value 10 ds
        none [] p l n = refl
        none (b ∷ bs) p l n = absurd (n (omega arith, omega (arith, digits_value_short own (b ∷ bs) 6 p l)))

pub written_below : (ds : List ℕ) (v : ℕ) → list_all is_digit ds ≡ true → v ≡ digits_value 10 ds → v < 10 ^ length ds
written_below ds v p e = subst (λ n. n < 10 ^ length ds) (sym e) (digits_value_short own ds (length ds) p (omega arith))

pub scaled_below : (v k u : ℕ) → k ≤ 4 → v < 10 ^ k → u ≡ 10 ^ (4 - k) → v * u < 10000
scaled_below v zero u l h e = subst (λ w. v * w < 10000) (sym e) (omega arith)
scaled_below v (suc zero) u l h e = subst (λ w. v * w < 10000) (sym e) (omega arith)
scaled_below v (suc (suc zero)) u l h e = subst (λ w. v * w < 10000) (sym e) (omega arith)
scaled_below v (suc (suc (suc zero))) u l h e = subst (λ w. v * w < 10000) (sym e) (omega arith)
scaled_below v (suc (suc (suc (suc zero)))) u l h e = subst (λ w. v * w < 10000) (sym e) (omega arith)
scaled_below v (suc (suc (suc (suc (suc k))))) u l h e = absurd (omega arith)

pub whole_below : (ds : List ℕ) (v : ℕ) → list_all is_digit ds ≡ true → length ds ≤ 6 → v ≡ digits_value 10 ds → v < 1000000
whole_below ds v p l e = omega (arith, e, digits_value_short own ds 6 p l)

pub no_fraction : (bs : List ℕ) → ((r : List ℕ) → bs ≡ 0x2E ∷ r → ⊥) → FractionAt bs [] bs
no_fraction bs h = no_point h

pub some_fraction : (bs rest f e : List ℕ) → bs ≡ 0x2E ∷ rest → f ≡ digits_before rest → e ≡ after_digits rest → FractionAt bs f e
some_fraction bs rest f e g h k =
    subst (λ w. FractionAt w f e) (sym g) (subst (λ w. FractionAt (0x2E ∷ rest) w e) (sym h) (subst (λ w. FractionAt (0x2E ∷ rest) (digits_before rest) w) (sym k) a_point))

fraction_unique : {bs f f' e e' : List ℕ} → FractionAt bs f e → FractionAt bs f' e' → (f ≡ f') × (e ≡ e')
fraction_unique (no_point h) (no_point k) = (refl, refl)
fraction_unique (no_point h) (a_point {r = r}) = absurd (h r refl)
fraction_unique (a_point {r = r}) (no_point h) = absurd (h r refl)
fraction_unique a_point a_point = (refl, refl)

pub unsigned_at : (bs whole behind f e : List ℕ) (v : ℕ) → whole ≡ digits_before bs → behind ≡ after_digits bs → FractionAt behind f e → after_white e ≡ [] → 0 < length whole + length f → length whole ≤ 6 → length f ≤ 4
    → v ≡ digits_value 10 whole * 10000 + digits_value 10 f * 10 ^ (4 - length f) → Unsigned bs v
unsigned_at bs whole behind f e v g h a ends some w l is = record {
  fraction = f;
  end = e;
  fraction_at = subst (λ x. FractionAt x f e) h a;
  ends = ends;
  some = subst (λ (x : List ℕ). 0 < length x + length f) g some;
  whole_digits = subst (λ (x : List ℕ). length x ≤ 6) g w;
  fraction_digits = l;
  is_value = is ∙ ap (λ x. digits_value 10 x * 10000 + digits_value 10 f * 10 ^ (4 - length f)) g;
}

pub no_unsigned : (bs whole behind f e : List ℕ) → whole ≡ digits_before bs → behind ≡ after_digits bs → FractionAt behind f e
    → (after_white e ≡ [] → 0 < length whole + length f → length whole ≤ 6 → length f ≤ 4 → ⊥) → (v : ℕ) → Unsigned bs v → ⊥
no_unsigned bs whole behind f e g h a refuses v u =
    let (same, end) = fraction_unique (subst (λ x. FractionAt x f e) h a) u.fraction_at in
    refuses (ap after_white end ∙ u.ends) (subst (λ (x : List ℕ). 0 < length whole + length x) (sym same) (subst (λ (x : List ℕ). 0 < length x + length u.fraction) (sym g) u.some))
    (subst (λ (x : List ℕ). length x ≤ 6) (sym g) u.whole_digits) (subst (λ (x : List ℕ). length x ≤ 4) (sym same) u.fraction_digits)

pub some_left : (bs : List ℕ) → (length bs == 0) ≡ false → bs ≡ [] → ⊥
some_left bs e f = true≢false (sym (ap (λ (w : List ℕ). length w == 0) f) ∙ e)

pub none_left : (bs : List ℕ) → (length bs == 0) ≡ true → bs ≡ []
none_left bs e = no_length bs (eqb-true (length bs) 0 e)

-- priorities
pub no_positive : (text start : List ℕ) → start ≡ after_white text → ((r : List ℕ) → start ≡ 0x2D ∷ r → ⊥) → ((v : ℕ) → Unsigned start v → ⊥) → (x : ℤ) → PriorityText text x → ⊥
no_positive text start e h k x (positive {value = v} l a) = k v (subst (λ w. Unsigned w v) (sym e) a)
no_positive text start e h k x (negative {rest = r} l a) = h r (e ∙ l)

pub no_negative : (text start rest : List ℕ) → start ≡ after_white text → start ≡ 0x2D ∷ rest → ((v : ℕ) → Unsigned (after_white rest) v → ⊥) → (x : ℤ) → PriorityText text x → ⊥
no_negative text start rest e f k x (positive l a) = l rest (sym e ∙ f)
no_negative text start rest e f k x (negative {rest = r} {value = v} l a) = k v (subst (λ w. Unsigned (after_white w) v) (same_others (sym l ∙ (sym e ∙ f))) a)

pub positive_at : (text start : List ℕ) (v : ℕ) → start ≡ after_white text → ((r : List ℕ) → start ≡ 0x2D ∷ r → ⊥) → Unsigned start v → PriorityText text (pos v)
positive_at text start v e h a = positive (λ r f. h r (e ∙ f)) (subst (λ w. Unsigned w v) e a)

pub negative_at : (text start rest : List ℕ) (v : ℕ) → start ≡ after_white text → start ≡ 0x2D ∷ rest → Unsigned (after_white rest) v → PriorityText text (neg_ℤ (pos v))
negative_at text start rest v e f a = negative (sym e ∙ f) a

-- the numbers fit
pub positive_fits : (v : ℕ) → v < 10000000000 → to_z w64 v ≡ pos v
positive_fits v l = omega (arith, ints)

pub negative_fits : (v : ℕ) → v < 10000000000 → to_z w64 (of_z w64 (pos 0 -ℤ to_z w64 v)) ≡ neg_ℤ (pos v)
negative_fits v l = omega (arith, ints)
