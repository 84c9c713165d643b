-- Numbers, and lists of what begins with a digit, can be read in one way alone.
use Rattle.std.proofs.Common.{◌≡◌, ◌<◌, ◌^◌, ◌⊎◌, inl, inr, ℕ, List, [], ◌∷◌, ◌++◌, drop, flat_map, All, refl, sym, ap, subst, ◌∙◌, append_assoc, arith, codes, decimal}
use Rattle.std.specs.Char.{digit_value}
use Rattle.std.specs.Str.Parse.{AllDigits, IsNumeral}
use Rattle.std.proofs.lemmas.Fmt.{decimal_is_IsNumeral, decimal_injective}
use Rattle.std.proofs.lemmas.List.Elements.{All-head, All-tail}
use Rattle.tc_model.specs.CertificateLines.{listed}
use Rattle.tc_model.specs.CertificateData.{IsNumber}
use Rattle.tc_cert.specs.Pieces.{Stops}

-- a field, or the line, has ended: a space or a line feed stands at the front, or nothing
abbrev pub Ends : List ℕ → Type 0
Ends r = (c : ℕ) (after : List ℕ) → r ≡ c ∷ after → (c ≡ 32) ⊎ (c ≡ 10)

pub ends_nil : Ends []
ends_nil c after e = let same : c ≡ 32 = cc in inl same

pub ends_space : (r : List ℕ) → Ends (32 ∷ r)
ends_space r c after e = let same : c ≡ 32 = cc in inl same

pub stops_at : (c : ℕ) (r : List ℕ) → (digit_value c < 10 → ⊥) → Stops (c ∷ r)
stops_at c r refuse d after e h = let same : d ≡ c = cc in refuse (subst (λ x. digit_value x < 10) same h)

ended_at : (c : ℕ) → (c ≡ 32) ⊎ (c ≡ 10) → digit_value c < 10 → ⊥
ended_at c (inl e) h = let k : digit_value 32 < 10 = subst (λ x. digit_value x < 10) e h in absurd (omega (arith, k))
ended_at c (inr e) h = let k : digit_value 10 < 10 = subst (λ x. digit_value x < 10) e h in absurd (omega (arith, k))

not_comma : (c : ℕ) → c ≡ 44 → (c ≡ 32) ⊎ (c ≡ 10) → ⊥
not_comma c is (inl e) = absurd (omega arith)
not_comma c is (inr e) = absurd (omega arith)

split_digits : (xs ys r s : List ℕ) → AllDigits 10 xs → AllDigits 10 ys → Stops r → Stops s → xs ++ r ≡ ys ++ s → (xs ≡ ys) × (r ≡ s)
split_digits [] [] r s p q t u e = (refl, e)
split_digits [] (y ∷ ys) r s p q t u e = absurd (t y (ys ++ s) e q.0)
split_digits (x ∷ xs) [] r s p q t u e = absurd (u x (xs ++ r) (sym e) p.0)
split_digits (x ∷ xs) (y ∷ ys) r s p q t u e =
    let head : x ≡ y = cc in
    let tail : xs ++ r ≡ ys ++ s = cc in
    let rest : (xs ≡ ys) × (r ≡ s) = split_digits xs ys r s p.1 q.1 t u tail in
    let front : xs ≡ ys = rest.0 in
    (cc, rest.1)

pub wide : (n : ℕ) → IsNumber n → n < 2 ^ 64
wide n h = omega arith

pub one_number : (m n : ℕ) (r s : List ℕ) → IsNumber m → IsNumber n → Stops r → Stops s → decimal m ++ r ≡ decimal n ++ s → (m ≡ n) × (r ≡ s)
one_number m n r s p q t u e =
    let both : (decimal m ≡ decimal n) × (r ≡ s) = split_digits (decimal m) (decimal n) r s (decimal_is_IsNumeral m (wide m p)).0.1 (decimal_is_IsNumeral n (wide n q)).0.1 t u e in
    (decimal_injective m n (wide m p) (wide n q) both.0, both.1)

-- what begins with a digit, and can be read in one way up to where no digit follows
pub record IsPlain {X : Type 0} (f : X → List ℕ) (ok : X → Type 0) : Type 0 where
  pub digit : (x : X) → ok x → (c : ℕ) × (after : List ℕ) × (f x ≡ c ∷ after) × (digit_value c < 10)
  pub one : (x y : X) (r s : List ℕ) → ok x → ok y → Stops r → Stops s → f x ++ r ≡ f y ++ s → (x ≡ y) × (r ≡ s)

first_digit : (ds : List ℕ) → IsNumeral 10 ds → (c : ℕ) × (after : List ℕ) × (ds ≡ c ∷ after) × (digit_value c < 10)
first_digit [] p = absurd (omega (arith, p.0))
first_digit (c ∷ after) p = (c, after, refl, p.1.0)

pub plain_numbers : IsPlain decimal IsNumber
plain_numbers = record {
  digit = λ n h. first_digit (decimal n) (decimal_is_IsNumeral n (wide n h)).0;
  one = one_number;
}

module _ {X : Type 0} (f : X → List ℕ) (ok : X → Type 0) (plain : IsPlain f ok) where
  abbrev next : X → List ℕ
  next y = codes "," ++ f y

  stops_next : (xs : List X) (r : List ℕ) → Ends r → Stops (flat_map next xs ++ r)
  stops_next [] r ends = λ c after e h. ended_at c (ends c after e) h
  stops_next (x ∷ xs) r ends = stops_at 44 _ (λ h. absurd (omega (arith, h)))

  no_comma : (r after : List ℕ) → Ends r → r ≡ 44 ∷ after → ⊥
  no_comma r after ends is = not_comma 44 refl (ends 44 after is)

  many : (xs ys : List X) (r s : List ℕ) → All ok xs → All ok ys → Ends r → Ends s → flat_map next xs ++ r ≡ flat_map next ys ++ s → (xs ≡ ys) × (r ≡ s)
  many [] [] r s p q t u e = (refl, e)
  many [] (y ∷ ys) r s p q t u e = absurd (no_comma r ((f y ++ flat_map next ys) ++ s) t e)
  many (x ∷ xs) [] r s p q t u e = absurd (no_comma s ((f x ++ flat_map next xs) ++ r) u (sym e))
  many (x ∷ xs) (y ∷ ys) r s p q t u e =
      let tail : (f x ++ flat_map next xs) ++ r ≡ (f y ++ flat_map next ys) ++ s = ap (drop 1) e in
      let open_tail : f x ++ (flat_map next xs ++ r) ≡ f y ++ (flat_map next ys ++ s) = sym (append_assoc (f x) _ r) ∙ tail ∙ append_assoc (f y) _ s in
      let head : (x ≡ y) × (flat_map next xs ++ r ≡ flat_map next ys ++ s) = plain.one x y _ _ (All-head ok x xs p) (All-head ok y ys q) (stops_next xs r t) (stops_next ys s u) open_tail in
      let rest : (xs ≡ ys) × (r ≡ s) = many xs ys r s (All-tail ok x xs p) (All-tail ok y ys q) t u head.1 in
      let first : x ≡ y = head.0 in
      let more : xs ≡ ys = rest.0 in
      (cc, rest.1)

  no_dash : (y : X) (r s : List ℕ) → ok y → 45 ∷ r ≡ f y ++ s → ⊥
  no_dash y r s p e =
      let d : (c : ℕ) × (after : List ℕ) × (f y ≡ c ∷ after) × (digit_value c < 10) = plain.digit y p in
      let c : ℕ = d.0 in
      let is : 45 ∷ r ≡ c ∷ (d.1 ++ s) = e ∙ ap (λ w. w ++ s) d.2 in
      let same : c ≡ 45 = cc in
      low c same d.3
    where
      low : (c : ℕ) → c ≡ 45 → digit_value c < 10 → ⊥
      low c e h = let k : digit_value 45 < 10 = subst (λ x. digit_value x < 10) e h in absurd (omega (arith, k))

  pub one_list : (xs ys : List X) (r s : List ℕ) → All ok xs → All ok ys → Ends r → Ends s → listed f xs ++ r ≡ listed f ys ++ s → (xs ≡ ys) × (r ≡ s)
  one_list [] [] r s p q t u e = (refl, cc)
  one_list [] (y ∷ ys) r s p q t u e = absurd (no_dash y r (flat_map next ys ++ s) (All-head ok y ys q) (e ∙ append_assoc (f y) _ s))
  one_list (x ∷ xs) [] r s p q t u e = absurd (no_dash x s (flat_map next xs ++ r) (All-head ok x xs p) (sym e ∙ append_assoc (f x) _ r))
  one_list (x ∷ xs) (y ∷ ys) r s p q t u e =
      let open_tail : f x ++ (flat_map next xs ++ r) ≡ f y ++ (flat_map next ys ++ s) = sym (append_assoc (f x) _ r) ∙ e ∙ append_assoc (f y) _ s in
      let head : (x ≡ y) × (flat_map next xs ++ r ≡ flat_map next ys ++ s) = plain.one x y _ _ (All-head ok x xs p) (All-head ok y ys q) (stops_next xs r t) (stops_next ys s u) open_tail in
      let rest : (xs ≡ ys) × (r ≡ s) = many xs ys r s (All-tail ok x xs p) (All-tail ok y ys q) t u head.1 in
      let first : x ≡ y = head.0 in
      let more : xs ≡ ys = rest.0 in
      (cc, rest.1)
