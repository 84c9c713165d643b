-- Bytes of which none is one that needs a reference stand for themselves.
use Rattle.std.proofs.Common.{◌≡◌, ◌<◌, ◌+◌, ℕ, suc, Bool, true, false, sym, ◌||◌, ◌==◌, List, [], ◌∷◌, ◌++◌, refl, ap, ◌∙◌, length, get_or, arith, codes, if◌then◌else◌, Option, None, Some, is_some, not, subst}
use Rattle.std.proofs.lemmas.Bool.{true≢false, eqb-true, eqb-false}
use Rattle.std.specs.List.{flat_map}
use Rattle.memchr.specs.Find.{IsFirstByte, is_byte2, is_byte3}
use Rattle.tc_model.specs.Printed.{escaped_in_text, escaped_in_value}

module _ (f : ℕ → List ℕ) where
  pub all_stay : (bs : List ℕ) → ((k : ℕ) → k < length bs → f (get_or bs k 0) ≡ get_or bs k 0 ∷ []) → flat_map f bs ≡ bs
  all_stay [] h = refl
  all_stay (b ∷ bs) h =
      ap (λ w. w ++ flat_map f bs) (h 0 (omega arith))
      ∙ ap (λ w. b ∷ w) (all_stay bs (λ k l. h (suc k) (omega (arith, l))))

one_in_text : (b : ℕ) → (is_byte3 38 60 62 b ≡ true → ⊥) → (is_byte2 10 13 b ≡ true → ⊥) → escaped_in_text b ≡ b ∷ []
one_in_text b = by (b == 38) (b == 60) (b == 62) (b == 10) (b == 13)
  where
    by : (x y z v w : Bool) → ((x || y || z) ≡ true → ⊥) → ((v || w) ≡ true → ⊥)
        → (if x then codes "&amp;" else (if y then codes "&lt;" else (if z then codes "&gt;" else (if v then codes "&#10;" else (if w then codes "&#13;" else (b ∷ [])))))) ≡ b ∷ []
    by true y z v w p q = absurd (p refl)
    by false true z v w p q = absurd (p refl)
    by false false true v w p q = absurd (p refl)
    by false false false true w p q = absurd (q refl)
    by false false false false true p q = absurd (q refl)
    by false false false false false p q = refl

one_in_value : (b : ℕ) → (is_byte3 38 60 34 b ≡ true → ⊥) → (is_byte3 9 10 13 b ≡ true → ⊥) → escaped_in_value b ≡ b ∷ []
one_in_value b = by (b == 38) (b == 60) (b == 34) (b == 9) (b == 10) (b == 13)
  where
    by : (x y z u v w : Bool) → ((x || y || z) ≡ true → ⊥) → ((u || v || w) ≡ true → ⊥)
        → (if x then codes "&amp;" else (if y then codes "&lt;" else (if z then codes "&quot;" else (if u then codes "&#9;" else (if v then codes "&#10;" else (if w then codes "&#13;" else (b ∷ []))))))) ≡ b ∷ []
    by true y z u v w p q = absurd (p refl)
    by false true z u v w p q = absurd (p refl)
    by false false true u v w p q = absurd (p refl)
    by false false false true v w p q = absurd (q refl)
    by false false false false true w p q = absurd (q refl)
    by false false false false false true p q = absurd (q refl)
    by false false false false false false p q = refl

-- a search that finds nothing
pub nothing_found : (r : Option ℕ) (b : Bool) → is_some r ≡ not b → b ≡ true → r ≡ None
nothing_found None b e f = refl
nothing_found (Some k) b e f = absurd (true≢false (e ∙ ap not f))

pub plain_text : (bs : List ℕ) (r s : Option ℕ) → IsFirstByte (is_byte3 38 60 62) bs r → r ≡ None → IsFirstByte (is_byte2 10 13) bs s → s ≡ None
    → flat_map escaped_in_text bs ≡ bs
plain_text bs r s p e q f =
    let none = subst (IsFirstByte (is_byte3 38 60 62) bs) e p in
    let no_line = subst (IsFirstByte (is_byte2 10 13) bs) f q in
    all_stay escaped_in_text bs (λ k l. one_in_text (get_or bs k 0) (none k (omega arith) l) (no_line k (omega arith) l))

pub plain_value : (bs : List ℕ) (r s : Option ℕ) → IsFirstByte (is_byte3 38 60 34) bs r → r ≡ None → IsFirstByte (is_byte3 9 10 13) bs s → s ≡ None
    → flat_map escaped_in_value bs ≡ bs
plain_value bs r s p e q f =
    let none = subst (IsFirstByte (is_byte3 38 60 34) bs) e p in
    let no_white = subst (IsFirstByte (is_byte3 9 10 13) bs) f q in
    all_stay escaped_in_value bs (λ k l. one_in_value (get_or bs k 0) (none k (omega arith) l) (no_white k (omega arith) l))

-- byte after byte
pub one_more_stays : (f : ℕ → List ℕ) (bs : List ℕ) (n : ℕ) → ((k : ℕ) → k < n → f (get_or bs k 0) ≡ get_or bs k 0 ∷ []) → f (get_or bs n 0) ≡ get_or bs n 0 ∷ []
    → (k : ℕ) → k < n + 1 → f (get_or bs k 0) ≡ get_or bs k 0 ∷ []
one_more_stays f bs n before here k l = by (k == n) refl
  where
    by : (x : Bool) → (k == n) ≡ x → f (get_or bs k 0) ≡ get_or bs k 0 ∷ []
    by true e = subst (λ i. f (get_or bs i 0) ≡ get_or bs i 0 ∷ []) (sym (eqb-true k n e)) here
    by false e = before k (omega (arith, l, eqb-false k n e))
