-- What stands at the front of any bytes, or doesn't: bytes, marks and literals.
use Rattle.std.proofs.Common.{◌≡◌, ◌≢◌, ◌⊎◌, inl, inr, ℕ, ◌==◌, Bool, true, false, List, [], ◌∷◌, ◌++◌, refl, ap, ◌∙◌, sym, subst, length, take, arith, bytes_eq, length-drop, Option, None, Some}
use Rattle.std.proofs.lemmas.Bool.{false≢true}
use Rattle.std.proofs.lemmas.Bool.Decides.{eqb_tells}
use Rattle.std.proofs.lemmas.List.{append_cancel_left}
use Rattle.std.proofs.lemmas.Slice.Eq.{bytes_eq-Decides}
use Rattle.tc_model.specs.XmlTextBytes.{length_before, UpTo, IsQuote, LiteralAt}
use Rattle.tc_model.proofs.CompactSyntaxTokensLawful.{before_text}
use Rattle.tc_model.proofs.XmlTextPhrases.{same_first, same_others}

-- it is so, or not
abbrev pub Decided : Type 0 → Type 0
Decided P = P ⊎ (P → ⊥)

-- there is one of which it holds, or none
abbrev pub SomeOrNone : {X : Type 0} → (X → Type 0) → Type 0
SomeOrNone {X} P = ((x : X) × P x) ⊎ ((x : X) → P x → ⊥)

-- what options are
pub none_some : {X : Type 0} {o : Option X} {x : X} → o ≡ None → o ≡ Some x → ⊥
none_some e f = cc

pub some_same : {X : Type 0} {x y : X} → Some x ≡ Some y → x ≡ y
some_same e = cc

pub no_some : {X : Type 0} {x : X} → None ≡ Some x → ⊥
no_some e = cc

pub some_no_none : {X : Type 0} {x : X} → Some x ≡ None → ⊥
some_no_none e = cc

pub none_is : {X : Type 0} (o : Option X) → Decided (o ≡ None)
none_is None = inl refl
none_is (Some x) = inr some_no_none

pub number_is : (i j : ℕ) → Decided (i ≡ j)
number_is i j = by (eqb_tells i j)
  where
    by : (((i == j) ≡ true) × (i ≡ j)) ⊎ (((i == j) ≡ false) × (i ≢ j)) → Decided (i ≡ j)
    by (inl e) = inl e.1
    by (inr e) = inr e.1

pub bytes_are : (xs ys : List ℕ) → Decided (xs ≡ ys)
bytes_are xs ys = by (bytes_eq xs ys) refl
  where
    by : (b : Bool) → bytes_eq xs ys ≡ b → Decided (xs ≡ ys)
    by true e = inl ((bytes_eq-Decides xs ys).0 e)
    by false e = inr (λ same. false≢true (sym e ∙ (bytes_eq-Decides xs ys).1 same))

pub is_true : (b : Bool) → Decided (b ≡ true)
is_true true = inl refl
is_true false = inr false≢true

pub is_false : (b : Bool) → Decided (b ≡ false)
is_false true = inr (λ e. false≢true (sym e))
is_false false = inl refl

-- a byte, or a mark, at the front
pub begins : (b : ℕ) (bs : List ℕ) → ((r : List ℕ) × (bs ≡ b ∷ r)) ⊎ ((r : List ℕ) → bs ≡ b ∷ r → ⊥)
begins b [] = inr (λ r e. omega (arith, ap length e))
begins b (c ∷ bs) = elim (number_is c b) [ inl e ↦ inl (bs, ap (λ z. z ∷ bs) e) | inr h ↦ inr (λ r e. h (same_first e)) ]

pub begins_with : (mark bs : List ℕ) → ((r : List ℕ) × (bs ≡ mark ++ r)) ⊎ ((r : List ℕ) → bs ≡ mark ++ r → ⊥)
begins_with [] bs = inl (bs, refl)
begins_with (b ∷ mark) [] = inr (λ r e. omega (arith, ap length e))
begins_with (b ∷ mark) (c ∷ bs) = both (number_is c b) (begins_with mark bs)
  where
    both : Decided (c ≡ b) → ((r : List ℕ) × (bs ≡ mark ++ r)) ⊎ ((r : List ℕ) → bs ≡ mark ++ r → ⊥) → ((r : List ℕ) × (c ∷ bs ≡ b ∷ mark ++ r)) ⊎ ((r : List ℕ) → c ∷ bs ≡ b ∷ mark ++ r → ⊥)
    both (inr h) k = inr (λ r e. h (same_first e))
    both (inl e) (inl (r, f)) = inl (r, ap (λ z. z ∷ bs) e ∙ ap (λ z. b ∷ z) f)
    both (inl e) (inr h) = inr (λ r f. h r (same_others f))

pub same_after : (mark bs r s : List ℕ) → bs ≡ mark ++ r → bs ≡ mark ++ s → r ≡ s
same_after mark bs r s e f = append_cancel_left mark r s (sym e ∙ f)

-- what stands before a mark
abbrev pub UpToHere : List ℕ → List ℕ → Type 0
UpToHere mark bs = ((inside : List ℕ) × ((after : List ℕ) × UpTo mark bs inside after)) ⊎ ((inside after : List ℕ) → UpTo mark bs inside after → ⊥)

pub up_to : (b : ℕ) (mark bs : List ℕ) → UpToHere (b ∷ mark) bs
up_to b mark bs = elim (before_text (b ∷ mark) bs) [
  | inl lacks ↦ inr (λ inside after a. omega (arith, ap length a.back, length-drop (length_before (b ∷ mark) bs) bs, lacks))
  | inr (after, is) ↦ inl (take (length_before (b ∷ mark) bs) bs, (after, record { front = refl; back = is }))
]

pub quote_is : (b : ℕ) → Decided (IsQuote b)
quote_is b = by (number_is b 0x22) (number_is b 0x27)
  where
    by : Decided (b ≡ 0x22) → Decided (b ≡ 0x27) → Decided (IsQuote b)
    by (inl e) k = inl (inl e)
    by (inr h) (inl e) = inl (inr e)
    by (inr h) (inr k) = inr (λ q. elim q [ inl e ↦ h e | inr e ↦ k e ])

abbrev pub LiteralHere : List ℕ → Type 0
LiteralHere bs = ((value : List ℕ) × ((after : List ℕ) × LiteralAt bs value after)) ⊎ ((value after : List ℕ) → LiteralAt bs value after → ⊥)

pub literal_here : (bs : List ℕ) → LiteralHere bs
literal_here [] = inr (λ value after a. omega (arith, ap length a.opens))
literal_here (q ∷ rest) = by (quote_is q) (up_to q [] rest)
  where
    by : Decided (IsQuote q) → UpToHere (q ∷ []) rest → LiteralHere (q ∷ rest)
    by (inr h) k = inr (λ value after a. h (subst IsQuote (sym (same_first a.opens)) a.is_quote))
    by (inl e) (inl (value, (after, u))) = inl (value, (after, record { quote = q; rest = rest; is_quote = e; opens = refl; closes = u }))
    by (inl e) (inr h) = inr (λ value after a. h value after (subst (λ z. UpTo (z ∷ []) rest value after) (sym (same_first a.opens)) (subst (λ z. UpTo (a.quote ∷ []) z value after) (sym (same_others a.opens)) a.closes)))
