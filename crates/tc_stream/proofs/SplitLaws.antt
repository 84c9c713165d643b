-- What stands before the first quote of a kind, and white space at the front.
use Rattle.std.proofs.Common.{◌≡◌, ℕ, suc, ◌<◌, ◌+◌, Bool, true, false, cond, not, ◌==◌, List, [], ◌∷◌, ◌++◌, refl, ap, ◌∙◌, sym, subst, length, take, drop, arith, take-append-drop}
use Rattle.std.specs.Prelude.{bytes_eq}
use Rattle.std.specs.List.{prefix_len, list_all}
use Rattle.std.specs.Cmp.Lexicographic.{bytes_decides}
use Rattle.std.proofs.Math.Seq.{take-append_seam, drop-append_seam}
use Rattle.std.proofs.lemmas.Bool.{true≢false, and_parts, and_from, eqb-true, eq-eqb, cond-true, cond-false}
use Rattle.tc_base.specs.Characters.{is_white}
use Rattle.tc_model.specs.XmlTextBytes.{begins_with, length_before, UpTo, BeginsWithWhite, after_white}
use Rattle.tc_model.proofs.XmlTextPhrases.{same_first}

-- these stand before the first such byte or character, and those behind it
pub record Splits (q : ℕ) (bs inside after : List ℕ) : Type 0 where
  pub parts : bs ≡ inside ++ q ∷ after
  pub free : list_all (λ b. not (b == q)) inside ≡ true

not_same : (a b : List ℕ) → ((a ≡ b) → ⊥) → bytes_eq a b ≡ false
not_same a b h = by (bytes_eq a b) refl
  where
    by : (x : Bool) → bytes_eq a b ≡ x → bytes_eq a b ≡ false
    by true e = absurd (h ((bytes_decides a b).0 e))
    by false e = e

one_mark : (q b : ℕ) (bs : List ℕ) (x : Bool) → (b == q) ≡ x → begins_with (q ∷ []) (b ∷ bs) ≡ x
one_mark q b bs true e = (bytes_decides (q ∷ []) (b ∷ [])).1 (ap (λ z. z ∷ []) (sym (eqb-true b q e)))
one_mark q b bs false e = not_same (q ∷ []) (b ∷ []) (λ h. true≢false (sym (eq-eqb b q (sym (same_first h))) ∙ e))

before_here : (q b : ℕ) (bs : List ℕ) → (b == q) ≡ true → length_before (q ∷ []) (b ∷ bs) ≡ 0
before_here q b bs e = cond-true (begins_with (q ∷ []) (b ∷ bs)) 0 (1 + length_before (q ∷ []) bs) (one_mark q b bs true e)

before_later : (q b : ℕ) (bs : List ℕ) → (b == q) ≡ false → length_before (q ∷ []) (b ∷ bs) ≡ suc (length_before (q ∷ []) bs)
before_later q b bs e =
    let one : 1 + length_before (q ∷ []) bs ≡ suc (length_before (q ∷ []) bs) = omega arith in
    cond-false (begins_with (q ∷ []) (b ∷ bs)) 0 (1 + length_before (q ∷ []) bs) (one_mark q b bs false e) ∙ one

pub free_before : (q : ℕ) (bs : List ℕ) → list_all (λ b. not (b == q)) (take (length_before (q ∷ []) bs) bs) ≡ true
free_before q [] = refl
free_before q (b ∷ bs) = by (b == q) refl (free_before q bs)
  where
    by : (x : Bool) → (b == q) ≡ x → list_all (λ b. not (b == q)) (take (length_before (q ∷ []) bs) bs) ≡ true
        → list_all (λ b. not (b == q)) (take (length_before (q ∷ []) (b ∷ bs)) (b ∷ bs)) ≡ true
    by true e later = ap (λ n. list_all (λ b. not (b == q)) (take n (b ∷ bs))) (before_here q b bs e)
    by false e later =
        ap (λ n. list_all (λ b. not (b == q)) (take n (b ∷ bs))) (before_later q b bs e)
        ∙ and_from (not (b == q)) (list_all (λ b. not (b == q)) (take (length_before (q ∷ []) bs) bs)) (ap not e) later

pub up_to_splits : {q : ℕ} {bs inside after : List ℕ} → UpTo (q ∷ []) bs inside after → Splits q bs inside after
up_to_splits {q} {bs} {inside} {after} u = record {
  parts = sym (take-append-drop (length_before (q ∷ []) bs) bs) ∙ (ap (λ w. w ++ drop (length_before (q ∷ []) bs) bs) (sym u.front) ∙ ap (λ w. inside ++ w) u.back);
  free = subst (λ w. list_all (λ b. not (b == q)) w ≡ true) (sym u.front) (free_before q bs);
}

before_free : (q : ℕ) (inside after : List ℕ) → list_all (λ b. not (b == q)) inside ≡ true → length_before (q ∷ []) (inside ++ q ∷ after) ≡ length inside
before_free q [] after h = before_here q q after (eq-eqb q q refl)
before_free q (b ∷ inside) after h =
    let both = and_parts (not (b == q)) (list_all (λ b. not (b == q)) inside) h in
    before_later q b (inside ++ q ∷ after) (other (b == q) both.0) ∙ ap suc (before_free q inside after both.1)
  where
    other : (x : Bool) → not x ≡ true → x ≡ false
    other true e = absurd (true≢false (sym e))
    other false e = refl

pub splits_up_to : {q : ℕ} {bs inside after : List ℕ} → Splits q bs inside after → UpTo (q ∷ []) bs inside after
splits_up_to {q} {bs} {inside} {after} s =
    let n = before_free q inside after s.free in
    subst (λ z. UpTo (q ∷ []) z inside after) (sym s.parts) (record {
      front = sym (ap (λ k. take k (inside ++ q ∷ after)) n ∙ take-append_seam inside (q ∷ after));
      back = ap (λ k. drop k (inside ++ q ∷ after)) n ∙ drop-append_seam inside (q ∷ after);
    })

-- one more before it
pub splits_more : {q : ℕ} {bs inside after : List ℕ} (b : ℕ) → (b == q) ≡ false → Splits q bs inside after → Splits q (b ∷ bs) (b ∷ inside) after
splits_more {q} {inside = inside} b e s = record {
  parts = ap (λ w. b ∷ w) s.parts;
  free = and_from (not (b == q)) (list_all (λ b. not (b == q)) inside) (ap not e) s.free;
}

pub splits_here : {q : ℕ} (b : ℕ) (bs : List ℕ) → (b == q) ≡ true → Splits q (b ∷ bs) [] bs
splits_here {q} b bs e = record { parts = ap (λ z. z ∷ bs) (eqb-true b q e); free = refl }

-- white space

drop_suc : (n b : ℕ) (bs : List ℕ) → drop (1 + n) (b ∷ bs) ≡ drop n bs
drop_suc n b bs = let one : 1 + n ≡ suc n = omega arith in ap (λ k. drop k (b ∷ bs)) one

pub white_more : (b : ℕ) (bs : List ℕ) → is_white b ≡ true → after_white (b ∷ bs) ≡ after_white bs
white_more b bs e = ap (λ x. drop (cond x (1 + prefix_len is_white bs) 0) (b ∷ bs)) e ∙ drop_suc (prefix_len is_white bs) b bs

pub white_none : (b : ℕ) (bs : List ℕ) → is_white b ≡ false → after_white (b ∷ bs) ≡ b ∷ bs
white_none b bs e = ap (λ x. drop (cond x (1 + prefix_len is_white bs) 0) (b ∷ bs)) e

pub white_begins : (b : ℕ) (bs : List ℕ) → is_white b ≡ true → BeginsWithWhite (b ∷ bs)
white_begins b bs e = subst (λ x. 0 < cond x (1 + prefix_len is_white bs) 0) (sym e) some
  where
    some : 0 < 1 + prefix_len is_white bs
    some = omega arith

pub begins_white : (b : ℕ) (bs : List ℕ) → BeginsWithWhite (b ∷ bs) → is_white b ≡ true
begins_white b bs h = by (is_white b) refl
  where
    by : (x : Bool) → is_white b ≡ x → is_white b ≡ true
    by true e = e
    by false e = absurd (let none : prefix_len is_white (b ∷ bs) ≡ 0 = ap (λ x. cond x (1 + prefix_len is_white bs) 0) e in omega (arith, h, none))

-- no white space at the front
abbrev pub IsBare : List ℕ → Type 0
IsBare [] = Unit {0}
IsBare (b ∷ bs) = is_white b ≡ false

pub bare_after : (bs : List ℕ) → IsBare (after_white bs)
bare_after [] = tt
bare_after (b ∷ bs) = by (is_white b) refl (bare_after bs)
  where
    by : (x : Bool) → is_white b ≡ x → IsBare (after_white bs) → IsBare (after_white (b ∷ bs))
    by true e later = subst IsBare (sym (white_more b bs e)) later
    by false e later = subst IsBare (sym (white_none b bs e)) e
