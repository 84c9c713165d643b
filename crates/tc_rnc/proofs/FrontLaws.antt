-- Where a text may be cut after a line, and what is skipped.
use Rattle.std.proofs.Common.{◌≡◌, ℕ, suc, ◌+◌, ◌<◌, ◌≤◌, Bool, true, false, cond, not, ◌⊎◌, inl, inr, ◌||◌, ◌==◌, List, [], ◌∷◌, refl, ap, ◌∙◌, sym, subst, length, drop, get_or, arith, IsTrue, IsUtf8, IsCharBoundary, length-drop}
use Rattle.std.specs.List.{prefix_len}
use Rattle.std.proofs.lemmas.Bool.{true≢false, eqb-true}
use Rattle.std.proofs.Math.Nat.{eq-or-lt_of_le}
use Rattle.std.proofs.lemmas.List.Sums.{prefix_len-le-length, prefix_len_stops}
use Rattle.std.proofs.lemmas.Str.{IsCharBoundary-before_ascii, IsCharBoundary-end}
use Rattle.tc_base.specs.Characters.{is_white}
use Rattle.tc_model.specs.XmlTextBytes.{after_white}
use Rattle.tc_model.specs.CompactSyntaxTokens.{is_line_end, after_line}
use Rattle.tc_model.specs.CompactSyntaxRefused.{BeginsNoSpace}
use Rattle.tc_model.proofs.XmlTextPhrases.{same_first}
use Rattle.tc_rnc.specs.Fronts.{is_in_line, Skips, nothing, white, comment}

-- a line ends before an ASCII byte, or with the text
line_end_ascii : (b : ℕ) → not (is_line_end b) ≡ false → b < 128
line_end_ascii b = by (b == 0xA) refl (b == 0xD) refl
  where
    by : (x : Bool) → (b == 0xA) ≡ x → (y : Bool) → (b == 0xD) ≡ y → not (x || y) ≡ false → b < 128
    by true e y f k = omega (arith, eqb-true b 0xA e)
    by false e true f k = omega (arith, eqb-true b 0xD f)
    by false e false f k = absurd (true≢false k)

pub cut_after_line : (bs : List ℕ) (n : ℕ) → IsUtf8 bs → n ≡ prefix_len is_in_line bs → IsCharBoundary bs n
cut_after_line bs n u e = subst (IsCharBoundary bs) (sym e) (by (eq-or-lt_of_le (prefix_len-le-length is_in_line bs)))
  where
    by : (prefix_len is_in_line bs ≡ length bs) ⊎ (prefix_len is_in_line bs < length bs) → IsCharBoundary bs (prefix_len is_in_line bs)
    by (inl f) = subst (IsCharBoundary bs) (sym f) (IsCharBoundary-end bs)
    by (inr l) = IsCharBoundary-before_ascii bs (prefix_len is_in_line bs) l (line_end_ascii (get_or bs (prefix_len is_in_line bs) 0) (prefix_len_stops is_in_line bs 0 l))

run_goes : (p : ℕ → Bool) (b : ℕ) (bs : List ℕ) → p b ≡ true → drop (prefix_len p (b ∷ bs)) (b ∷ bs) ≡ drop (prefix_len p bs) bs
run_goes p b bs e =
    let is : prefix_len p (b ∷ bs) ≡ suc (prefix_len p bs) = ap (λ x. cond x (1 + prefix_len p bs) 0) e ∙ omega arith in
    ap (λ n. drop n (b ∷ bs)) is

run_stops : (p : ℕ → Bool) (b : ℕ) (bs : List ℕ) → p b ≡ false → drop (prefix_len p (b ∷ bs)) (b ∷ bs) ≡ b ∷ bs
run_stops p b bs e = ap (λ x. drop (cond x (1 + prefix_len p bs) 0) (b ∷ bs)) e

pub skips_white : (bs : List ℕ) → Skips bs (after_white bs)
skips_white [] = nothing
skips_white (b ∷ bs) = by (is_white b) refl (skips_white bs)
  where
    by : (x : Bool) → is_white b ≡ x → Skips bs (after_white bs) → Skips (b ∷ bs) (after_white (b ∷ bs))
    by true e h = subst (Skips (b ∷ bs)) (sym (run_goes is_white b bs e)) (white e h)
    by false e h = subst (Skips (b ∷ bs)) (sym (run_stops is_white b bs e)) nothing

pub no_white_behind : (bs : List ℕ) (c : ℕ) (r : List ℕ) → after_white bs ≡ c ∷ r → IsTrue (is_white c) → ⊥
no_white_behind [] c r e h = omega (arith, ap length e)
no_white_behind (b ∷ bs) c r e h = by (is_white b) refl (λ f. no_white_behind bs c r f h)
  where
    by : (x : Bool) → is_white b ≡ x → (after_white bs ≡ c ∷ r → ⊥) → ⊥
    by true f k = k (sym (run_goes is_white b bs f) ∙ e)
    by false f k =
        let is : b ∷ bs ≡ c ∷ r = sym (run_stops is_white b bs f) ∙ e in
        true≢false (sym h ∙ (ap is_white (sym (same_first is)) ∙ f))

-- one more comment, and white space
pub skips_skips : {xs ys zs : List ℕ} → Skips xs ys → Skips ys zs → Skips xs zs
skips_skips nothing k = k
skips_skips (white e h) k = white e (skips_skips h k)
skips_skips (comment h) k = comment (skips_skips h k)

pub skips_comment : (text rest behind line : List ℕ) → Skips text rest → rest ≡ 0x23 ∷ behind → line ≡ after_line behind → Skips text (after_white line)
skips_comment text rest behind line h e f =
    skips_skips h (subst (λ w. Skips w (after_white line)) (sym e) (comment (subst (λ w. Skips w (after_white line)) f (skips_white line))))

pub after_run_len : (p : ℕ → Bool) (bs : List ℕ) → length (drop (prefix_len p bs) bs) ≤ length bs
after_run_len p bs = omega (arith, length-drop (prefix_len p bs) bs)

pub past_comment_shorter : (rest behind line after : List ℕ) → rest ≡ 0x23 ∷ behind → line ≡ after_line behind → after ≡ after_white line → length after < length rest
past_comment_shorter rest behind line after e f g =
    omega (arith, ap length e, ap length f, ap length g, after_run_len is_in_line behind, after_run_len is_white line)

pub begins_no_space : (text line rest : List ℕ) → rest ≡ after_white line → ((r : List ℕ) → rest ≡ 0x23 ∷ r → ⊥) → BeginsNoSpace rest
begins_no_space text line rest e h = record { no_white = λ c r f. no_white_behind line c r (sym e ∙ f); no_comment = h }
