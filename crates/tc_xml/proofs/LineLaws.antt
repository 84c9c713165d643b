-- Line ends and spaces of characters that are kept.
use Rattle.std.proofs.Common.{◌≡◌, ℕ, suc, ◌+◌, ◌<◌, Bool, true, false, cond, not, ◌==◌, List, [], ◌∷◌, ◌++◌, refl, ap, ◌∙◌, sym, subst, length, take, drop, get_or, arith, append_assoc, take_all, append-nil}
use Rattle.std.specs.Prelude.{encode_utf8}
use Rattle.std.specs.List.{prefix_len}
use Rattle.std.proofs.lemmas.Bool.{true≢false, eqb-true}
use Rattle.std.proofs.lemmas.List.{drop_more, drop_all}
use Rattle.std.proofs.lemmas.List.Sums.{prefix_len_stops}
use Rattle.std.proofs.lemmas.Str.{encode_ascii}
use Rattle.tc_model.specs.XmlTextBytes.{begins_with, line_ends}
use Rattle.tc_tags.specs.Values.{past_line_end}
use Rattle.tc_tags.proofs.LineLaws.{at_return}

abbrev pub not_return : ℕ → Bool
not_return b = not (b == 0xD)

pub line_ends_front : (bs : List ℕ) → line_ends bs ≡ take (prefix_len not_return bs) bs ++ line_ends (drop (prefix_len not_return bs) bs)
line_ends_front [] = refl
line_ends_front (b ∷ bs) = by (b == 0xD) refl (line_ends_front bs)
  where
    all : ℕ → List ℕ
    all n = take n (b ∷ bs) ++ line_ends (drop n (b ∷ bs))

    by : (x : Bool) → (b == 0xD) ≡ x → line_ends bs ≡ take (prefix_len not_return bs) bs ++ line_ends (drop (prefix_len not_return bs) bs)
        → line_ends (b ∷ bs) ≡ take (prefix_len not_return (b ∷ bs)) (b ∷ bs) ++ line_ends (drop (prefix_len not_return (b ∷ bs)) (b ∷ bs))
    by true e more = ap (λ n. take n (b ∷ bs) ++ line_ends (drop n (b ∷ bs))) (sym (ap (λ x. cond (not x) (1 + prefix_len not_return bs) 0) e))
    by false e more =
        let len : suc (prefix_len not_return bs) ≡ prefix_len not_return (b ∷ bs) = omega arith ∙ ap (λ x. cond (not x) (1 + prefix_len not_return bs) 0) (sym e) in
        ap (λ x. cond x (cond (begins_with (0xA ∷ []) bs) (line_ends bs) (0xA ∷ line_ends bs)) (b ∷ line_ends bs)) e
        ∙ (ap (λ w. b ∷ w) more ∙ ap (λ n. take n (b ∷ bs) ++ line_ends (drop n (b ∷ bs))) len)

-- one step of a loop over them
pub lines_step : (bs front behind after : List ℕ) (n : ℕ) → n ≡ prefix_len not_return bs → n < length bs → front ≡ take n bs → behind ≡ drop n bs → after ≡ past_line_end behind
    → line_ends bs ≡ front ++ 0xA ∷ line_ends after
lines_step bs front behind after n e l f g h =
    let at : drop n bs ≡ get_or bs n 0 ∷ drop (n + 1) bs = drop_more bs n 0 l in
    let is : get_or bs n 0 ≡ 0xD = return (get_or bs n 0) (subst (λ m. not_return (get_or bs m 0) ≡ false) (sym e) (prefix_len_stops not_return bs 0 (subst (λ m. m < length bs) e l))) in
    let there : behind ≡ 0xD ∷ drop (n + 1) bs = g ∙ (at ∙ ap (λ b. b ∷ drop (n + 1) bs) is) in
    line_ends_front bs ∙ (ap (λ m. take m bs ++ line_ends (drop m bs)) (sym e)
    ∙ (ap (λ w. w ++ line_ends (drop n bs)) (sym f)
    ∙ ap (λ w. front ++ w) (ap line_ends (sym g ∙ there) ∙ (at_return (drop (n + 1) bs) ∙ ap (λ w. 0xA ∷ line_ends w) (ap past_line_end (sym there) ∙ sym h)))))
  where
    return : (b : ℕ) → not_return b ≡ false → b ≡ 0xD
    return b k = by (b == 0xD) refl k
      where
        by : (x : Bool) → (b == 0xD) ≡ x → not x ≡ false → b ≡ 0xD
        by true i j = eqb-true b 0xD i
        by false i j = absurd (true≢false j)

-- what is appended goes behind what was
pub appended : (out front after : List ℕ) (b : ℕ) (out1 out2 all rest : List ℕ) → b < 128 → out1 ≡ out ++ front → out2 ≡ out1 ++ encode_utf8 b → rest ≡ front ++ b ∷ after → out ++ rest ≡ all
    → out2 ++ after ≡ all
appended out front after b out1 out2 all rest l e f g h =
    ap (λ w. w ++ after) (f ∙ (ap (λ w. out1 ++ w) (encode_ascii b l) ∙ ap (λ w. w ++ b ∷ []) e))
    ∙ (append_assoc (out ++ front) (b ∷ []) after ∙ (append_assoc out front (b ∷ after) ∙ (ap (λ w. out ++ w) (sym g) ∙ h)))

-- at the end
pub lines_end : (bs : List ℕ) → length bs ≡ prefix_len not_return bs → line_ends bs ≡ bs
lines_end bs e =
    line_ends_front bs ∙ (ap (λ m. take m bs ++ line_ends (drop m bs)) (sym e)
    ∙ (ap (λ w. w ++ line_ends (drop (length bs) bs)) (take_all (length bs) bs (omega arith)) ∙ (ap (λ w. bs ++ line_ends w) (drop_all (length bs) bs (omega arith)) ∙ append-nil bs)))
