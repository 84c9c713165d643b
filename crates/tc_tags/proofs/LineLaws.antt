-- Line ends and spaces of characters that are kept.
use Rattle.std.proofs.Common.{◌≡◌, ℕ, suc, ◌+◌, ◌<◌, Bool, true, false, cond, not, ◌||◌, ◌&&◌, ◌==◌, List, [], ◌∷◌, ◌++◌, refl, ap, ◌∙◌, sym, subst, length, take, drop, get_or, arith, append_assoc, length-append, length-drop, MatchBool, Option, Some, take_all, append-nil}
use Rattle.std.specs.List.{prefix_len}
use Rattle.std.proofs.lemmas.Bool.{true≢false, eqb-true}
use Rattle.std.proofs.lemmas.List.{drop_more, drop_all}
use Rattle.std.proofs.lemmas.List.Sums.{prefix_len_stops}
use Rattle.memchr.specs.Find.{IsFirstByte}
use Rattle.tc_model.specs.XmlTextBytes.{begins_with, line_ends}
use Rattle.tc_model.specs.XmlTextReferences.{spaced}
use Rattle.tc_tags.specs.Values.{past_line_end}

abbrev pub not_break : ℕ → Bool
not_break b = not (b == 0xD || b == 0xA || b == 0x9)

pub spaced_front : (bs : List ℕ) → spaced (line_ends bs) ≡ take (prefix_len not_break bs) bs ++ spaced (line_ends (drop (prefix_len not_break bs) bs))
spaced_front [] = refl
spaced_front (b ∷ bs) = by (b == 0xD) refl (b == 0xA) refl (b == 0x9) refl (spaced_front bs)
  where
    stops : (x y z : Bool) → (b == 0xD) ≡ x → (b == 0xA) ≡ y → (b == 0x9) ≡ z → prefix_len not_break (b ∷ bs) ≡ cond (not (x || y || z)) (1 + prefix_len not_break bs) 0
    stops x y z e f g = ap (λ w. cond (not (w || b == 0xA || b == 0x9)) (1 + prefix_len not_break bs) 0) e
        ∙ (ap (λ w. cond (not (x || w || b == 0x9)) (1 + prefix_len not_break bs) 0) f ∙ ap (λ w. cond (not (x || y || w)) (1 + prefix_len not_break bs) 0) g)

    at : (n : ℕ) → prefix_len not_break (b ∷ bs) ≡ n → spaced (line_ends (b ∷ bs)) ≡ take n (b ∷ bs) ++ spaced (line_ends (drop n (b ∷ bs)))
        → spaced (line_ends (b ∷ bs)) ≡ take (prefix_len not_break (b ∷ bs)) (b ∷ bs) ++ spaced (line_ends (drop (prefix_len not_break (b ∷ bs)) (b ∷ bs)))
    at n e h = subst (λ m. spaced (line_ends (b ∷ bs)) ≡ take m (b ∷ bs) ++ spaced (line_ends (drop m (b ∷ bs)))) (sym e) h

    by : (x : Bool) → (b == 0xD) ≡ x → (y : Bool) → (b == 0xA) ≡ y → (z : Bool) → (b == 0x9) ≡ z
        → spaced (line_ends bs) ≡ take (prefix_len not_break bs) bs ++ spaced (line_ends (drop (prefix_len not_break bs) bs))
        → spaced (line_ends (b ∷ bs)) ≡ take (prefix_len not_break (b ∷ bs)) (b ∷ bs) ++ spaced (line_ends (drop (prefix_len not_break (b ∷ bs)) (b ∷ bs)))
    by true e y f z g more = at 0 (stops true y z e f g) refl
    by false e true f z g more = at 0 (stops false true z e f g) refl
    by false e false f true g more = at 0 (stops false false true e f g) refl
    by false e false f false g more =
        at (suc (prefix_len not_break bs)) (stops false false false e f g ∙ omega arith)
        (ap (λ x. spaced (cond x (cond (begins_with (0xA ∷ []) bs) (line_ends bs) (0xA ∷ line_ends bs)) (b ∷ line_ends bs))) e
        ∙ (ap (λ x. cond (x || b == 0xA) 0x20 b ∷ spaced (line_ends bs)) g
        ∙ (ap (λ x. cond x 0x20 b ∷ spaced (line_ends bs)) f
        ∙ ap (λ w. b ∷ w) more)))

-- behind a line end
pub at_return : (bs : List ℕ) → line_ends (0xD ∷ bs) ≡ 0xA ∷ line_ends (past_line_end (0xD ∷ bs))
at_return [] = refl
at_return (c ∷ bs) = by (0xA == c) refl
  where
    by : (x : Bool) → (0xA == c) ≡ x → line_ends (0xD ∷ c ∷ bs) ≡ 0xA ∷ line_ends (past_line_end (0xD ∷ c ∷ bs))
    by true e = subst (λ d. line_ends (0xD ∷ d ∷ bs) ≡ 0xA ∷ line_ends (past_line_end (0xD ∷ d ∷ bs))) (eqb-true 0xA c e) refl
    by false e = ap (λ x. cond (x && true) (line_ends (c ∷ bs)) (0xA ∷ line_ends (c ∷ bs))) e ∙ ap (λ x. 0xA ∷ line_ends (cond (x && true) bs (c ∷ bs))) (sym e)

pub at_break : (b : ℕ) (bs : List ℕ) → not_break b ≡ false → spaced (line_ends (b ∷ bs)) ≡ 0x20 ∷ spaced (line_ends (past_line_end (b ∷ bs)))
at_break b bs = by (b == 0xD) refl (b == 0xA) refl (b == 0x9) refl
  where
    by : (x : Bool) → (b == 0xD) ≡ x → (y : Bool) → (b == 0xA) ≡ y → (z : Bool) → (b == 0x9) ≡ z → not (x || y || z) ≡ false
        → spaced (line_ends (b ∷ bs)) ≡ 0x20 ∷ spaced (line_ends (past_line_end (b ∷ bs)))
    by true e y f z g h = subst (λ c. spaced (line_ends (c ∷ bs)) ≡ 0x20 ∷ spaced (line_ends (past_line_end (c ∷ bs)))) (sym (eqb-true b 0xD e)) (ap spaced (at_return bs))
    by false e true f z g h = subst (λ c. spaced (line_ends (c ∷ bs)) ≡ 0x20 ∷ spaced (line_ends (past_line_end (c ∷ bs)))) (sym (eqb-true b 0xA f)) refl
    by false e false f true g h = subst (λ c. spaced (line_ends (c ∷ bs)) ≡ 0x20 ∷ spaced (line_ends (past_line_end (c ∷ bs)))) (sym (eqb-true b 0x9 g)) refl
    by false e false f false g h = absurd (true≢false h)

-- one step of a loop over them
pub spaces_step : (bs front behind after : List ℕ) (n : ℕ) → n ≡ prefix_len not_break bs → n < length bs → front ≡ take n bs → behind ≡ drop n bs → after ≡ past_line_end behind
    → spaced (line_ends bs) ≡ front ++ 0x20 ∷ spaced (line_ends after)
spaces_step bs front behind after n e l f g h =
    let at : drop n bs ≡ get_or bs n 0 ∷ drop (n + 1) bs = drop_more bs n 0 l in
    let is = subst (λ m. not_break (get_or bs m 0) ≡ false) (sym e) (prefix_len_stops not_break bs 0 (subst (λ m. m < length bs) e l)) in
    let there : behind ≡ get_or bs n 0 ∷ drop (n + 1) bs = g ∙ at in
    spaced_front bs ∙ (ap (λ m. take m bs ++ spaced (line_ends (drop m bs))) (sym e)
    ∙ (ap (λ w. w ++ spaced (line_ends (drop n bs))) (sym f)
    ∙ ap (λ w. front ++ w) (ap (λ w. spaced (line_ends w)) at ∙ (at_break (get_or bs n 0) (drop (n + 1) bs) is ∙ ap (λ w. 0x20 ∷ spaced (line_ends w)) (ap past_line_end (sym there) ∙ sym h)))))

-- what is added goes behind what was
pub added : (out front after : List ℕ) (b : ℕ) (out1 out2 all rest : List ℕ) → out1 ≡ out ++ front → out2 ≡ out1 ++ b ∷ [] → rest ≡ front ++ b ∷ after → out ++ rest ≡ all → out2 ++ after ≡ all
added out front after b out1 out2 all rest e f g h =
    ap (λ w. w ++ after) (f ∙ ap (λ w. w ++ b ∷ []) e)
    ∙ (append_assoc (out ++ front) (b ∷ []) after ∙ (append_assoc out front (b ∷ after) ∙ (ap (λ w. out ++ w) (sym g) ∙ h)))

-- there is no room for all where there is none for what stands before a line end, or for that
pub no_room : (out front after old run : List ℕ) (most : ℕ) {rest : List ℕ} → rest ≡ front ++ 0x20 ∷ after → out ++ rest ≡ old ++ run → most < length out + length front + 1 → most < length old + length run
no_room out front after old run most {rest} e f l =
    let a : length rest ≡ length front + (1 + length after) = ap length e ∙ (length-append front (0x20 ∷ after) ∙ omega arith) in
    let b : length out + length rest ≡ length old + length run = sym (length-append out rest) ∙ (ap length f ∙ length-append old run) in
    omega (arith, a, b, l)

-- the characters behind the last line end
pub spaced_last : (r : Bool) (out old run last new : List ℕ) {all : List ℕ} (now most : ℕ) → all ≡ last → out ++ all ≡ old ++ run → now ≡ most
    → MatchBool r (new ≡ out ++ last) ((new ≡ out) × (now < length out + length last)) → MatchBool r (new ≡ old ++ run) (most < length old + length run)
spaced_last true out old run last new now most e f g h = h ∙ (ap (λ w. out ++ w) (sym e) ∙ f)
spaced_last false out old run last new {all} now most e f g h =
    let a : length out + length all ≡ length old + length run = sym (length-append out all) ∙ (ap length f ∙ length-append old run) in
    omega (arith, h.1, a, ap length e, g)

pub past_shorter : (bs : List ℕ) → 0 < length bs → length (past_line_end bs) < length bs
past_shorter bs l = by (begins_with (0xD ∷ 0xA ∷ []) bs)
  where
    by : (x : Bool) → length (cond x (drop 2 bs) (drop 1 bs)) < length bs
    by true = omega (arith, length-drop 2 bs)
    by false = omega (arith, length-drop 1 bs)

pub step_shorter : (bs behind after : List ℕ) (n : ℕ) → n < length bs → behind ≡ drop n bs → after ≡ past_line_end behind → length after < length bs
step_shorter bs behind after n l e f =
    let some : 0 < length behind = omega (arith, ap length e, length-drop n bs) in
    omega (arith, past_shorter behind some, ap length f, ap length e, length-drop n bs)

pub found_within : (p : ℕ → Bool) (a bs : List ℕ) (r : Option ℕ) (n : ℕ) → a ≡ bs → IsFirstByte p a r → r ≡ Some n → n < length bs
found_within p a bs r n e f is = let g = subst (IsFirstByte p a) is f in omega (arith, ap length e, g.0.high)

-- at the end
pub spaces_end : (bs : List ℕ) → length bs ≡ prefix_len not_break bs → spaced (line_ends bs) ≡ bs
spaces_end bs e =
    spaced_front bs ∙ (ap (λ m. take m bs ++ spaced (line_ends (drop m bs))) (sym e)
    ∙ (ap (λ w. w ++ spaced (line_ends (drop (length bs) bs))) (take_all (length bs) bs (omega arith)) ∙ (ap (λ w. bs ++ spaced (line_ends w)) (drop_all (length bs) bs (omega arith)) ∙ append-nil bs)))
