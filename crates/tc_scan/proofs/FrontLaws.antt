-- Where a text may be cut, and what the front of a text is.
use Rattle.std.proofs.Common.{◌≡◌, ◌≢◌, ℕ, zero, suc, ◌+◌, ◌-◌, ◌<◌, ◌≤◌, Bool, true, false, cond, not, ◌||◌, ◌==◌, List, [], ◌∷◌, ◌++◌, refl, ap, ◌∙◌, sym, subst, length, take, drop, get_or, arith, MatchOption, Option, None, Some, take-append-drop, length-take, length-drop, IsUtf8, IsCharBoundary, get_or-drop, drop-drop, take_all}
use Rattle.std.specs.List.{prefix_len}
use Rattle.std.specs.Cmp.Lexicographic.{bytes_decides}
use Rattle.std.proofs.lemmas.Bool.{true≢false, eqb-true, false_from_ne_true}
use Rattle.std.proofs.lemmas.List.Sums.{prefix_len_is, prefix_len_passes, prefix_len-le-length}
use Rattle.std.proofs.lemmas.Str.{IsCharBoundary-after_ascii, IsCharBoundary-before_ascii, IsCharBoundary-start, IsCharBoundary-from_take, IsCharBoundary-from_rest, IsUtf8-drop}
use Rattle.memchr.specs.Find.{IsFirstByte, OccursAt, FindsNeedle}
use Rattle.memchr.proofs.lemmas.MatchLemmas.{OccursAt-part, OccursAt-from_part}
use Rattle.tc_base.specs.Characters.{is_white}
use Rattle.tc_model.specs.XmlTextBytes.{begins_with, length_before, UpTo}

pub cut_after_first : (bs : List ℕ) → IsUtf8 bs → 0 < length bs → get_or bs 0 0 < 128 → IsCharBoundary bs 1
cut_after_first bs u l e = IsCharBoundary-after_ascii bs 0 u l e

-- what begins with a mark
take_front : (mark r : List ℕ) → take (length mark) (mark ++ r) ≡ mark
take_front [] r = refl
take_front (m ∷ mark) r = ap (λ w. m ∷ w) (take_front mark r)

drop_front : (mark r : List ℕ) → drop (length mark) (mark ++ r) ≡ r
drop_front [] r = refl
drop_front (m ∷ mark) r = drop_front mark r

pub begun : (mark bs : List ℕ) → begins_with mark bs ≡ true → bs ≡ mark ++ drop (length mark) bs
begun mark bs e =
    sym (take-append-drop (length mark) bs) ∙ ap (λ w. w ++ drop (length mark) bs) (sym ((bytes_decides mark (take (length mark) bs)).0 e))

pub begins : (mark bs r : List ℕ) → bs ≡ mark ++ r → begins_with mark bs ≡ true
begins mark bs r e = (bytes_decides mark (take (length mark) bs)).1 (sym (ap (take (length mark)) e ∙ take_front mark r))

pub not_begun : (mark bs r : List ℕ) → begins_with mark bs ≡ false → bs ≡ mark ++ r → ⊥
not_begun mark bs r h e = true≢false (sym (begins mark bs r e) ∙ h)

pub cut_after_mark : (mark bs : List ℕ) → IsUtf8 bs → IsUtf8 mark → begins_with mark bs ≡ true → IsCharBoundary bs (length mark)
cut_after_mark mark bs u v e =
    let is = (bytes_decides mark (take (length mark) bs)).0 e in
    IsCharBoundary-from_take bs (length mark) u (omega (arith, ap length is, length-take (length mark) bs)) (subst IsUtf8 is v)

-- white space is ASCII
white_ascii : (b : ℕ) → is_white b ≡ true → b < 128
white_ascii b = by (b == 0x20) refl (b == 0x9) refl (b == 0xD) refl (b == 0xA) refl
  where
    by : (x : Bool) → (b == 0x20) ≡ x → (y : Bool) → (b == 0x9) ≡ y → (z : Bool) → (b == 0xD) ≡ z → (w : Bool) → (b == 0xA) ≡ w → (x || y || z || w) ≡ true → b < 128
    by true e y f z g w k h = omega (arith, eqb-true b 0x20 e)
    by false e true f z g w k h = omega (arith, eqb-true b 0x9 f)
    by false e false f true g w k h = omega (arith, eqb-true b 0xD g)
    by false e false f false g true k h = omega (arith, eqb-true b 0xA k)
    by false e false f false g false k h = absurd (true≢false (sym h))

-- a text may be cut after a run of ASCII
pub cut_after_run : (p : ℕ → Bool) → ((b : ℕ) → p b ≡ true → b < 128) → (bs : List ℕ) (n : ℕ) → n ≡ prefix_len p bs → IsUtf8 bs → IsCharBoundary bs n
cut_after_run p ascii bs n same u = by n same
  where
    by : (n : ℕ) → n ≡ prefix_len p bs → IsCharBoundary bs n
    by zero e = IsCharBoundary-start bs u
    by (suc m) e =
        let within : m < length bs = omega (arith, e, prefix_len-le-length p bs) in
        let next : m + 1 ≡ suc m = omega arith in
        subst (IsCharBoundary bs) next (IsCharBoundary-after_ascii bs m u within (ascii (get_or bs m 0) (prefix_len_passes p bs m 0 (omega (arith, e)))))

pub cut_after_white : (bs : List ℕ) → IsUtf8 bs → IsCharBoundary bs (prefix_len is_white bs)
cut_after_white bs u = cut_after_run is_white white_ascii bs (prefix_len is_white bs) refl u

-- the first byte that passes ends the run of those that fail
pub run_to_first : (p q : ℕ → Bool) (bs : List ℕ) (r : Option ℕ) → ((b : ℕ) → q b ≡ not (p b)) → IsFirstByte p bs r
    → MatchOption r (length bs ≡ prefix_len q bs) (λ k. k ≡ prefix_len q bs)
run_to_first p q bs None h f =
    sym (prefix_len_is q bs (length bs) 0 (omega arith) (λ k l. h (get_or bs k 0) ∙ ap not (false_from_ne_true _ (f k (omega arith) l))) (λ l. absurd (omega arith)))
run_to_first p q bs (Some k) h f =
    let n = f.0.high in
    sym (prefix_len_is q bs k 0 (omega arith) (λ i l. h (get_or bs i 0) ∙ ap not (false_from_ne_true _ (f.0.before i (omega arith) l))) (λ l. h (get_or bs k 0) ∙ ap not f.1))

-- the same test on equal bytes
pub same_start : (x : Bool) (a b text mark : List ℕ) → a ≡ text → b ≡ mark → x ≡ begins_with b a → begins_with mark text ≡ x
same_start x a b text mark e f h = sym (h ∙ (ap (λ w. begins_with w a) f ∙ ap (begins_with mark) e))

-- the first place of a mark
mark_at : (mark bs : List ℕ) (k : ℕ) → OccursAt bs mark k → begins_with mark (drop k bs) ≡ true
mark_at mark bs k h = (bytes_decides mark (take (length mark) (drop k bs))).1 (sym (OccursAt-part bs mark k h))

no_mark_at : (mark bs : List ℕ) (k : ℕ) → k < length bs → (OccursAt bs mark k → ⊥) → begins_with mark (drop k bs) ≡ false
no_mark_at mark bs k l h = false_from_ne_true _ (λ e.
    let is = (bytes_decides mark (take (length mark) (drop k bs))).0 e in
    h (OccursAt-from_part bs mark k (omega (arith, ap length is, length-take (length mark) (drop k bs), length-drop k bs)) (sym is)))

length_before_is : (mark bs : List ℕ) (k : ℕ) → k ≤ length bs → ((j : ℕ) → j < k → begins_with mark (drop j bs) ≡ false) → (k < length bs → begins_with mark (drop k bs) ≡ true) → k ≡ length_before mark bs
length_before_is mark [] k l before at = omega arith
length_before_is mark (b ∷ bs) zero l before at = sym (ap (λ x. cond x 0 (1 + length_before mark bs)) (at (omega arith)))
length_before_is mark (b ∷ bs) (suc k) l before at =
    let rest = length_before_is mark bs k (omega arith) (λ j h. before (suc j) (omega arith)) (λ h. at (omega arith)) in
    omega arith ∙ (ap (λ n. 1 + n) rest ∙ sym (ap (λ x. cond x 0 (1 + length_before mark bs)) (before 0 (omega arith))))

pub first_mark : (mark m bs a : List ℕ) (r : Option ℕ) (k : ℕ) → a ≡ bs → m ≡ mark → FindsNeedle a m 0 r → r ≡ Some k → (k ≡ length_before mark bs) × (k ≤ length bs)
first_mark mark m bs a r k e f h is =
    let g = subst (λ o. FindsNeedle bs mark 0 o) is (subst (λ w. FindsNeedle w mark 0 r) e (subst (λ w. FindsNeedle a w 0 r) f h)) in
    let within : k ≤ length bs = omega (arith, g.0.high) in
    (length_before_is mark bs k within (λ j l. no_mark_at mark bs j (omega arith) (g.0.before j (omega arith) l)) (λ l. mark_at mark bs k g.1), within)

pub no_mark : (mark m bs a : List ℕ) (r : Option ℕ) → a ≡ bs → m ≡ mark → FindsNeedle a m 0 r → r ≡ None → length bs ≡ length_before mark bs
no_mark mark m bs a r e f h is =
    let g = subst (λ o. FindsNeedle bs mark 0 o) is (subst (λ w. FindsNeedle w mark 0 r) e (subst (λ w. FindsNeedle a w 0 r) f h)) in
    length_before_is mark bs (length bs) (omega arith) (λ j l. no_mark_at mark bs j l (g j (omega arith) (omega arith))) (λ l. absurd (omega arith))

-- where a mark is found, the text may be cut before and behind it
first_of_mark : (mark bs : List ℕ) → 0 < length mark → begins_with mark bs ≡ true → (get_or bs 0 0 ≡ get_or mark 0 0) × (0 < length bs)
first_of_mark [] bs l e = absurd (omega arith)
first_of_mark (m ∷ mark) bs l e = let is = begun (m ∷ mark) bs e in (ap (λ w. get_or w 0 0) is, omega (arith, ap length is))

pub cut_before_found : (mark bs : List ℕ) (n : ℕ) → IsUtf8 bs → 0 < length mark → get_or mark 0 0 < 128 → n ≤ length bs → begins_with mark (drop n bs) ≡ true → IsCharBoundary bs n
cut_before_found mark bs n u l a k e =
    let (same, some) = first_of_mark mark (drop n bs) l e in
    let at : get_or (drop n bs) 0 0 ≡ get_or bs (n + 0) 0 = get_or-drop n bs 0 0 in
    let there : get_or bs n 0 < 128 = subst (λ i. get_or bs i 0 < 128) (omega arith) (subst (λ w. w < 128) (sym same ∙ at) a) in
    IsCharBoundary-before_ascii bs n (omega (arith, length-drop n bs)) there

pub cut_behind_found : (mark bs : List ℕ) (n : ℕ) → IsUtf8 bs → IsUtf8 mark → 0 < length mark → get_or mark 0 0 < 128 → n ≤ length bs → begins_with mark (drop n bs) ≡ true
    → IsCharBoundary bs (n + length mark)
cut_behind_found mark bs n u v l a k e =
    IsCharBoundary-from_rest bs n (length mark) k
    (cut_after_mark mark (drop n bs) (IsUtf8-drop bs n u (cut_before_found mark bs n u l a k e)) v e)

pub found : (mark bs inside after : List ℕ) (n : ℕ) → n ≡ length_before mark bs → inside ≡ take n bs → begins_with mark (drop n bs) ≡ true → after ≡ drop (n + length mark) bs
    → UpTo mark bs inside after
found mark bs inside after n e f h g = record {
  front = f ∙ ap (λ k. take k bs) e;
  back = ap (λ k. drop k bs) (sym e) ∙ (begun mark (drop n bs) h ∙ ap (λ w. mark ++ w) (drop-drop (length mark) n bs ∙ sym g));
}

nonempty_append : (mark after : List ℕ) → 0 < length mark → [] ≡ mark ++ after → ⊥
nonempty_append [] after l e = omega arith
nonempty_append (m ∷ mark) after l e = cc

drop_length : (bs : List ℕ) → drop (length bs) bs ≡ []
drop_length [] = refl
drop_length (b ∷ bs) = drop_length bs

pub not_found : (mark bs : List ℕ) (n : ℕ) → 0 < length mark → n ≡ length_before mark bs → n ≡ length bs → (inside after : List ℕ) → UpTo mark bs inside after → ⊥
not_found mark bs n l e f inside after u =
    nonempty_append mark after l (sym (drop_length bs) ∙ (ap (λ k. drop k bs) (sym f ∙ e) ∙ u.back))

-- before the end, the mark stands there
stands : (mark bs : List ℕ) → length_before mark bs < length bs → begins_with mark (drop (length_before mark bs) bs) ≡ true
stands mark [] l = absurd (omega arith)
stands mark (b ∷ bs) l = by (begins_with mark (b ∷ bs)) refl (stands mark bs)
  where
    by : (x : Bool) → begins_with mark (b ∷ bs) ≡ x → (length_before mark bs < length bs → begins_with mark (drop (length_before mark bs) bs) ≡ true) → begins_with mark (drop (length_before mark (b ∷ bs)) (b ∷ bs)) ≡ true
    by true e later = let zero : length_before mark (b ∷ bs) ≡ 0 = ap (λ x. cond x 0 (1 + length_before mark bs)) e in ap (λ k. begins_with mark (drop k (b ∷ bs))) zero ∙ e
    by false e later =
        let more : length_before mark (b ∷ bs) ≡ suc (length_before mark bs) = ap (λ x. cond x 0 (1 + length_before mark bs)) e ∙ omega arith in
        ap (λ k. begins_with mark (drop k (b ∷ bs))) more ∙ later (omega (arith, more))

pub stands_at : (mark bs : List ℕ) (n : ℕ) → n ≡ length_before mark bs → n ≤ length bs → n ≢ length bs → begins_with mark (drop n bs) ≡ true
stands_at mark bs n e l h = ap (λ k. begins_with mark (drop k bs)) e ∙ stands mark bs (omega arith)

pub run_to_some : (p q : ℕ → Bool) (a bs : List ℕ) (r : Option ℕ) (n : ℕ) → ((b : ℕ) → q b ≡ not (p b)) → a ≡ bs → IsFirstByte p a r → r ≡ Some n → n ≡ prefix_len q bs
run_to_some p q a bs r n h e f is =
    subst (λ w. n ≡ prefix_len q w) e (subst (λ o. MatchOption o (length a ≡ prefix_len q a) (λ k. k ≡ prefix_len q a)) is (run_to_first p q a r h f))

pub run_to_none : (p q : ℕ → Bool) (a bs : List ℕ) (r : Option ℕ) → ((b : ℕ) → q b ≡ not (p b)) → a ≡ bs → IsFirstByte p a r → r ≡ None → length bs ≡ prefix_len q bs
run_to_none p q a bs r h e f is =
    subst (λ w. length w ≡ prefix_len q w) e (subst (λ o. MatchOption o (length a ≡ prefix_len q a) (λ k. k ≡ prefix_len q a)) is (run_to_first p q a r h f))

pub same_range : (n : ℕ) (bs : List ℕ) → take (n - 0) (drop 0 bs) ≡ take n bs
same_range n bs = ap (λ k. take k bs) (omega arith)

pub same_rest : (n : ℕ) (bs : List ℕ) → n ≤ length bs → take (length bs - n) (drop n bs) ≡ drop n bs
same_rest n bs l = take_all (length bs - n) (drop n bs) (omega (arith, length-drop n bs))
