-- Up to its first closing bracket character data is read by a scan as if it weren't there.
use Rattle.std.proofs.Common.{◌≡◌, ℕ, zero, suc, ◌<◌, ◌≤◌, Bool, true, false, cond, not, ◌||◌, ◌==◌, List, [], ◌∷◌, refl, ap, ◌∙◌, sym, subst, length, take, drop, get_or, arith, Option, None, Some}
use Rattle.std.specs.List.{prefix_len}
use Rattle.std.specs.Prelude.{slice_index}
use Rattle.std.proofs.lemmas.Bool.{true≢false}
use Rattle.std.proofs.lemmas.List.{length-take-le, get_or-take}
use Rattle.std.proofs.lemmas.List.Sums.{prefix_len_is, prefix_len_passes}
use Rattle.memchr.specs.Find.{IsFirstByte, is_byte}
use Rattle.tc_model.specs.XmlTextReferences.{is_plain}
use Rattle.tc_scan.specs.Blocks.{is_clear}
use Rattle.tc_stream.specs.Scans.{going, cdata_scan}

over_one : (b : ℕ) (bs : List ℕ) → ((b == 0x5D) ≡ true → ⊥) → cdata_scan 0 (b ∷ bs) ≡ cdata_scan 0 bs
over_one b bs h = by (b == 0x5D) (b == 0x3E) h
  where
    by : (x y : Bool) → (x ≡ true → ⊥) → cond x (cdata_scan 1 bs) (cond y (cdata_scan 0 bs) (cdata_scan 0 bs)) ≡ cdata_scan 0 bs
    by true y k = absurd (k refl)
    by false true k = refl
    by false false k = refl

over_plain : (bs : List ℕ) (n : ℕ) → n ≤ length bs → ((k : ℕ) → k < n → (slice_index bs k == 0x5D) ≡ true → ⊥) → cdata_scan 0 (drop n bs) ≡ cdata_scan 0 bs
over_plain bs zero l h = refl
over_plain [] (suc n) l h = refl
over_plain (b ∷ bs) (suc n) l h =
    over_plain bs n (omega arith) (λ k m. h (suc k) (omega arith)) ∙ sym (over_one b bs (h 0 (omega arith)))

over_all : (bs : List ℕ) → ((k : ℕ) → k < length bs → (slice_index bs k == 0x5D) ≡ true → ⊥) → cdata_scan 0 bs ≡ going 0
over_all [] h = refl
over_all (b ∷ bs) h = over_one b bs (h 0 (omega arith)) ∙ over_all bs (λ k m. h (suc k) (omega arith))

pub scan_from_bracket : (bs : List ℕ) (r : Option ℕ) (n : ℕ) → IsFirstByte (is_byte 0x5D) bs r → r ≡ Some n → cdata_scan 0 (drop n bs) ≡ cdata_scan 0 bs
scan_from_bracket bs r n f is =
    let g = subst (λ o. IsFirstByte (is_byte 0x5D) bs o) is f in
    over_plain bs n (omega (arith, g.0.high)) (λ k m. g.0.before k (omega arith) m)

pub scan_without_bracket : (bs : List ℕ) (r : Option ℕ) → IsFirstByte (is_byte 0x5D) bs r → r ≡ None → cdata_scan 0 bs ≡ going 0
scan_without_bracket bs r f is =
    let g = subst (λ o. IsFirstByte (is_byte 0x5D) bs o) is f in
    over_all bs (λ k m. g k (omega arith) m)

-- ---- a run that blocks show to have no closing bracket

clear_byte : (x : ℕ) → is_clear x ≡ true → (is_plain x ≡ true) × ((x == 0x5D) ≡ true → ⊥)
clear_byte x = by (x == 0x3C) (x == 0x26) (x == 0x5D) (x == 0xD)
  where
    by : (a b c d : Bool) → not (a || b || c || d) ≡ true → (not (a || b) ≡ true) × (c ≡ true → ⊥)
    by true b c d e = absurd (true≢false (sym e))
    by false true c d e = absurd (true≢false (sym e))
    by false false true d e = absurd (true≢false (sym e))
    by false false false true e = absurd (true≢false (sym e))
    by false false false false e = (refl, λ f. true≢false (sym f))

ends : (b : Bool) → true ≡ not b → b ≡ false
ends true e = absurd (true≢false e)
ends false e = refl

pub clear_front : (bs : List ℕ) (n : ℕ) → n ≡ prefix_len is_clear bs → n < length bs → true ≡ not (is_plain (get_or bs n 0)) → (n ≡ prefix_len is_plain bs) × (cdata_scan 0 (take n bs) ≡ going 0)
clear_front bs n e l stop =
    let before : (i : ℕ) → i < n → is_clear (get_or bs i 0) ≡ true = λ i m. prefix_len_passes is_clear bs i 0 (omega (arith, e, m)) in
    let plain : prefix_len is_plain bs ≡ n = prefix_len_is is_plain bs n 0 (omega arith) (λ i m. (clear_byte (get_or bs i 0) (before i m)).0) (λ m. ends (is_plain (get_or bs n 0)) stop) in
    let long : length (take n bs) ≡ n = length-take-le n bs (omega arith) in
    (sym plain, over_all (take n bs) (λ k m f. let m' : k < n = omega (arith, m, long) in (clear_byte (get_or bs k 0) (before k m')).1 (ap (λ b. b == 0x5D) (sym (get_or-take n bs k 0 m')) ∙ f)))
