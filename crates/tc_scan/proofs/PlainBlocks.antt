-- Blocks of ASCII, and what stands behind them.
use Rattle.std.proofs.Common.{◌≡◌, ℕ, zero, suc, ◌+◌, ◌-◌, ◌%◌, ◌^◌, ◌<◌, ◌≤◌, Bool, true, false, cond, eqb, ltb, leb, List, [], ◌∷◌, ◌++◌, map, length, take, drop, get_or, replicate, bit_or, bit_xor, refl, ap, ◌∙◌, sym, subst, arith, take-append-drop, length-append, append_assoc, ◌&&◌, w8, Fits}
use Rattle.std.specs.List.{list_all}
use Rattle.std.proofs.Math.Seq.{take-append_seam, take-add}
use Rattle.std.specs.Prelude.{encode_utf8, nat_le}
use Rattle.std.proofs.lemmas.Bool.{eqb-true, eqb-false, leb-false, ltb-false, and_from, and_parts}
use Rattle.std.proofs.lemmas.Bool.Decides.{nat_tests}
use Rattle.std.proofs.lemmas.List.{length-map}
use Rattle.std.proofs.lemmas.List.Folds.{list_all-append}
use Rattle.std.proofs.lemmas.Simd.{length-zip2, length-replicate, mask_l-mod}
use Rattle.std.proofs.lemmas.Str.{IsUtf8-from_ascii, length-encode, len_utf8_bounds}
use lib.Lanes.{Each1, zip2, mask_l, top}
use Rattle.tc_model.specs.Names.{IsChars}
use Rattle.tc_model.specs.XmlTextBytes.{FrontOf}
use Rattle.tc_model.proofs.XmlTextChars.{join_chars, no_chars}
use Rattle.tc_scan.specs.Chars.{is_char_of_ascii, is_start_of_chars_only}
use Rattle.tc_scan.proofs.CharsLaws.{plain_text}
use Rattle.tc_scan.proofs.FrontLaws.{same_rest}

abbrev pub below : ℕ → ℕ → ℕ
below a b = cond (ltb a b) 255 0

abbrev pub at_least : ℕ → ℕ → ℕ
at_least a b = cond (leb a b) 255 0

abbrev pub same : ℕ → ℕ → ℕ
same a b = cond (eqb a b) 255 0

-- the lanes of a block of so many bytes that tell
abbrev pub lanes : ℕ → List ℕ → List ℕ
lanes n xs =
    zip2 bit_xor (zip2 bit_or (zip2 below xs (replicate n 32)) (zip2 at_least (replicate n 128) xs))
    (zip2 bit_or (zip2 same xs (replicate n 9)) (zip2 bit_or (zip2 same xs (replicate n 10)) (zip2 same xs (replicate n 13))))

abbrev lane : Bool → Bool → Bool → Bool → Bool → ℕ
lane t n r a b = bit_xor (bit_or (cond a 255 0) (cond b 255 0)) (bit_or (cond t 255 0) (bit_or (cond n 255 0) (cond r 255 0)))

printed : (x : ℕ) → 32 ≤ x → x < 128 → is_start_of_chars_only x ≡ true
printed x low high = grind (arith, nat_tests)

not_last : (x : ℕ) → 32 ≤ x → (x ≡ 239 → ⊥) → is_start_of_chars_only x ≡ true
not_last x low other = grind (arith, nat_tests)

plain_lane : (x : ℕ) → cond {A = ℕ} (top 7 (lane (eqb x 9) (eqb x 10) (eqb x 13) (ltb x 32) (leb 128 x))) 1 0 ≡ 0 → (is_start_of_chars_only x ≡ true) × (x < 128)
plain_lane x = by (eqb x 9) (eqb x 10) (eqb x 13) (ltb x 32) (leb 128 x) refl refl refl refl refl
  where
    is : (k : ℕ) → x ≡ k → (is_start_of_chars_only k ≡ true) × (k < 128) → (is_start_of_chars_only x ≡ true) × (x < 128)
    is k e h = subst (λ y. (is_start_of_chars_only y ≡ true) × (y < 128)) (sym e) h

    by : (t n r a b : Bool) → eqb x 9 ≡ t → eqb x 10 ≡ n → eqb x 13 ≡ r → ltb x 32 ≡ a → leb 128 x ≡ b → cond {A = ℕ} (top 7 (lane t n r a b)) 1 0 ≡ 0
        → (is_start_of_chars_only x ≡ true) × (x < 128)
    by true n r a b e f g h k z = is 9 (eqb-true x 9 e) (refl, omega arith)
    by false true r a b e f g h k z = is 10 (eqb-true x 10 f) (refl, omega arith)
    by false false true a b e f g h k z = is 13 (eqb-true x 13 g) (refl, omega arith)
    by false false false true true e f g h k z = absurd (omega arith)
    by false false false true false e f g h k z = absurd (omega arith)
    by false false false false true e f g h k z = absurd (omega arith)
    by false false false false false e f g h k z =
        let low : 32 ≤ x = omega (arith, ltb-false x 32 h) in
        let high : x < 128 = omega (arith, leb-false 128 x k) in
        (printed x low high, high)

plain_lanes : (xs : List ℕ) → mask_l (map (top 7) (lanes (length xs) xs)) ≡ 0 → (list_all is_start_of_chars_only xs ≡ true) × ((i : ℕ) → get_or xs i 0 < 128)
plain_lanes [] e = (refl, λ i. omega arith)
plain_lanes (x ∷ xs) e =
    let here = plain_lane x (omega arith) in
    let others = plain_lanes xs (omega arith) in
    (and_from (is_start_of_chars_only x) (list_all is_start_of_chars_only xs) here.0 others.0, elim [ zero ↦ here.1 | suc i ↦ others.1 i ])

both_long : (f : ℕ → ℕ → ℕ) (xs ys : List ℕ) → length xs ≡ 64 → length ys ≡ 64 → length (zip2 f xs ys) ≡ 64
both_long f xs ys p q = length-zip2 f xs ys (p ∙ sym q) ∙ p

lanes_long : (xs : List ℕ) → length xs ≡ 64 → length (lanes 64 xs) ≡ 64
lanes_long xs long =
    let with : (n : ℕ) → length (zip2 same xs (replicate 64 n)) ≡ 64 = λ n. both_long same xs (replicate 64 n) long (length-replicate 64 n) in
    both_long bit_xor _ _
    (both_long bit_or _ _ (both_long below xs (replicate 64 32) long refl) (both_long at_least (replicate 64 128) xs refl long))
    (both_long bit_or _ _ (with 9) (both_long bit_or _ _ (with 10) (with 13)))

-- a block in which no lane tells
pub plain_block : (xs : List ℕ) → length xs ≡ 64 → eqb (mask_l (map (top 7) (lanes 64 xs)) % 2 ^ 64) 0 ≡ true → IsChars xs
plain_block xs long e =
    let none : mask_l (map (top 7) (lanes 64 xs)) ≡ 0 =
    sym (mask_l-mod (map (top 7) (lanes 64 xs)) 64 (omega (arith, length-map (lanes 64 xs) (top 7), lanes_long xs long))) ∙ eqb-true _ _ e in
    let (starts, ascii) = plain_lanes xs (ap (λ n. mask_l (map (top 7) (lanes n xs))) long ∙ none) in
    plain_text xs (IsUtf8-from_ascii xs ascii) starts

-- ---- blocks of printed ASCII and LF

abbrev pub from_space : ℕ → ℕ → ℕ
from_space a b = (a + (256 - b)) % 256

abbrev pub printed_lanes : ℕ → List ℕ → List ℕ
printed_lanes n xs = zip2 bit_xor (zip2 at_least (replicate n 96) (zip2 from_space xs (replicate n 32))) (zip2 same xs (replicate n 10))

printed_lane : (x : ℕ) → x < 256 → cond {A = ℕ} (top 7 (bit_xor (cond (leb 96 (from_space x 32)) 255 0) (cond (eqb x 10) 255 0))) 1 0 ≡ 0 → (is_start_of_chars_only x ≡ true) × (x < 128)
printed_lane x l = by (leb 96 (from_space x 32)) (eqb x 10) refl refl
  where
    by : (a n : Bool) → leb 96 (from_space x 32) ≡ a → eqb x 10 ≡ n → cond {A = ℕ} (top 7 (bit_xor (cond a 255 0) (cond n 255 0))) 1 0 ≡ 0
        → (is_start_of_chars_only x ≡ true) × (x < 128)
    by a true e f z = subst (λ y. (is_start_of_chars_only y ≡ true) × (y < 128)) (sym (eqb-true x 10 f)) (refl, omega arith)
    by true false e f z = absurd (omega arith)
    by false false e f z =
        let few : (x + (256 - 32)) % 256 < 96 = omega (arith, leb-false 96 (from_space x 32) e) in
        let low : 32 ≤ x = omega (arith, few, l) in
        let high : x < 128 = omega (arith, few, l) in
        (printed x low high, high)

all_printed : (xs : List ℕ) → Each1 (Fits w8) xs → mask_l (map (top 7) (printed_lanes (length xs) xs)) ≡ 0 → (list_all is_start_of_chars_only xs ≡ true) × ((i : ℕ) → get_or xs i 0 < 128)
all_printed [] f e = (refl, λ i. omega arith)
all_printed (x ∷ xs) f e =
    let here = printed_lane x (omega (arith, f.0.fits)) (omega arith) in
    let others = all_printed xs f.1 (omega arith) in
    (and_from (is_start_of_chars_only x) (list_all is_start_of_chars_only xs) here.0 others.0, elim [ zero ↦ here.1 | suc i ↦ others.1 i ])

printed_lanes_long : (xs : List ℕ) → length xs ≡ 64 → length (printed_lanes 64 xs) ≡ 64
printed_lanes_long xs long =
    both_long bit_xor _ _
    (both_long at_least (replicate 64 96) _ refl (both_long from_space xs (replicate 64 32) long refl))
    (both_long same xs (replicate 64 10) long refl)

pub printed_block : (xs : List ℕ) → length xs ≡ 64 → Each1 (Fits w8) xs → eqb (mask_l (map (top 7) (printed_lanes 64 xs)) % 2 ^ 64) 0 ≡ true → IsChars xs
printed_block xs long fits e =
    let none : mask_l (map (top 7) (printed_lanes 64 xs)) ≡ 0 =
    sym (mask_l-mod (map (top 7) (printed_lanes 64 xs)) 64 (omega (arith, length-map (printed_lanes 64 xs) (top 7), printed_lanes_long xs long))) ∙ eqb-true _ _ e in
    let (starts, ascii) = all_printed xs fits (ap (λ n. mask_l (map (top 7) (printed_lanes n xs))) long ∙ none) in
    plain_text xs (IsUtf8-from_ascii xs ascii) starts

-- ---- bytes of ASCII

below_half : (x : ℕ) → nat_le x 127 ≡ true → x < 128
below_half x h = grind (arith, nat_tests)

ascii_starts : (xs : List ℕ) → list_all is_char_of_ascii xs ≡ true → (list_all is_start_of_chars_only xs ≡ true) × ((i : ℕ) → get_or xs i 0 < 128)
ascii_starts [] e = (refl, λ i. omega arith)
ascii_starts (x ∷ xs) e =
    let (here, more) = and_parts (is_char_of_ascii x) (list_all is_char_of_ascii xs) e in
    let (low, start) = and_parts (nat_le x 127) (is_start_of_chars_only x) here in
    let others = ascii_starts xs more in
    (and_from (is_start_of_chars_only x) (list_all is_start_of_chars_only xs) start others.0, elim [ zero ↦ below_half x low | suc i ↦ others.1 i ])

-- bytes that are each a character
pub ascii_chars : (xs : List ℕ) → list_all is_char_of_ascii xs ≡ true → IsChars xs
ascii_chars xs e = let (starts, ascii) = ascii_starts xs e in plain_text xs (IsUtf8-from_ascii xs ascii) starts

-- nothing stands in no bytes
pub front_of_none : (bytes : List ℕ) → length bytes ≡ 0 → FrontOf bytes []
front_of_none [] e = record { after = []; parts = refl; characters = no_chars; longest = λ c r f s. absurd (omega (arith, ap length f, length-append (encode_utf8 c) r, length-encode c, len_utf8_bounds c)) }
front_of_none (b ∷ bs) e = absurd (omega (arith, e))

-- ---- blocks that show that no character that XML lacks begins in them

abbrev pub start_lanes : ℕ → List ℕ → List ℕ
start_lanes n xs =
    zip2 bit_xor (zip2 bit_or (zip2 below xs (replicate n 32)) (zip2 same xs (replicate n 239)))
    (zip2 bit_or (zip2 same xs (replicate n 9)) (zip2 bit_or (zip2 same xs (replicate n 10)) (zip2 same xs (replicate n 13))))

start_lane : (x : ℕ) → cond {A = ℕ} (top 7 (lane (eqb x 9) (eqb x 10) (eqb x 13) (ltb x 32) (eqb x 239))) 1 0 ≡ 0 → is_start_of_chars_only x ≡ true
start_lane x = by (eqb x 9) (eqb x 10) (eqb x 13) (ltb x 32) (eqb x 239) refl refl refl refl refl
  where
    is : (k : ℕ) → x ≡ k → is_start_of_chars_only k ≡ true → is_start_of_chars_only x ≡ true
    is k e h = ap is_start_of_chars_only e ∙ h

    by : (t n r a b : Bool) → eqb x 9 ≡ t → eqb x 10 ≡ n → eqb x 13 ≡ r → ltb x 32 ≡ a → eqb x 239 ≡ b → cond {A = ℕ} (top 7 (lane t n r a b)) 1 0 ≡ 0
        → is_start_of_chars_only x ≡ true
    by true n r a b e f g h k z = is 9 (eqb-true x 9 e) refl
    by false true r a b e f g h k z = is 10 (eqb-true x 10 f) refl
    by false false true a b e f g h k z = is 13 (eqb-true x 13 g) refl
    by false false false true true e f g h k z = absurd (omega arith)
    by false false false true false e f g h k z = absurd (omega arith)
    by false false false false true e f g h k z = absurd (omega arith)
    by false false false false false e f g h k z = not_last x (omega (arith, ltb-false x 32 h)) (eqb-false x 239 k)

all_start : (xs : List ℕ) → mask_l (map (top 7) (start_lanes (length xs) xs)) ≡ 0 → list_all is_start_of_chars_only xs ≡ true
all_start [] e = refl
all_start (x ∷ xs) e = and_from (is_start_of_chars_only x) (list_all is_start_of_chars_only xs) (start_lane x (omega arith)) (all_start xs (omega arith))

start_lanes_long : (xs : List ℕ) → length xs ≡ 64 → length (start_lanes 64 xs) ≡ 64
start_lanes_long xs long =
    let with : (n : ℕ) → length (zip2 same xs (replicate 64 n)) ≡ 64 = λ n. both_long same xs (replicate 64 n) long (length-replicate 64 n) in
    both_long bit_xor _ _
    (both_long bit_or _ _ (both_long below xs (replicate 64 32) long refl) (with 239))
    (both_long bit_or _ _ (with 9) (both_long bit_or _ _ (with 10) (with 13)))

pub start_block : (xs : List ℕ) → length xs ≡ 64 → eqb (mask_l (map (top 7) (start_lanes 64 xs)) % 2 ^ 64) 0 ≡ true → list_all is_start_of_chars_only xs ≡ true
start_block xs long e =
    let none : mask_l (map (top 7) (start_lanes 64 xs)) ≡ 0 =
    sym (mask_l-mod (map (top 7) (start_lanes 64 xs)) 64 (omega (arith, length-map (start_lanes 64 xs) (top 7), start_lanes_long xs long))) ∙ eqb-true _ _ e in
    all_start xs (ap (λ n. mask_l (map (top 7) (start_lanes n xs))) long ∙ none)

pub one_more_start_block : (bytes : List ℕ) (at : ℕ) → list_all is_start_of_chars_only (take at bytes) ≡ true → list_all is_start_of_chars_only (take 64 (drop at bytes)) ≡ true
    → list_all is_start_of_chars_only (take (at + 64) bytes) ≡ true
one_more_start_block bytes at h k =
    ap (list_all is_start_of_chars_only) (take-add at 64 bytes)
    ∙ (list_all-append is_start_of_chars_only (take at bytes) (take 64 (drop at bytes)) ∙ and_from _ _ h k)

-- the bytes behind tell for all
pub all_behind : (bytes : List ℕ) (k : ℕ) → k ≤ length bytes → list_all is_start_of_chars_only (take k bytes) ≡ true
    → list_all is_start_of_chars_only (take (length bytes - k) (drop k bytes)) ≡ list_all is_start_of_chars_only bytes
all_behind bytes k l h =
    ap (list_all is_start_of_chars_only) (same_rest k bytes l)
    ∙ (sym (ap (λ b. b && list_all is_start_of_chars_only (drop k bytes)) h)
    ∙ (sym (list_all-append is_start_of_chars_only (take k bytes) (drop k bytes)) ∙ ap (list_all is_start_of_chars_only) (take-append-drop k bytes)))

-- ---- what blocks are joined to

-- one block more
pub one_more_block : (bytes : List ℕ) (at : ℕ) → IsChars (take at bytes) → IsChars (take 64 (drop at bytes)) → IsChars (take (at + 64) bytes)
one_more_block bytes at h k = subst IsChars (sym (take-add at 64 bytes)) (join_chars (take at bytes) (take 64 (drop at bytes)) h k)

-- one run more
pub one_more_run : (bytes : List ℕ) (at end : ℕ) → at ≤ end → IsChars (take at bytes) → IsChars (take (end - at) (drop at bytes)) → IsChars (take end bytes)
one_more_run bytes at end l h k =
    let e : at + (end - at) ≡ end = omega arith in
    subst (λ n. IsChars (take n bytes)) e (subst IsChars (sym (take-add at (end - at) bytes)) (join_chars (take at bytes) (take (end - at) (drop at bytes)) h k))

-- the front of what follows characters
pub front_behind : (bytes front : List ℕ) (k n : ℕ) → k ≤ length bytes → IsChars (take k bytes) → FrontOf (take (length bytes - k) (drop k bytes)) front → n ≡ k + length front → FrontOf bytes (take n bytes)
front_behind bytes front k n l h given e =
    let f = subst (λ w. FrontOf w front) (same_rest k bytes l) given in
    let is : take n bytes ≡ take k bytes ++ front =
    ap (λ m. take m bytes) e ∙ (take-add k (length front) bytes ∙ ap (λ w. take k bytes ++ w) (ap (take (length front)) f.parts ∙ take-append_seam front f.after)) in
    record {
      after = f.after;
      parts = sym (take-append-drop k bytes) ∙ (ap (λ w. take k bytes ++ w) f.parts ∙ (sym (append_assoc (take k bytes) front f.after) ∙ ap (λ w. w ++ f.after) (sym is)));
      characters = subst IsChars (sym is) (join_chars (take k bytes) front h f.characters);
      longest = f.longest;
    }
