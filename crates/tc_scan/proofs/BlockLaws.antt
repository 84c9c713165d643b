-- How many bytes stand before the first one that a test marks, by blocks of 32.
use Rattle.std.proofs.Common.{◌≡◌, ℕ, zero, suc, ◌+◌, ◌-◌, ◌%◌, ◌^◌, ◌<◌, ◌≤◌, Bool, true, false, cond, eqb, not, ◌||◌, ◌==◌, List, [], ◌∷◌, ◌++◌, map, length, take, drop, replicate, bit_or, refl, ap, ◌∙◌, sym, arith, take-append-drop, length-drop}
use Rattle.std.specs.List.{prefix_len}
use Rattle.std.proofs.lemmas.Bool.{eqb-true, eq-eqb}
use Rattle.std.proofs.lemmas.List.{length-map, length-take-le, drop-drop}
use Rattle.std.proofs.lemmas.List.Folds.{prefix_len-append}
use Rattle.std.proofs.lemmas.List.Sums.{prefix_len-le-length}
use Rattle.std.proofs.lemmas.Simd.{mask_l-mod, leading_from_mask_l, trailing_mask_l}
use lib.Count.{count_trailing_zeros}
use lib.Lanes.{zip2, mask_l, top}
use Rattle.tc_scan.proofs.FrontLaws.{same_rest}

abbrev same : ℕ → ℕ → ℕ
same a b = cond (eqb a b) 255 0

-- the lanes of a block of so many bytes that `<` and `&` mark, and those that `]` and CR mark as well
abbrev plain_marks : ℕ → List ℕ → List ℕ
plain_marks n xs = zip2 bit_or (zip2 same xs (replicate n 60)) (zip2 same xs (replicate n 38))

abbrev clear_marks : ℕ → List ℕ → List ℕ
clear_marks n xs = zip2 bit_or (plain_marks n xs) (zip2 bit_or (zip2 same xs (replicate n 93)) (zip2 same xs (replicate n 13)))

abbrev is_markup : ℕ → Bool
is_markup b = b == 0x3C || b == 0x26

abbrev is_mark : ℕ → Bool
is_mark b = b == 0x3C || b == 0x26 || b == 0x5D || b == 0xD

markup_lane : (x : ℕ) → top 7 (bit_or (same x 60) (same x 38)) ≡ is_markup x
markup_lane x = by (eqb x 60) (eqb x 38)
  where
    by : (a b : Bool) → top 7 (bit_or (cond a 255 0) (cond b 255 0)) ≡ (a || b)
    by true true = refl
    by true false = refl
    by false true = refl
    by false false = refl

mark_lane : (x : ℕ) → top 7 (bit_or (bit_or (same x 60) (same x 38)) (bit_or (same x 93) (same x 13))) ≡ is_mark x
mark_lane x = by (eqb x 60) (eqb x 38) (eqb x 93) (eqb x 13)
  where
    by : (a b c d : Bool) → top 7 (bit_or (bit_or (cond a 255 0) (cond b 255 0)) (bit_or (cond c 255 0) (cond d 255 0))) ≡ (a || b || c || d)
    by true true true true = refl
    by true true true false = refl
    by true true false true = refl
    by true true false false = refl
    by true false true true = refl
    by true false true false = refl
    by true false false true = refl
    by true false false false = refl
    by false true true true = refl
    by false true true false = refl
    by false true false true = refl
    by false true false false = refl
    by false false true true = refl
    by false false true false = refl
    by false false false true = refl
    by false false false false = refl

markup_lanes : (xs : List ℕ) → map (top 7) (plain_marks (length xs) xs) ≡ map is_markup xs
markup_lanes [] = refl
markup_lanes (x ∷ xs) = ap (λ b. b ∷ map (top 7) (plain_marks (length xs) xs)) (markup_lane x) ∙ ap (λ w. is_markup x ∷ w) (markup_lanes xs)

mark_lanes : (xs : List ℕ) → map (top 7) (clear_marks (length xs) xs) ≡ map is_mark xs
mark_lanes [] = refl
mark_lanes (x ∷ xs) = ap (λ b. b ∷ map (top 7) (clear_marks (length xs) xs)) (mark_lane x) ∙ ap (λ w. is_mark x ∷ w) (mark_lanes xs)

-- a block whose lanes tell where a test marks its bytes
pub record Marks (p : ℕ → Bool) (xs lanes : List ℕ) : Type 0 where
  pub long : length xs ≡ 32
  pub told : map (top 7) lanes ≡ map p xs

pub plain_told : (xs : List ℕ) → length xs ≡ 32 → Marks is_markup xs (plain_marks 32 xs)
plain_told xs long = record { long = long; told = ap (λ n. map (top 7) (plain_marks n xs)) (sym long) ∙ markup_lanes xs }

pub clear_told : (xs : List ℕ) → length xs ≡ 32 → Marks is_mark xs (clear_marks 32 xs)
clear_told xs long = record { long = long; told = ap (λ n. map (top 7) (clear_marks n xs)) (sym long) ∙ mark_lanes xs }

positive : (n : ℕ) → (n ≡ 0 → ⊥) → 0 < n
positive zero h = absurd (h refl)
positive (suc n) h = omega arith

module _ (p : ℕ → Bool) (xs lanes : List ℕ) (h : Marks p xs lanes) where
  mask_is : mask_l (map (top 7) lanes) % 2 ^ 64 ≡ mask_l (map p xs)
  mask_is = ap (λ w. mask_l w % 2 ^ 64) h.told ∙ mask_l-mod (map p xs) 64 (omega (arith, length-map xs p, h.long))

  -- none is marked
  pub none_marked : mask_l (map (top 7) lanes) % 2 ^ 64 ≡ 0 → 32 ≡ prefix_len (λ b. not (p b)) xs
  none_marked e = sym h.long ∙ sym (leading_from_mask_l p xs (sym mask_is ∙ e))

  -- the first that is
  pub first_marked : (mask_l (map (top 7) lanes) % 2 ^ 64 ≡ 0 → ⊥) → count_trailing_zeros 64 (mask_l (map (top 7) lanes) % 2 ^ 64) ≡ prefix_len (λ b. not (p b)) xs
  first_marked e =
      let some : mask_l (map p xs) ≡ 0 → ⊥ = λ z. e (mask_is ∙ z) in
      ap (count_trailing_zeros 64) mask_is ∙ trailing_mask_l p 64 xs (omega (arith, h.long)) (positive (mask_l (map p xs)) some)

  pub first_within : (mask_l (map (top 7) lanes) % 2 ^ 64 ≡ 0 → ⊥) → count_trailing_zeros 64 (mask_l (map (top 7) lanes) % 2 ^ 64) ≤ 32
  first_within e = omega (arith, h.long, first_marked e, prefix_len-le-length (λ b. not (p b)) xs)

-- ---- what blocks are joined to

module _ (p : ℕ → Bool) where
  front_full : (xs ys : List ℕ) → length xs ≡ 32 → 32 ≡ prefix_len p xs → prefix_len p (xs ++ ys) ≡ 32 + prefix_len p ys
  front_full xs ys long e =
      prefix_len-append p xs ys
      ∙ (ap (λ b. cond b (length xs + prefix_len p ys) (prefix_len p xs)) (eq-eqb (prefix_len p xs) (length xs) (sym e ∙ sym long)) ∙ ap (λ n. n + prefix_len p ys) long)

  front_short : (xs ys : List ℕ) → length xs ≡ 32 → prefix_len p xs < 32 → prefix_len p (xs ++ ys) ≡ prefix_len p xs
  front_short xs ys long l = prefix_len-append p xs ys ∙ by (eqb (prefix_len p xs) (length xs)) refl
    where
      by : (b : Bool) → eqb (prefix_len p xs) (length xs) ≡ b → cond b (length xs + prefix_len p ys) (prefix_len p xs) ≡ prefix_len p xs
      by true e = absurd (omega (arith, eqb-true _ _ e, long, l))
      by false e = refl

  -- one more block of them
  pub past_block : (bytes : List ℕ) (at : ℕ) → at + prefix_len p (drop at bytes) ≡ prefix_len p bytes → at + 32 ≤ length bytes → prefix_len p (take 32 (drop at bytes)) ≡ 32
      → at + 32 + prefix_len p (drop (at + 32) bytes) ≡ prefix_len p bytes
  past_block bytes at h l b =
      let block = take 32 (drop at bytes) in
      let behind = drop 32 (drop at bytes) in
      let long : length block ≡ 32 = length-take-le 32 (drop at bytes) (omega (arith, length-drop at bytes)) in
      let split : prefix_len p (drop at bytes) ≡ 32 + prefix_len p behind =
      ap (prefix_len p) (sym (take-append-drop 32 (drop at bytes))) ∙ front_full block behind long (sym b) in
      let same : prefix_len p behind ≡ prefix_len p (drop (at + 32) bytes) = ap (prefix_len p) (drop-drop 32 at bytes) in
      omega (arith, h, split, same)

  -- a block with another byte
  pub within_block : (bytes : List ℕ) (at : ℕ) → at + prefix_len p (drop at bytes) ≡ prefix_len p bytes → at + 32 ≤ length bytes → prefix_len p (take 32 (drop at bytes)) < 32
      → at + prefix_len p (take 32 (drop at bytes)) ≡ prefix_len p bytes
  within_block bytes at h l b =
      let block = take 32 (drop at bytes) in
      let behind = drop 32 (drop at bytes) in
      let long : length block ≡ 32 = length-take-le 32 (drop at bytes) (omega (arith, length-drop at bytes)) in
      let split : prefix_len p (drop at bytes) ≡ prefix_len p block =
      ap (prefix_len p) (sym (take-append-drop 32 (drop at bytes))) ∙ front_short block behind long b in
      omega (arith, h, split)

  -- what stands behind the blocks
  pub past_blocks : (bytes : List ℕ) (at n : ℕ) → at + prefix_len p (drop at bytes) ≡ prefix_len p bytes → at ≤ length bytes → n ≡ prefix_len p (take (length bytes - at) (drop at bytes)) → at + n ≡ prefix_len p bytes
  past_blocks bytes at n h l e = omega (arith, h, e ∙ ap (prefix_len p) (same_rest at bytes l))

  pub whole_within : (bytes : List ℕ) (n : ℕ) → n ≡ prefix_len p bytes → n ≤ length bytes
  whole_within bytes n e = omega (arith, e, prefix_len-le-length p bytes)
