-- How many bytes a character has is told by its first byte.
use Rattle.std.proofs.Common.{◌≡◌, ℕ, ◌+◌, ◌/◌, ◌%◌, ◌<◌, ◌≤◌, Bool, true, false, cond, List, [], ◌∷◌, ◌++◌, refl, ap, ◌∙◌, sym, subst, length, take, arith, ltb, append_assoc, append-nil, length-append}
use Rattle.std.specs.Prelude.{encode_utf8, encode_utf8_all, slice_index}
use Rattle.std.specs.List.{list_all}
use Rattle.std.proofs.Math.Seq.{take-append_seam}
use Rattle.std.proofs.Math.Utf8.{encode}
use Rattle.std.proofs.lemmas.Bool.{and_parts, lt-ltb, le-ltb, ltb-true, ltb-false}
use Rattle.std.proofs.lemmas.Bool.Decides.{nat_tests}
use Rattle.std.proofs.lemmas.Str.{length-encode, len_utf8_bounds}
use Rattle.tc_base.specs.Characters.{is_char}
use Rattle.tc_model.specs.Names.{IsChars}
use Rattle.tc_model.specs.XmlTextBytes.{FrontOf}
use Rattle.tc_model.proofs.XmlTextPhrases.{same_first}
use Rattle.tc_stream.specs.Cuts.{char_length, BeginsNoChar}

one_byte : (b : ℕ) → b < 194 → char_length b ≡ 1
one_byte b l = ap (λ x. cond x 1 (cond (ltb b 224) 2 (cond (ltb b 240) 3 (cond (ltb b 245) 4 1)))) (lt-ltb b 194 l)

two_bytes : (b : ℕ) → 194 ≤ b → b < 224 → char_length b ≡ 2
two_bytes b l h =
    ap (λ x. cond x 1 (cond (ltb b 224) 2 (cond (ltb b 240) 3 (cond (ltb b 245) 4 1)))) (le-ltb b 194 l)
    ∙ ap (λ x. cond x 2 (cond (ltb b 240) 3 (cond (ltb b 245) 4 1))) (lt-ltb b 224 h)

three_bytes : (b : ℕ) → 224 ≤ b → b < 240 → char_length b ≡ 3
three_bytes b l h =
    let low : 194 ≤ b = omega (arith, l) in
    ap (λ x. cond x 1 (cond (ltb b 224) 2 (cond (ltb b 240) 3 (cond (ltb b 245) 4 1)))) (le-ltb b 194 low)
    ∙ (ap (λ x. cond x 2 (cond (ltb b 240) 3 (cond (ltb b 245) 4 1))) (le-ltb b 224 l) ∙ ap (λ x. cond x 3 (cond (ltb b 245) 4 1)) (lt-ltb b 240 h))

four_bytes : (b : ℕ) → 240 ≤ b → b < 245 → char_length b ≡ 4
four_bytes b l h =
    let low : 194 ≤ b = omega (arith, l) in
    let middle : 224 ≤ b = omega (arith, l) in
    ap (λ x. cond x 1 (cond (ltb b 224) 2 (cond (ltb b 240) 3 (cond (ltb b 245) 4 1)))) (le-ltb b 194 low)
    ∙ (ap (λ x. cond x 2 (cond (ltb b 240) 3 (cond (ltb b 245) 4 1))) (le-ltb b 224 middle)
    ∙ (ap (λ x. cond x 3 (cond (ltb b 245) 4 1)) (le-ltb b 240 l) ∙ ap (λ x. cond x 4 1) (lt-ltb b 245 h)))

char_at_most : (c : ℕ) → is_char c ≡ true → c ≤ 0x10FFFF
char_at_most c h = grind (arith, nat_tests)

first_length : (c : ℕ) → is_char c ≡ true → char_length (slice_index (encode_utf8 c) 0) ≡ length (encode_utf8 c)
unfolding encode
first_length c h = by (ltb c 128) (ltb c 2048) (ltb c 65536) refl refl refl
  where
    by : (x y z : Bool) → ltb c 128 ≡ x → ltb c 2048 ≡ y → ltb c 65536 ≡ z
        → char_length (slice_index (cond x (c ∷ []) (cond y ((192 + c / 64) ∷ (128 + c % 64) ∷ []) (cond z ((224 + c / 4096) ∷ (128 + c / 64 % 64) ∷ (128 + c % 64) ∷ []) ((240 + c / 262144) ∷ (128 + c / 4096 % 64) ∷ (128 + c / 64 % 64) ∷ (128 + c % 64) ∷ [])))) 0)
        ≡ length (cond x (c ∷ []) (cond y ((192 + c / 64) ∷ (128 + c % 64) ∷ []) (cond z ((224 + c / 4096) ∷ (128 + c / 64 % 64) ∷ (128 + c % 64) ∷ []) ((240 + c / 262144) ∷ (128 + c / 4096 % 64) ∷ (128 + c / 64 % 64) ∷ (128 + c % 64) ∷ []))))
    by true y z e f g = one_byte c (omega (arith, ltb-true c 128 e))
    by false true z e f g = two_bytes (192 + c / 64) (omega (arith, ltb-false c 128 e)) (omega (arith, ltb-true c 2048 f))
    by false false true e f g = three_bytes (224 + c / 4096) (omega arith) (omega (arith, ltb-true c 65536 g))
    by false false false e f g = four_bytes (240 + c / 262144) (omega arith) (omega (arith, char_at_most c h))

-- the bytes of a character at the front are as many as the first byte says
pub same_length : (b : ℕ) (rest r : List ℕ) (c : ℕ) → b ∷ rest ≡ encode_utf8 c ++ r → is_char c ≡ true → length (encode_utf8 c) ≡ char_length b
same_length b rest r c e h = by (encode_utf8 c) refl (first_length c h)
  where
    by : (w : List ℕ) → encode_utf8 c ≡ w → char_length (slice_index w 0) ≡ length w → length (encode_utf8 c) ≡ char_length b
    by [] is k = absurd (omega (arith, ap length is, length-encode c, len_utf8_bounds c))
    by (x ∷ w) is k =
        let first : b ≡ x = same_first (e ∙ ap (λ v. v ++ r) is) in
        ap length is ∙ (sym k ∙ ap char_length (sym first))

-- some first bytes of a character
pub short_cut : (b : ℕ) (rest : List ℕ) → length (b ∷ rest) < char_length b → BeginsNoChar (b ∷ rest)
short_cut b rest l c r e h = omega (arith, l, same_length b rest r c e h, ap length e, length-append (encode_utf8 c) r)

same_front : (xs ys r s : List ℕ) → length xs ≡ length ys → xs ++ r ≡ ys ++ s → xs ≡ ys
same_front xs ys r s n e = sym (take-append_seam xs r) ∙ (ap (take (length xs)) e ∙ (ap (λ k. take k (ys ++ s)) n ∙ take-append_seam ys s))

-- as many bytes as the first one says, and no character
pub bad_cut : (b : ℕ) (rest : List ℕ) → length (b ∷ rest) ≡ char_length b → FrontOf (b ∷ rest) [] → (r : List ℕ) → BeginsNoChar ((b ∷ rest) ++ r)
bad_cut b rest n f r c s e h =
    let same : b ∷ rest ≡ encode_utf8 c = same_front (b ∷ rest) (encode_utf8 c) r s (n ∙ sym (same_length b (rest ++ r) s c e h)) e in
    f.longest c [] (sym f.parts ∙ (same ∙ sym (append-nil (encode_utf8 c)))) h

-- as many bytes as the first one says, and a character
pub whole_cut : (b : ℕ) (rest text : List ℕ) → length (b ∷ rest) ≡ char_length b → FrontOf (b ∷ rest) text → 0 < length text → text ≡ b ∷ rest
whole_cut b rest text n f some = by f.characters
  where
    none_behind : (after : List ℕ) → length after ≡ 0 → text ++ after ≡ text
    none_behind [] e = append-nil text
    none_behind (x ∷ after) e = absurd (omega (arith, e))

    by : IsChars text → text ≡ b ∷ rest
    by ([], is, h) = absurd (omega (arith, some, ap length is))
    by (c ∷ cs, is, h) =
        let first = (and_parts (is_char c) (list_all is_char cs) h).0 in
        let whole : b ∷ rest ≡ encode_utf8 c ++ (encode_utf8_all cs ++ f.after) = f.parts ∙ (ap (λ w. w ++ f.after) (sym is) ∙ append_assoc (encode_utf8 c) (encode_utf8_all cs) f.after) in
        let long = same_length b rest (encode_utf8_all cs ++ f.after) c whole first in
        sym (f.parts ∙ none_behind f.after (omega (arith, n, long, ap length whole, length-append (encode_utf8 c) (encode_utf8_all cs ++ f.after), length-append (encode_utf8_all cs) f.after)))

-- the same of any bytes of which there is one

pub short_front : (bytes : List ℕ) → 0 < length bytes → length bytes < char_length (slice_index bytes 0) → BeginsNoChar bytes
short_front [] some l = absurd (omega (arith, some))
short_front (b ∷ rest) some l = short_cut b rest l

pub bad_front : (bytes : List ℕ) → 0 < length bytes → length bytes ≡ char_length (slice_index bytes 0) → FrontOf bytes [] → (r : List ℕ) → BeginsNoChar (bytes ++ r)
bad_front [] some n f = absurd (omega (arith, some))
bad_front (b ∷ rest) some n f = bad_cut b rest n f

pub whole_front_is : (bytes text : List ℕ) → 0 < length bytes → length bytes ≡ char_length (slice_index bytes 0) → FrontOf bytes text → 0 < length text → (text ≡ bytes) × IsChars bytes
whole_front_is [] text some n f k = absurd (omega (arith, some))
whole_front_is (b ∷ rest) text some n f k = let same = whole_cut b rest text n f k in (same, subst IsChars same f.characters)

pub bad_front_is : (bytes text : List ℕ) → 0 < length bytes → length bytes ≡ char_length (slice_index bytes 0) → FrontOf bytes text → length text ≤ 0 → (r : List ℕ) → BeginsNoChar (bytes ++ r)
bad_front_is bytes [] some n f k = bad_front bytes some n f
bad_front_is bytes (b ∷ text) some n f k = absurd (omega (arith, k))
