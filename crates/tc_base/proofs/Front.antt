-- The front of some bytes, and the characters that begin there.
use Rattle.std.proofs.Common.{◌≡◌, ◌<◌, ◌≤◌, ℕ, List, [], ◌∷◌, ◌++◌, get_or, sym, ap, ◌∙◌, subst, length, take, drop, min, arith, take-append-drop, encode_utf8, length-append, length-take, take-take, append_assoc}
use Rattle.std.proofs.Math.Seq.{take-append_seam}
use Rattle.std.specs.Str.{IsUtf8, IsValidUpTo}
use Rattle.std.specs.Char.{IsScalar}
use Rattle.std.proofs.Math.Utf8.{low_scalar}
use Rattle.std.proofs.lemmas.Str.{IsUtf8-encode, length-encode, len_utf8_bounds, encode_ascii}
use Rattle.tc_base.specs.Reading.{BeginsWithCharacter}

pub begins : (bs : List ℕ) (k : ℕ) → (rest : List ℕ) × (bs ≡ take k bs ++ rest)
begins bs k = (drop k bs, sym (take-append-drop k bs))

pub begins_twice : (bs : List ℕ) (k n : ℕ) → (rest : List ℕ) × (bs ≡ take n (take k bs) ++ rest)
begins_twice bs k n = (drop n (take k bs) ++ drop k bs, sym (sym (append_assoc (take n (take k bs)) (drop n (take k bs)) (drop k bs)) ∙ (ap (λ w. w ++ drop k bs) (take-append-drop n (take k bs)) ∙ take-append-drop k bs)))

-- a character takes one to four bytes
pub character_length : (c : ℕ) → (0 < length (encode_utf8 c)) × (length (encode_utf8 c) ≤ 4)
character_length c = (omega (arith, length-encode c, (len_utf8_bounds c).0), omega (arith, length-encode c, (len_utf8_bounds c).1))

-- where no front of the first four bytes is text, no character begins
pub no_character : (bs rest : List ℕ) (k n c : ℕ) → k ≡ min (length bs) 4 → IsValidUpTo (take k bs) n → take n (take k bs) ≡ [] → IsScalar c → bs ≡ encode_utf8 c ++ rest → ⊥
no_character bs rest k n c is up empty s e =
    let size = character_length c in
    let total = ap length e ∙ length-append (encode_utf8 c) rest in
    let fits : length (encode_utf8 c) ≤ k = omega arith in
    let zero_n : n ≡ 0 = omega (arith, up.short, ap length empty, length-take n (take k bs)) in
    let cut : take (length (encode_utf8 c)) (take k bs) ≡ encode_utf8 c = take-take (length (encode_utf8 c)) k bs fits ∙ (ap (take (length (encode_utf8 c))) e ∙ take-append_seam (encode_utf8 c) rest) in
    up.longest (length (encode_utf8 c)) (omega arith) (subst IsUtf8 (sym cut) (IsUtf8-encode c s))

-- where the first four bytes are none, no character begins
pub no_byte : (bs rest : List ℕ) (k c : ℕ) → k ≡ min (length bs) 4 → take k bs ≡ [] → bs ≡ encode_utf8 c ++ rest → ⊥
no_byte bs rest k c is empty e =
    let size = character_length c in
    let total = ap length e ∙ length-append (encode_utf8 c) rest in
    omega (arith, ap length empty, length-take k bs)

-- no character begins where there is no byte
pub nothing_begins : (bs : List ℕ) → length bs ≤ 0 → BeginsWithCharacter bs → ⊥
nothing_begins bs none b =
    let size = character_length b.0 in
    omega (arith, ap length b.3 ∙ length-append (encode_utf8 b.0) b.1)

-- a byte below 128 is the whole form of a character
pub one_byte : (bs : List ℕ) (b : ℕ) → 0 < length bs → b ≡ get_or bs 0 b → b < 128 → IsScalar b × ((after : List ℕ) × (bs ≡ encode_utf8 b ++ after))
one_byte [] b some e low = absurd (omega (arith, some))
one_byte (x ∷ xs) b some e low =
    (low_scalar b (omega arith), (xs, subst (λ w. x ∷ xs ≡ w ++ xs) (sym (encode_ascii b low)) (ap (λ w. w ∷ xs) (sym e))))
