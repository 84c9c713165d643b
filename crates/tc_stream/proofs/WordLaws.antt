-- Which words are kept, character by character.
use Rattle.std.proofs.Common.{◌≡◌, ℕ, zero, suc, ◌+◌, ◌<◌, ◌≤◌, Bool, true, false, cond, ◌&&◌, List, [], ◌∷◌, ◌++◌, refl, ap, ◌∙◌, sym, subst, length, take, arith, Option, None, Some, ltb, append-nil, length-append, length-take}
use Rattle.std.specs.Prelude.{encode_utf8, nat_lt, map}
use Rattle.std.specs.Char.{to_ascii_lowercase}
use Rattle.std.specs.Cmp.Lexicographic.{bytes_decides}
use Rattle.std.specs.Str.{str_eq_ignore_ascii_case, IsAscii, IsUtf8}
use Rattle.std.specs.List.{list_all}
use Rattle.std.proofs.lemmas.Bool.{and_parts, lt-ltb, le-ltb, ltb-true, ltb-false}
use Rattle.std.proofs.lemmas.List.{length-map}
use Rattle.std.proofs.lemmas.List.Folds.{list_all-append}
use Rattle.std.proofs.lemmas.Str.{char_from_byte, length-encode, len_utf8_bounds, IsUtf8-from_ascii}
use Rattle.tc_stream.specs.Kept.{kept, known}

abbrev pub low : ℕ → Bool
low b = nat_lt b 128

same_some : {v w : List ℕ} → Some v ≡ Some w → v ≡ w
same_some e = cc

not_none : {v : List ℕ} {o : Option (List ℕ)} → o ≡ Some v → o ≡ None → ⊥
not_none p q = cc

pub kept_short : (word : List ℕ) → length word ≤ 8 → list_all low word ≡ true → kept word ≡ Some word
kept_short word l e =
    ap (λ x. cond (x && list_all low word) (Some word) None) (lt-ltb (length word) 9 (omega (arith, l))) ∙ ap (λ x. cond x (Some word) None) e

pub kept_long : (word : List ℕ) → 8 < length word → kept word ≡ None
kept_long word l = ap (λ x. cond (x && list_all low word) (Some word) None) (le-ltb (length word) 9 (omega (arith, l)))

pub kept_strange : (word : List ℕ) → list_all low word ≡ false → kept word ≡ None
kept_strange word e = ap (λ x. cond (nat_lt (length word) 9 && x) (Some word) None) e ∙ by (nat_lt (length word) 9)
  where
    by : (x : Bool) → cond (x && false) (Some word) None ≡ None
    by true = refl
    by false = refl

-- a word that is kept is what is kept of it
pub kept_parts : (word v : List ℕ) → kept word ≡ Some v → (word ≡ v) × (length word ≤ 8) × (list_all low word ≡ true)
kept_parts word v e = by (ltb (length word) 9) (list_all low word) refl refl
  where
    by : (x y : Bool) → ltb (length word) 9 ≡ x → list_all low word ≡ y → (word ≡ v) × (length word ≤ 8) × (list_all low word ≡ true)
    by true true l h = let short : length word ≤ 8 = omega (arith, ltb-true (length word) 9 l) in (same_some (sym (kept_short word short h) ∙ e), short, h)
    by true false l h = absurd (not_none e (kept_strange word h))
    by false y l h = absurd (not_none e (kept_long word (omega (arith, ltb-false (length word) 9 l))))

-- bytes of ASCII are text in UTF-8

all_ascii : (w : List ℕ) → list_all low w ≡ true → IsAscii w
all_ascii [] h i = omega arith
all_ascii (b ∷ w) h zero = ltb-true b 128 (and_parts (low b) (list_all low w) h).0
all_ascii (b ∷ w) h (suc i) = all_ascii w (and_parts (low b) (list_all low w) h).1 i

pub kept_utf8 : (word v : List ℕ) → kept word ≡ Some v → IsUtf8 v
kept_utf8 word v e = let parts = kept_parts word v e in subst IsUtf8 parts.0 (IsUtf8-from_ascii word (all_ascii word parts.2))

-- where a word isn't kept, no longer one is
pub none_more : (word more : List ℕ) → kept word ≡ None → kept (word ++ more) ≡ None
none_more word more e = by (ltb (length word) 9) (list_all low word) refl refl
  where
    by : (x y : Bool) → ltb (length word) 9 ≡ x → list_all low word ≡ y → kept (word ++ more) ≡ None
    by true true l h = absurd (not_none (kept_short word (omega (arith, ltb-true (length word) 9 l)) h) e)
    by true false l h = kept_strange (word ++ more) (list_all-append low word more ∙ ap (λ x. x && list_all low more) h)
    by false y l h = kept_long (word ++ more) (omega (arith, ltb-false (length word) 9 l, length-append word more))

-- the first byte of a character beyond ASCII is none of ASCII
pub high_first : (c : ℕ) → 128 ≤ c → list_all low (encode_utf8 c) ≡ false
high_first c h = by (encode_utf8 c) refl
  where
    by : (w : List ℕ) → encode_utf8 c ≡ w → list_all low w ≡ false
    by [] is = absurd (omega (arith, ap length is, length-encode c, len_utf8_bounds c))
    by (b ∷ w) is = first (ltb b 128) refl
      where
        first : (x : Bool) → ltb b 128 ≡ x → list_all low (b ∷ w) ≡ false
        first true e =
            let same : c ≡ b = char_from_byte (b ∷ w) [] c (sym is ∙ sym (append-nil (encode_utf8 c))) (ltb-true b 128 e) (omega arith) in
            absurd (omega (arith, h, same, ltb-true b 128 e))
        first false e = ap (λ x. x && list_all low w) e

pub strange_more : (word : List ℕ) (c : ℕ) → 128 ≤ c → kept (word ++ encode_utf8 c) ≡ None
strange_more word c h = kept_strange (word ++ encode_utf8 c) (list_all-append low word (encode_utf8 c) ∙ (ap (λ x. list_all low word && x) (high_first c h) ∙ by (list_all low word)))
  where
    by : (x : Bool) → (x && false) ≡ false
    by true = refl
    by false = refl

-- one character more

some_byte : (c : ℕ) → 0 < length (encode_utf8 c)
some_byte c = omega (arith, length-encode c, len_utf8_bounds c)

known_is : (count : ℕ) (bytes : List ℕ) → count ≤ 8 → known count bytes ≡ Some (take count bytes)
known_is count bytes l = ap (λ x. cond x (Some (take count bytes)) None) (lt-ltb count 9 (omega (arith, l)))

known_none : (count : ℕ) (bytes : List ℕ) → 8 < count → known count bytes ≡ None
known_none count bytes l = ap (λ x. cond x (Some (take count bytes)) None) (le-ltb count 9 (omega (arith, l)))

pub full_more : (count : ℕ) (bytes word : List ℕ) (c : ℕ) → 8 ≤ count → length bytes ≡ 8 → known count bytes ≡ kept word → kept (word ++ encode_utf8 c) ≡ None
full_more count bytes word c l n e = by (ltb count 9) refl
  where
    by : (x : Bool) → ltb count 9 ≡ x → kept (word ++ encode_utf8 c) ≡ None
    by true is =
        let low_count = ltb-true count 9 is in
        let same = (kept_parts word (take count bytes) (sym e ∙ known_is count bytes (omega (arith, low_count)))).0 in
        kept_long (word ++ encode_utf8 c) (omega (arith, l, low_count, n, ap length same, length-take count bytes, length-append word (encode_utf8 c), some_byte c))
    by false is = none_more word (encode_utf8 c) (sym e ∙ known_none count bytes (omega (arith, ltb-false count 9 is)))

-- what isn't kept is no word that is

low_lower : (b : ℕ) → low (to_ascii_lowercase b) ≡ low b
low_lower b = by (ltb b 65) (ltb b 91) refl refl
  where
    by : (x y : Bool) → ltb b 65 ≡ x → ltb b 91 ≡ y → low (cond x b (cond y (b + 32) b)) ≡ low b
    by true y e f = refl
    by false true e f = lt-ltb (b + 32) 128 (omega (arith, ltb-true b 91 f)) ∙ sym (lt-ltb b 128 (omega (arith, ltb-true b 91 f)))
    by false false e f = refl

all_lower : (w : List ℕ) → list_all low (map to_ascii_lowercase w) ≡ list_all low w
all_lower [] = refl
all_lower (b ∷ w) = ap (λ x. x && list_all low (map to_ascii_lowercase w)) (low_lower b) ∙ ap (λ x. low b && x) (all_lower w)

pub not_kept_in_any_case : (written word : List ℕ) → kept written ≡ None → kept word ≡ Some word → str_eq_ignore_ascii_case written word ≡ false
not_kept_in_any_case written word e k = by (str_eq_ignore_ascii_case written word) refl
  where
    by : (x : Bool) → str_eq_ignore_ascii_case written word ≡ x → str_eq_ignore_ascii_case written word ≡ false
    by true is =
        let same : map to_ascii_lowercase written ≡ map to_ascii_lowercase word = (bytes_decides (map to_ascii_lowercase written) (map to_ascii_lowercase word)).0 is in
        let parts = kept_parts word word k in
        let long : length written ≡ length word = sym (length-map written to_ascii_lowercase) ∙ (ap length same ∙ length-map word to_ascii_lowercase) in
        let all : list_all low written ≡ true = sym (all_lower written) ∙ (ap (list_all low) same ∙ (all_lower word ∙ parts.2)) in
        absurd (not_none (kept_short written (omega (arith, long, parts.1)) all) e)
    by false is = is
