-- The value of digits, the size of pieces and that of a demonstration.
use Rattle.std.proofs.Common.{◌≡◌, ◌≤◌, ◌<◌, ◌+◌, ◌*◌, ◌-◌, ℕ, List, [], ◌∷◌, length, drop, get_or, arith, ap, ◌∙◌, ◌==◌, sym, Bool, true, false, Option, Some, None, Bor, eq-eqb, slice_get}
use Rattle.std.specs.Option.{option_eq, option_copied}
use Rattle.std.proofs.lemmas.Bool.{eqb-true, true≢false}
use Rattle.std.proofs.lemmas.List.{drop_more, drop_all}
use Rattle.tc_answer.specs.Words.{value_from, Words, validates_in_pieces, shows, valid_in_pieces, demo}
use Rattle.tc_answer.specs.declared.limits.TheConstants.{MOST_DEMO}

-- more digits never make it less
pub value_from-le : (value : ℕ) (digits : List ℕ) → value ≤ value_from value digits
value_from-le value [] = omega arith
value_from-le value (digit ∷ digits) = omega (arith, value_from-le (value * 10 + (digit - 48)) digits)

-- one digit on
pub value_from-drop_more : (value : ℕ) (digits : List ℕ) (i d : ℕ) → i < length digits → value_from value (drop i digits) ≡ value_from (value * 10 + (get_or digits i d - 48)) (drop (i + 1) digits)
value_from-drop_more value digits i d h = ap (value_from value) (drop_more digits i d h)

-- the first item of a list, by a test of it
pub first_differs : (first : Option (Bor ℕ)) (item : Bor ℕ) (xs : List ℕ) (result : Bool) → option_copied first ≡ slice_get xs 0 → result ≡ option_eq (λ (x y : Bor ℕ). x.now == y.now) first (Some item) → result ≡ false
    → slice_get xs 0 ≡ Some item.now → ⊥
first_differs None item xs result copied says differs e = let h = copied ∙ e in absurd (cc)
first_differs (Some x) item xs result copied says differs e =
    let h = copied ∙ e in
    let same : x.now ≡ item.now = cc in
    true≢false (sym (says ∙ eq-eqb x.now item.now same) ∙ differs)

pub first_agrees : (first : Option (Bor ℕ)) (item : Bor ℕ) (xs : List ℕ) (result : Bool) → option_copied first ≡ slice_get xs 0 → result ≡ option_eq (λ (x y : Bor ℕ). x.now == y.now) first (Some item) → result ≡ true
    → slice_get xs 0 ≡ Some item.now
first_agrees None item xs result copied says agrees = absurd (cc)
first_agrees (Some x) item xs result copied says agrees = sym copied ∙ ap Some (eqb-true x.now item.now (sym says ∙ agrees))

-- no digit is left
pub value_from-end : (value : ℕ) (digits : List ℕ) (i : ℕ) → length digits ≤ i → value_from value (drop i digits) ≡ value
value_from-end value digits i h = ap (value_from value) (drop_all i digits h)

-- a demonstration has from 1 to so many elements
pub demo_size : {words : List (List ℕ)} {size : ℕ} → Words words (demo size) → (1 ≤ size) × (size ≤ MOST_DEMO)
demo_size (shows p s) = (s.at_least, s.at_most)

-- a piece has a byte at least
pub piece_size : {words : List (List ℕ)} {size : ℕ} {schema document : List ℕ} → Words words (valid_in_pieces size schema document) → 1 ≤ size
piece_size (validates_in_pieces p (numeral, parts, spelled) a x) = spelled.at_least
