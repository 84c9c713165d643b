-- States are the same where their truth values are, and a set of rows is a list of which each stands once.
use Rattle.std.proofs.Common.{◌≡◌, ℕ, suc, ◌+◌, List, [], ◌∷◌, ◌++◌, Bool, true, false, ◌&&◌, ◌||◌, not, cond, refl, ap, sym, ◌∙◌, length, Some, slice_get, if◌then◌else◌, arith}
use Rattle.std.specs.List.{list_any, position_or_len}
use Rattle.std.specs.Cmp.Lexicographic.{pointwise}
use Rattle.std.proofs.lemmas.List.{length-map}
use Rattle.tc_model.specs.SameTests.{same_truth}
use Rattle.tc_model.specs.PathStates.{State, same_state}
use Rattle.tc_rules.specs.Once.{put_once}
use Rattle.tc_rules.specs.Rows.{words, all_words}
use Rattle.tc_rules.specs.Words.{same_words}
use Rattle.tc_rules.specs.declared.rows.Row.{Row}
use Rattle.tc_rules.proofs.LeadRows.{words_same}
use Rattle.tc_rules.proofs.Pieces.{mapped_at}

truth_same : (a b : Bool) → same_truth a b ≡ true → a ≡ b
truth_same true true e = refl
truth_same true false e = sym e
truth_same false true e = e
truth_same false false e = refl

truth_self : (a : Bool) → same_truth a a ≡ true
truth_self true = refl
truth_self false = refl

and_parts : (a b : Bool) → (a && b) ≡ true → (a ≡ true) × (b ≡ true)
and_parts true b e = (refl, e)
and_parts false b e = absurd (cc)

module _ {X : Type 0} (E : X → X → Bool) where
  pointwise_same : ((x y : X) → E x y ≡ true → x ≡ y) → (xs ys : List X) → pointwise E xs ys ≡ true → xs ≡ ys
  pointwise_same same [] [] e = refl
  pointwise_same same [] (y ∷ ys) e = absurd (cc)
  pointwise_same same (x ∷ xs) [] e = absurd (cc)
  pointwise_same same (x ∷ xs) (y ∷ ys) e =
      let (a, b) = and_parts (E x y) (pointwise E xs ys) e in
      ap (λ w. w ∷ xs) (same x y a) ∙ ap (λ w. y ∷ w) (pointwise_same same xs ys b)

  pointwise_self : ((x : X) → E x x ≡ true) → (xs : List X) → pointwise E xs xs ≡ true
  pointwise_self self [] = refl
  pointwise_self self (x ∷ xs) = ap (λ b. b && pointwise E xs xs) (self x) ∙ pointwise_self self xs

pub state_same : (x y : State) → same_state x y ≡ true → x ≡ y
state_same = pointwise_same (pointwise same_truth) (pointwise_same same_truth truth_same)

pub state_self : (x : State) → same_state x x ≡ true
state_self = pointwise_self (pointwise same_truth) (pointwise_self same_truth truth_self)

-- how the code compares rows
abbrev pub same_row : Row → Row → Bool
same_row a b = same_words (words a) (words b)

-- a row is there where its words are
pub any_row : (r : Row) (xs : List Row) → list_any (same_row r) xs ≡ list_any (same_words (words r)) (all_words xs)
any_row r [] = refl
any_row r (x ∷ xs) = ap (λ b. same_row r x || b) (any_row r xs)

words_push : (xs : List Row) (r : Row) → all_words (xs ++ r ∷ []) ≡ all_words xs ++ words r ∷ []
words_push [] r = refl
words_push (x ∷ xs) r = ap (λ w. words x ∷ w) (words_push xs r)

-- a row is put last, unless it is there
pub row_put : (xs : List Row) (r : Row) → all_words (if list_any (same_row r) xs then xs else (xs ++ r ∷ [])) ≡ put_once same_words (all_words xs) (words r)
row_put xs r = by (list_any (same_row r) xs) (any_row r xs)
  where
    by : (b : Bool) → b ≡ list_any (same_words (words r)) (all_words xs) → all_words (if b then xs else (xs ++ r ∷ [])) ≡ put_once same_words (all_words xs) (words r)
    by true e = ap (λ (b : Bool). if b then (all_words xs) else (all_words xs ++ words r ∷ [])) e
    by false e = words_push xs r ∙ ap (λ (b : Bool). if b then (all_words xs) else (all_words xs ++ words r ∷ [])) e

-- the words of what stands there
pub row_stored : (r : Row) (xs : List Row) (i : ℕ) → (k : Row) × (slice_get xs i ≡ Some k) × (same_row r k ≡ true) → slice_get (all_words xs) i ≡ Some (words r)
row_stored r xs i h = mapped_at words xs i h.0 h.1 ∙ ap Some (sym (words_same (words r) (words h.0) h.2))

absent_place : (r : Row) (xs : List Row) → list_any (same_row r) xs ≡ false → position_or_len (same_row r) xs ≡ length xs
absent_place r [] e = refl
absent_place r (x ∷ xs) e = by (same_row r x) e (absent_place r xs)
  where
    by : (b : Bool) → (b || list_any (same_row r) xs) ≡ false → (list_any (same_row r) xs ≡ false → position_or_len (same_row r) xs ≡ length xs)
        → cond (not b) (1 + position_or_len (same_row r) xs) 0 ≡ suc (length xs)
    by true f k = absurd (cc)
    by false f k = let l = k f in omega (arith, l)

-- and a new one stands last
pub row_last : (r : Row) (xs : List Row) (i : ℕ) → i ≡ position_or_len (same_row r) xs → list_any (same_words (words r)) (all_words xs) ≡ false → i ≡ length (all_words xs)
row_last r xs i f g = f ∙ (absent_place r xs (any_row r xs ∙ g) ∙ sym (length-map xs words))
