-- Where no item of a state is left, nothing is a hit and none comes further down.
use Rattle.std.proofs.Common.{◌≡◌, List, [], ◌∷◌, refl, Bool, true, false, not, ◌&&◌, ◌||◌}
use Rattle.std.specs.List.{list_any}
use Rattle.tc_model.specs.Chains.{Tree}
use Rattle.tc_model.specs.Sheets.{Steps, no_step, step, Path, no_alternative, alternative, Test}
use Rattle.tc_model.specs.Machine.{picks}
use Rattle.tc_model.specs.Symbols.{Mention}
use Rattle.tc_model.specs.Letters.{Letter, fits_letter, letter_of}
use Rattle.tc_model.specs.PathStates.{Items, State, is_empty_state, further, ends, next_state, is_hit}
use Rattle.tc_rules.specs.PathLaws.{EmptySelectsNone}

abbrev some_of : Items → Bool
some_of items = list_any (λ b. b) items

first_is_false : (a b : Bool) → (a || b) ≡ false → a ≡ false
first_is_false true b e = e
first_is_false false b e = refl

second_is_false : (a b : Bool) → (a || b) ≡ false → b ≡ false
second_is_false true b e = cc
second_is_false false b e = e

neither : (a b : Bool) → a ≡ false → b ≡ false → (a || b) ≡ false
neither a b e f = cc

and_false : (a b : Bool) → a ≡ false → (a && b) ≡ false
and_false a b e = cc

first_is_true : (a b : Bool) → (a && b) ≡ true → a ≡ true
first_is_true true b e = refl
first_is_true false b e = e

second_is_true : (a b : Bool) → (a && b) ≡ true → b ≡ true
second_is_true true b e = e
second_is_true false b e = cc

both_true : (a b : Bool) → a ≡ true → b ≡ true → (a && b) ≡ true
both_true a b e f = cc

not_some : (b : Bool) → not b ≡ true → b ≡ false
not_some true e = cc
not_some false e = refl

so_none : (b : Bool) → b ≡ false → not b ≡ true
so_none b e = cc

module _ (symbols : List Mention) (predicates : List Test) where
  ends_none : (ss : Steps) (items : Items) (l : Letter) → some_of items ≡ false → ends symbols predicates ss items l ≡ false
  ends_none no_step items l e = refl
  ends_none (step d t w ss) [] l e = refl
  ends_none (step d t w no_step) (b ∷ items) l e = and_false b (fits_letter symbols predicates t w l) (first_is_false b (some_of items) e)
  ends_none (step d t w (step f u v ss)) (b ∷ items) l e = ends_none (step f u v ss) items l (second_is_false b (some_of items) e)

  further_none : (ss : Steps) (l : Letter) (comes : Bool) (items : Items) → comes ≡ false → some_of items ≡ false → some_of (further symbols predicates ss l comes items) ≡ false
  further_none no_step l comes items c e = refl
  further_none (step d t w ss) l comes [] c e = neither comes (some_of (further symbols predicates ss l false [])) c (further_none ss l false [] refl refl)
  further_none (step d t w ss) l comes (b ∷ items) c e =
      let no : b ≡ false = first_is_false b (some_of items) e in
      neither ((b && d) || comes) (some_of (further symbols predicates ss l (b && fits_letter symbols predicates t w l) items))
      (neither (b && d) comes (and_false b d no) c)
      (further_none ss l (b && fits_letter symbols predicates t w l) items (and_false b (fits_letter symbols predicates t w l) no) (second_is_false b (some_of items) e))

  pub hit_none : (p : Path) (x : State) (l : Letter) → is_empty_state x ≡ true → is_hit symbols predicates p x l ≡ false
  hit_none no_alternative x l e = refl
  hit_none (alternative ss p) [] l e = refl
  hit_none (alternative ss p) (items ∷ x) l e =
      neither (ends symbols predicates ss items l) (is_hit symbols predicates p x l)
      (ends_none ss items l (not_some (some_of items) (first_is_true (not (some_of items)) (is_empty_state x) e)))
      (hit_none p x l (second_is_true (not (some_of items)) (is_empty_state x) e))

  pub next_none : (p : Path) (x : State) (l : Letter) → is_empty_state x ≡ true → is_empty_state (next_state symbols predicates p x l) ≡ true
  next_none no_alternative x l e = refl
  next_none (alternative ss p) [] l e = refl
  next_none (alternative ss p) (items ∷ x) l e =
      both_true (not (some_of (further symbols predicates ss l false items))) (is_empty_state (next_state symbols predicates p x l))
      (so_none (some_of (further symbols predicates ss l false items))
      (further_none ss l false items refl (not_some (some_of items) (first_is_true (not (some_of items)) (is_empty_state x) e))))
      (next_none p x l (second_is_true (not (some_of items)) (is_empty_state x) e))

  picks_none : (p : Path) (x : State) (ts : List Tree) → is_empty_state x ≡ true
      → picks (letter_of symbols predicates) (next_state symbols predicates p) (is_hit symbols predicates p) x ts ≡ false
  picks_none p x [] e = refl
  picks_none p x (t ∷ []) e = hit_none p x (letter_of symbols predicates t) e
  picks_none p x (t ∷ u ∷ us) e =
      let l = letter_of symbols predicates t in
      picks_none p (next_state symbols predicates p x l) (u ∷ us) (next_none p x l e)

pub empty_selects_none : EmptySelectsNone
empty_selects_none symbols predicates p x ts e = picks_none symbols predicates p x ts e
