-- What a loop over a part of a stylesheet has found, one step at a time.
use Rattle.std.proofs.Common.{◌≡◌, ℕ, ◌+◌, ◌<◌, ◌≤◌, List, [], ◌++◌, map, flat_map, refl, ap, ◌∙◌, sym, Bor, length, get_or, drop, append_assoc, Result, Ok, Err, OnOk}
use Rattle.std.proofs.lemmas.List.{append-nil, drop_more, drop_all, get_or_default}
use Rattle.tc_model.specs.Views as see
use Rattle.tc_model.specs.Numberings as n
use Rattle.tc_model.specs.declared.sheet.Step.{Step}
use Rattle.tc_model.specs.declared.sheet.Test.{Test}
use Rattle.tc_model.proofs.ViewsPath.{left_step, left_alternative, left_test}

-- what follows from a result that is `Ok`
pub then_on_ok : {T E : Type 0} (r : Result T E) (P Q : Type 0) → (P → Q) → OnOk r P → OnOk r Q
then_on_ok (Ok x) P Q f h = f h
then_on_ok (Err e) P Q f h = h

module _ {X : Type 0} where
  -- one piece, and then the rest
  pub after_one : (old new piece rest whole : List X) → new ≡ old ++ piece → whole ≡ piece ++ rest → new ++ rest ≡ old ++ whole
  after_one old new piece rest whole put is = ap (λ l. l ++ rest) put ∙ (append_assoc old piece rest ∙ ap (λ l. old ++ l) (sym is))

  -- two pieces, and then the rest
  pub after_two : (old mid new first second rest whole : List X) → mid ≡ old ++ first → new ≡ mid ++ second → whole ≡ first ++ (second ++ rest) → new ++ rest ≡ old ++ whole
  after_two old mid new first second rest whole put again is =
      after_one mid new second rest (second ++ rest) again refl ∙ after_one old mid first (second ++ rest) whole put is

  -- a piece goes from what is left to what was found
  pub moved : (old new piece left rest whole : List X) → new ≡ old ++ piece → left ≡ piece ++ rest → old ++ left ≡ whole → new ++ rest ≡ whole
  moved old new piece left rest whole put front so_far =
      ap (λ l. l ++ rest) put ∙ (append_assoc old piece rest ∙ (ap (λ l. old ++ l) (sym front) ∙ so_far))

  -- two pieces
  pub moved_twice : (old mid new first second left rest whole : List X) → mid ≡ old ++ first → new ≡ mid ++ second → left ≡ first ++ (second ++ rest) → old ++ left ≡ whole → new ++ rest ≡ whole
  moved_twice old mid new first second left rest whole put again front so_far =
      moved mid new second (second ++ rest) rest whole again refl (moved old mid first left (second ++ rest) whole put front so_far)

  -- nothing is left
  pub nothing_left : (now rest whole : List X) → rest ≡ [] → now ++ rest ≡ whole → now ≡ whole
  nothing_left now rest whole is k = sym (append-nil now) ∙ (sym (ap (λ l. now ++ l) is) ∙ k)

  -- what is told of each in a list, one more, and at the end
  module _ {A B : Type 0} (tell : B → List X) (see : A → B) where
    pub told_one : (old now whole : List X) (xs : List A) (i : ℕ) (d : A) → i < length xs → now ≡ old ++ tell (see (get_or xs i d))
        → old ++ flat_map tell (map see (drop i xs)) ≡ whole → now ++ flat_map tell (map see (drop (i + 1) xs)) ≡ whole
    told_one old now whole xs i d l put so_far =
        moved old now (tell (see (get_or xs i d))) (flat_map tell (map see (drop i xs))) (flat_map tell (map see (drop (i + 1) xs))) whole put (ap (λ (ys : List A). flat_map tell (map see ys)) (drop_more xs i d l)) so_far

    pub told_item : (old now whole : List X) (xs : List A) (i : ℕ) (x : A) → i < length xs → x ≡ get_or xs i x → now ≡ old ++ tell (see x)
        → old ++ flat_map tell (map see (drop i xs)) ≡ whole → now ++ flat_map tell (map see (drop (i + 1) xs)) ≡ whole
    told_item old now whole xs i x l e put so_far = told_one old now whole xs i x l (put ∙ ap (λ (y : A). old ++ tell (see y)) e) so_far

    pub told_all : (now whole : List X) (xs : List A) (i : ℕ) → length xs ≤ i → now ++ flat_map tell (map see (drop i xs)) ≡ whole → now ≡ whole
    told_all now whole xs i l k = nothing_left now (flat_map tell (map see (drop i xs))) whole (ap (λ (ys : List A). flat_map tell (map see ys)) (drop_all i xs l)) k

pub predicate_steps : (xs : List Step) (i : ℕ) (x : Step) → i < length xs → x ≡ get_or xs i x
    → n.predicates_in_steps (see.steps (drop i xs)) ≡ n.as_predicate (see.test x.when) ++ (n.predicates_in_test (see.test x.when) ++ n.predicates_in_steps (see.steps (drop (i + 1) xs)))
predicate_steps xs i x h e = ap n.predicates_in_steps (left_step xs i x h e)

pub predicate_alternatives : (ws : List (Bor (List Step))) (i : ℕ) (x : Bor (List Step)) → i < length ws → x ≡ get_or ws i x
    → n.predicates_in_path (see.alternatives (drop i ws)) ≡ n.predicates_in_steps (see.steps x.now) ++ n.predicates_in_path (see.alternatives (drop (i + 1) ws))
predicate_alternatives ws i x h e = ap n.predicates_in_path (left_alternative ws i x h e)

pub predicate_tests : (ts : List Test) (i : ℕ) (x : Test) → i < length ts → x ≡ get_or ts i x
    → n.predicates_in_tests (see.tests (drop i ts)) ≡ n.predicates_in_test (see.test x) ++ n.predicates_in_tests (see.tests (drop (i + 1) ts))
predicate_tests ts i x h e = ap n.predicates_in_tests (left_test ts i x h e)

pub look_tests : (ts : List Test) (i : ℕ) (x : Test) → i < length ts → x ≡ get_or ts i x
    → n.looks_in_tests (see.tests (drop i ts)) ≡ n.looks_in_test (see.test x) ++ n.looks_in_tests (see.tests (drop (i + 1) ts))
look_tests ts i x h e = ap n.looks_in_tests (left_test ts i x h e)

-- the same at a place, whatever stands outside of a list
pub step_at : (xs : List Step) (i : ℕ) (d : Step) → i < length xs
    → n.predicates_in_steps (see.steps (drop i xs)) ≡ n.as_predicate (see.test (get_or xs i d).when) ++ (n.predicates_in_test (see.test (get_or xs i d).when) ++ n.predicates_in_steps (see.steps (drop (i + 1) xs)))
step_at xs i d h = predicate_steps xs i (get_or xs i d) h (get_or_default xs i d (get_or xs i d) h)

pub alternative_at : (ws : List (Bor (List Step))) (i : ℕ) (d : Bor (List Step)) → i < length ws
    → n.predicates_in_path (see.alternatives (drop i ws)) ≡ n.predicates_in_steps (see.steps (get_or ws i d).now) ++ n.predicates_in_path (see.alternatives (drop (i + 1) ws))
alternative_at ws i d h = predicate_alternatives ws i (get_or ws i d) h (get_or_default ws i d (get_or ws i d) h)

-- and behind the last
pub no_step_left : (xs : List Step) (i : ℕ) → length xs ≤ i → n.predicates_in_steps (see.steps (drop i xs)) ≡ []
no_step_left xs i h = ap (λ w. n.predicates_in_steps (see.steps w)) (drop_all i xs h)

pub no_alternative_left : (ws : List (Bor (List Step))) (i : ℕ) → length ws ≤ i → n.predicates_in_path (see.alternatives (drop i ws)) ≡ []
no_alternative_left ws i h = ap (λ w. n.predicates_in_path (see.alternatives w)) (drop_all i ws h)

pub no_test_left : (ts : List Test) (i : ℕ) → length ts ≤ i → n.predicates_in_tests (see.tests (drop i ts)) ≡ []
no_test_left ts i h = ap (λ w. n.predicates_in_tests (see.tests w)) (drop_all i ts h)

pub no_look_left : (ts : List Test) (i : ℕ) → length ts ≤ i → n.looks_in_tests (see.tests (drop i ts)) ≡ []
no_look_left ts i h = ap (λ w. n.looks_in_tests (see.tests w)) (drop_all i ts h)
