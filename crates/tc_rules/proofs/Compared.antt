-- Two lists of one length side by side.
use Rattle.std.proofs.Common.{◌≡◌, ℕ, suc, ◌+◌, ◌<◌, ◌≤◌, List, [], ◌∷◌, refl, ap, ◌∙◌, sym, Bool, true, false, ◌&&◌, length, drop, get_or, arith, Bor}
use Rattle.std.proofs.lemmas.List.{drop_all, get_or_default}
use Rattle.tc_model.specs.declared.sheet.Step.{Step}
use Rattle.tc_model.specs.declared.sheet.Test.{Test}
use Rattle.tc_model.specs.Sheets as s
use Rattle.tc_model.specs.Views.{test, tests, steps, alternatives, node_test}
use Rattle.tc_model.specs.SameTests.{same_truth, same_node_test, same_steps, same_path, same_test, same_tests}
use Rattle.tc_model.proofs.ViewsPath.{left_step, left_alternative, left_test}

and_false : (a : Bool) → (a && false) ≡ false
and_false true = refl
and_false false = refl

-- lists of different lengths are not the same
pub steps_differ : (xs ys : List Step) → (length xs ≡ length ys → ⊥) → same_steps (steps xs) (steps ys) ≡ false
steps_differ [] [] n = absurd (n refl)
steps_differ [] (y ∷ ys) n = refl
steps_differ (x ∷ xs) [] n = refl
steps_differ (x ∷ xs) (y ∷ ys) n =
    let here = same_truth x.deep y.deep in
    let test_here = same_node_test (node_test x.test) (node_test y.test) in
    let when_here = same_test (test x.when) (test y.when) in
    ap (λ r. here && (test_here && (when_here && r))) (steps_differ xs ys (λ e. n (ap suc e)))
    ∙ (ap (λ r. here && (test_here && r)) (and_false when_here) ∙ (ap (λ r. here && r) (and_false test_here) ∙ and_false here))

pub alternatives_differ : (xs ys : List (Bor (List Step))) → (length xs ≡ length ys → ⊥) → same_path (alternatives xs) (alternatives ys) ≡ false
alternatives_differ [] [] n = absurd (n refl)
alternatives_differ [] (y ∷ ys) n = refl
alternatives_differ (x ∷ xs) [] n = refl
alternatives_differ (x ∷ xs) (y ∷ ys) n =
    let here = same_steps (steps x.now) (steps y.now) in
    ap (λ r. here && r) (alternatives_differ xs ys (λ e. n (ap suc e))) ∙ and_false here

pub tests_differ : (xs ys : List Test) → (length xs ≡ length ys → ⊥) → same_tests (tests xs) (tests ys) ≡ false
tests_differ [] [] n = absurd (n refl)
tests_differ [] (y ∷ ys) n = refl
tests_differ (x ∷ xs) [] n = refl
tests_differ (x ∷ xs) (y ∷ ys) n =
    let here = same_test (test x) (test y) in
    ap (λ r. here && r) (tests_differ xs ys (λ e. n (ap suc e))) ∙ and_false here

-- nothing is left of either
nothing_left : {X : Type 0} {Y : Type 0} (f : List X → List X → Y) (xs ys : List X) (i : ℕ) → length xs ≤ i → length xs ≡ length ys → f (drop i xs) (drop i ys) ≡ f [] []
nothing_left f xs ys i l e =
    let over : length ys ≤ i = omega (arith, l, e) in
    ap (λ w. f w (drop i ys)) (drop_all i xs l) ∙ ap (λ w. f [] w) (drop_all i ys over)

pub steps_over : (xs ys : List Step) (i : ℕ) → length xs ≤ i → length xs ≡ length ys → same_steps (steps (drop i xs)) (steps (drop i ys)) ≡ true
steps_over xs ys i l e = nothing_left (λ us vs. same_steps (steps us) (steps vs)) xs ys i l e

pub alternatives_over : (xs ys : List (Bor (List Step))) (i : ℕ) → length xs ≤ i → length xs ≡ length ys → same_path (alternatives (drop i xs)) (alternatives (drop i ys)) ≡ true
alternatives_over xs ys i l e = nothing_left (λ us vs. same_path (alternatives us) (alternatives vs)) xs ys i l e

pub tests_over : (xs ys : List Test) (i : ℕ) → length xs ≤ i → length xs ≡ length ys → same_tests (tests (drop i xs)) (tests (drop i ys)) ≡ true
tests_over xs ys i l e = nothing_left (λ us vs. same_tests (tests us) (tests vs)) xs ys i l e

-- the next of both lists
pub steps_next : (xs ys : List Step) (i : ℕ) (x y : Step) (r : Bool) → i < length xs → x ≡ get_or xs i x → i < length ys → y ≡ get_or ys i y
    → ((u v : s.Steps) → same_steps (s.step x.deep (node_test x.test) (test x.when) u) (s.step y.deep (node_test y.test) (test y.when) v) ≡ (r && same_steps u v))
    → same_steps (steps (drop i xs)) (steps (drop i ys)) ≡ (r && same_steps (steps (drop (i + 1) xs)) (steps (drop (i + 1) ys)))
steps_next xs ys i x y r l e k f h =
    ap (λ w. same_steps w (steps (drop i ys))) (left_step xs i x l e)
    ∙ (ap (λ w. same_steps (s.step x.deep (node_test x.test) (test x.when) (steps (drop (i + 1) xs))) w) (left_step ys i y k f) ∙ h (steps (drop (i + 1) xs)) (steps (drop (i + 1) ys)))

pub alternatives_next : (xs ys : List (Bor (List Step))) (i : ℕ) (x y : Bor (List Step)) → i < length xs → x ≡ get_or xs i x → i < length ys → y ≡ get_or ys i y
    → same_path (alternatives (drop i xs)) (alternatives (drop i ys)) ≡ (same_steps (steps x.now) (steps y.now) && same_path (alternatives (drop (i + 1) xs)) (alternatives (drop (i + 1) ys)))
alternatives_next xs ys i x y l e k f =
    ap (λ w. same_path w (alternatives (drop i ys))) (left_alternative xs i x l e) ∙ ap (λ w. same_path (s.alternative (steps x.now) (alternatives (drop (i + 1) xs))) w) (left_alternative ys i y k f)

pub tests_next : (xs ys : List Test) (i : ℕ) (x y : Test) → i < length xs → x ≡ get_or xs i x → i < length ys → y ≡ get_or ys i y
    → same_tests (tests (drop i xs)) (tests (drop i ys)) ≡ (same_test (test x) (test y) && same_tests (tests (drop (i + 1) xs)) (tests (drop (i + 1) ys)))
tests_next xs ys i x y l e k f =
    ap (λ w. same_tests w (tests (drop i ys))) (left_test xs i x l e) ∙ ap (λ w. same_tests (s.test (test x) (tests (drop (i + 1) xs))) w) (left_test ys i y k f)

-- once the next of both lists were looked at: they are the same, or they aren't
module _ (xs ys : List Step) (i j : ℕ) (d e : Step) (r all : Bool) (at : j ≡ i) (l : i < length xs) (same : length xs ≡ length ys)
    (h : (u v : s.Steps) → same_steps (s.step (get_or xs i d).deep (node_test (get_or xs i d).test) (test (get_or xs i d).when) u) (s.step (get_or ys j e).deep (node_test (get_or ys j e).test) (test (get_or ys j e).when) v) ≡ (r && same_steps u v))
    (k : all ≡ same_steps (steps (drop i xs)) (steps (drop i ys))) where
  steps_go : all ≡ (r && same_steps (steps (drop (i + 1) xs)) (steps (drop (i + 1) ys)))
  steps_go =
      let inside : i < length ys = omega (arith, l, same) in
      k ∙ steps_next xs ys i (get_or xs i d) (get_or ys j e) r l (get_or_default xs i d (get_or xs i d) l) inside (ap (λ n. get_or ys n e) at ∙ get_or_default ys i e (get_or ys j e) inside) h

  pub steps_kept : r ≡ true → all ≡ same_steps (steps (drop (i + 1) xs)) (steps (drop (i + 1) ys))
  steps_kept f = steps_go ∙ ap (λ b. b && same_steps (steps (drop (i + 1) xs)) (steps (drop (i + 1) ys))) f

  pub steps_broken : r ≡ false → false ≡ all
  steps_broken f = sym (steps_go ∙ ap (λ b. b && same_steps (steps (drop (i + 1) xs)) (steps (drop (i + 1) ys))) f)

module _ (xs ys : List (Bor (List Step))) (i j : ℕ) (d e : Bor (List Step)) (r all : Bool) (at : j ≡ i) (l : i < length xs) (same : length xs ≡ length ys)
    (h : r ≡ same_steps (steps (get_or xs i d).now) (steps (get_or ys j e).now)) (k : all ≡ same_path (alternatives (drop i xs)) (alternatives (drop i ys))) where
  alternatives_go : all ≡ (r && same_path (alternatives (drop (i + 1) xs)) (alternatives (drop (i + 1) ys)))
  alternatives_go =
      let inside : i < length ys = omega (arith, l, same) in
      k
      ∙ (alternatives_next xs ys i (get_or xs i d) (get_or ys j e) l (get_or_default xs i d (get_or xs i d) l) inside (ap (λ n. get_or ys n e) at ∙ get_or_default ys i e (get_or ys j e) inside)
      ∙ ap (λ b. b && same_path (alternatives (drop (i + 1) xs)) (alternatives (drop (i + 1) ys))) (sym h))

  pub alternatives_kept : r ≡ true → all ≡ same_path (alternatives (drop (i + 1) xs)) (alternatives (drop (i + 1) ys))
  alternatives_kept f = alternatives_go ∙ ap (λ b. b && same_path (alternatives (drop (i + 1) xs)) (alternatives (drop (i + 1) ys))) f

  pub alternatives_broken : r ≡ false → false ≡ all
  alternatives_broken f = sym (alternatives_go ∙ ap (λ b. b && same_path (alternatives (drop (i + 1) xs)) (alternatives (drop (i + 1) ys))) f)

module _ (xs ys : List Test) (i j : ℕ) (x y : Test) (r all : Bool) (at : j ≡ i) (l : i < length xs) (same : length xs ≡ length ys) (of_x : x ≡ get_or xs i x) (of_y : y ≡ get_or ys j y)
    (h : r ≡ same_test (test x) (test y)) (k : all ≡ same_tests (tests (drop i xs)) (tests (drop i ys))) where
  tests_go : all ≡ (r && same_tests (tests (drop (i + 1) xs)) (tests (drop (i + 1) ys)))
  tests_go =
      k
      ∙ (tests_next xs ys i x y l of_x (omega (arith, l, same)) (of_y ∙ ap (λ n. get_or ys n y) at)
      ∙ ap (λ b. b && same_tests (tests (drop (i + 1) xs)) (tests (drop (i + 1) ys))) (sym h))

  pub tests_kept : r ≡ true → all ≡ same_tests (tests (drop (i + 1) xs)) (tests (drop (i + 1) ys))
  tests_kept f = tests_go ∙ ap (λ b. b && same_tests (tests (drop (i + 1) xs)) (tests (drop (i + 1) ys))) f

  pub tests_broken : r ≡ false → false ≡ all
  tests_broken f = sym (tests_go ∙ ap (λ b. b && same_tests (tests (drop (i + 1) xs)) (tests (drop (i + 1) ys))) f)
