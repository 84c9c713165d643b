-- All moves and looks of a well-formed stylesheet are well-formed paths.
use Rattle.std.proofs.Common.{ℕ, List, [], ◌∷◌, ◌++◌, map, flat_map}
use Rattle.tc_model.specs.Sheets.{Steps, no_step, step, Path, no_alternative, alternative, Test, always, never, has, negated, all_of, any_of, Tests, no_test, test, MatchPattern, root_pattern, steps_pattern, Body, no_instruction, put_text, put_element, copy, apply, call, for_each, value, value_of_self, choose, Branches, otherwise, branch, Rule, Sheet}
use Rattle.tc_model.specs.WellFormed.{IsSheet, IsBody, AreBranches, IsRule, IsPath, AreSteps, IsTest, AreTests, IsMatchPattern}
use Rattle.tc_model.specs.Meaning.{all_children}
use Rattle.tc_model.specs.Numbered.{numbers_below}
use Rattle.tc_model.specs.Numberings.{Move, same_move, as_predicate, predicates_in_steps, predicates_in_path, predicates_in_test, predicates_in_tests, predicates_in_pattern, predicates_in_body, predicates_in_branches, predicates_of, moves_in_body, moves_in_branches, moves_of, looks_in_test, looks_in_tests, looks_in_body, looks_in_branches, looks_of}
use Rattle.tc_model.specs.SameTests.{same_path, same_test}
use Rattle.tc_alpha.proofs.Members.{Every, every_append, every_from_all}
use Rattle.tc_rules.proofs.Sameness.{path_same, path_self, test_same, test_self, move_same, move_self, every_kept}

as_test : (t : Test) → IsTest t → Every IsTest (as_predicate t)
as_test always h = tt
as_test never h = (h, tt)
as_test (has p) h = (h, tt)
as_test (negated t) h = (h, tt)
as_test (all_of ts) h = (h, tt)
as_test (any_of ts) h = (h, tt)

joined : {X : Type 0} (P : X → Type 0) (xs ys : List X) → Every P xs → Every P ys → Every P (xs ++ ys)
joined P xs ys a b = every_append P xs ys a b

mutual
  steps_tests : (x : Steps) → AreSteps x → Every IsTest (predicates_in_steps x)
  steps_tests no_step h = tt
  steps_tests (step d t w x) h =
      joined IsTest (as_predicate w) (predicates_in_test w ++ predicates_in_steps x) (as_test w h.1) (joined IsTest (predicates_in_test w) (predicates_in_steps x) (test_tests w h.1) (steps_tests x h.2))

  path_tests : (p : Path) → IsPath p → Every IsTest (predicates_in_path p)
  path_tests no_alternative h = tt
  path_tests (alternative x p) h = joined IsTest (predicates_in_steps x) (predicates_in_path p) (steps_tests x h.1) (path_tests p h.2)

  test_tests : (t : Test) → IsTest t → Every IsTest (predicates_in_test t)
  test_tests always h = tt
  test_tests never h = tt
  test_tests (has p) h = path_tests p h
  test_tests (negated t) h = test_tests t h
  test_tests (all_of ts) h = tests_tests ts h
  test_tests (any_of ts) h = tests_tests ts h

  tests_tests : (ts : Tests) → AreTests ts → Every IsTest (predicates_in_tests ts)
  tests_tests no_test h = tt
  tests_tests (test t ts) h = joined IsTest (predicates_in_test t) (predicates_in_tests ts) (test_tests t h.0) (tests_tests ts h.1)

pattern_tests : (p : MatchPattern) → IsMatchPattern p → Every IsTest (predicates_in_pattern p)
pattern_tests root_pattern h = tt
pattern_tests (steps_pattern x) h = steps_tests x h.1

mutual
  test_looks : (t : Test) → IsTest t → Every IsPath (looks_in_test t)
  test_looks always h = tt
  test_looks never h = tt
  test_looks (has p) h = (h, tt)
  test_looks (negated t) h = test_looks t h
  test_looks (all_of ts) h = tests_looks ts h
  test_looks (any_of ts) h = tests_looks ts h

  tests_looks : (ts : Tests) → AreTests ts → Every IsPath (looks_in_tests ts)
  tests_looks no_test h = tt
  tests_looks (test t ts) h = joined IsPath (looks_in_test t) (looks_in_tests ts) (test_looks t h.0) (tests_looks ts h.1)

-- what holds of each holds of what each gives
gathered : {X Y : Type 0} (R : X → Type 0) (S : Y → Type 0) (f : X → List Y) (xs : List X) → ((x : X) → R x → Every S (f x)) → Every R xs → Every S (flat_map f xs)
gathered R S f [] g h = tt
gathered R S f (x ∷ xs) g h = every_append S (f x) (flat_map f xs) (g x h.0) (gathered R S f xs g h.1)

abbrev pub MovesPath : Move → Type 0
MovesPath m = IsPath m.path

module _ (z : Sheet) where
  mutual
    body_tests : (b : Body) → IsBody z b → Every IsTest (predicates_in_body b)
    body_tests no_instruction k = tt
    body_tests (put_text w b) k = body_tests b k.1
    body_tests (put_element n inner b) k = joined IsTest (predicates_in_body inner) (predicates_in_body b) (body_tests inner k.1) (body_tests b k.2)
    body_tests (copy inner b) k = joined IsTest (predicates_in_body inner) (predicates_in_body b) (body_tests inner k.0) (body_tests b k.1)
    body_tests (apply p m b) k = joined IsTest (predicates_in_path p) (predicates_in_body b) (path_tests p k.0) (body_tests b k.2)
    body_tests (call n b) k = body_tests b k.1
    body_tests (value p b) k = joined IsTest (predicates_in_path p) (predicates_in_body b) (path_tests p k.0) (body_tests b k.1)
    body_tests (value_of_self b) k = body_tests b k
    body_tests (choose w b) k = joined IsTest (predicates_in_branches w) (predicates_in_body b) (branch_tests w k.0) (body_tests b k.1)
    body_tests (for_each e p inner b) k =
        joined IsTest (predicates_in_path p) (predicates_in_body inner ++ predicates_in_body b) (path_tests p k.1) (joined IsTest (predicates_in_body inner) (predicates_in_body b) (body_tests inner k.2) (body_tests b k.3))

    branch_tests : (w : Branches) → AreBranches z w → Every IsTest (predicates_in_branches w)
    branch_tests (otherwise b) k = body_tests b k
    branch_tests (branch t b w) k =
        joined IsTest (predicates_in_test t) (predicates_in_body b ++ predicates_in_branches w) (test_tests t k.0) (joined IsTest (predicates_in_body b) (predicates_in_branches w) (body_tests b k.1) (branch_tests w k.2))

  mutual
    body_looks : (b : Body) → IsBody z b → Every IsPath (looks_in_body b)
    body_looks no_instruction k = tt
    body_looks (put_text w b) k = body_looks b k.1
    body_looks (put_element n inner b) k = joined IsPath (looks_in_body inner) (looks_in_body b) (body_looks inner k.1) (body_looks b k.2)
    body_looks (copy inner b) k = joined IsPath (looks_in_body inner) (looks_in_body b) (body_looks inner k.0) (body_looks b k.1)
    body_looks (apply p m b) k = body_looks b k.2
    body_looks (call n b) k = body_looks b k.1
    body_looks (value p b) k = (k.0, body_looks b k.1)
    body_looks (value_of_self b) k = body_looks b k
    body_looks (choose w b) k = joined IsPath (looks_in_branches w) (looks_in_body b) (branch_looks w k.0) (body_looks b k.1)
    body_looks (for_each e p inner b) k = joined IsPath (looks_in_body inner) (looks_in_body b) (body_looks inner k.2) (body_looks b k.3)

    branch_looks : (w : Branches) → AreBranches z w → Every IsPath (looks_in_branches w)
    branch_looks (otherwise b) k = body_looks b k
    branch_looks (branch t b w) k =
        joined IsPath (looks_in_test t) (looks_in_body b ++ looks_in_branches w) (test_looks t k.0) (joined IsPath (looks_in_body b) (looks_in_branches w) (body_looks b k.1) (branch_looks w k.2))

  module _ (modes : ℕ) where
    mutual
      body_moves : (b : Body) → IsBody z b → Every MovesPath (moves_in_body modes b)
      body_moves no_instruction k = tt
      body_moves (put_text w b) k = body_moves b k.1
      body_moves (put_element n inner b) k = joined MovesPath (moves_in_body modes inner) (moves_in_body modes b) (body_moves inner k.1) (body_moves b k.2)
      body_moves (copy inner b) k = joined MovesPath (moves_in_body modes inner) (moves_in_body modes b) (body_moves inner k.0) (body_moves b k.1)
      body_moves (apply p m b) k = (k.0, body_moves b k.2)
      body_moves (call n b) k = body_moves b k.1
      body_moves (value p b) k = body_moves b k.1
      body_moves (value_of_self b) k = body_moves b k
      body_moves (choose w b) k = joined MovesPath (moves_in_branches modes w) (moves_in_body modes b) (branch_moves w k.0) (body_moves b k.1)
      body_moves (for_each e p inner b) k = (k.1, joined MovesPath (moves_in_body modes inner) (moves_in_body modes b) (body_moves inner k.2) (body_moves b k.3))

      branch_moves : (w : Branches) → AreBranches z w → Every MovesPath (moves_in_branches modes w)
      branch_moves (otherwise b) k = body_moves b k
      branch_moves (branch t b w) k = joined MovesPath (moves_in_body modes b) (moves_in_branches modes w) (body_moves b k.1) (branch_moves w k.2)

  module _ (h : IsSheet z) where
    every_rule : Every (IsRule z) z.rules
    every_rule = every_from_all (IsRule z) z.rules h.rules

    every_named : Every (IsBody z) z.named
    every_named = every_from_all (IsBody z) z.named h.named

    built_in_path : (ms : List ℕ) → Every MovesPath (map (λ m. record { path = all_children; mode = m }) ms)
    built_in_path [] = tt
    built_in_path (m ∷ ms) = ((λ e. cc, (tt, tt, tt), tt), built_in_path ms)

    pub moves_lawful : Every MovesPath (moves_of z)
    moves_lawful =
        let first = map (λ m. record { path = all_children; mode = m }) (numbers_below z.modes) in
        let by_rules = flat_map (λ (r : Rule). moves_in_body z.modes r.body) z.rules in
        let by_names = flat_map (moves_in_body z.modes) z.named in
        every_kept same_move move_same move_self MovesPath [] (first ++ (by_rules ++ by_names))
        (every_append MovesPath first (by_rules ++ by_names) (built_in_path (numbers_below z.modes))
        (every_append MovesPath by_rules by_names (gathered (IsRule z) MovesPath (λ (r : Rule). moves_in_body z.modes r.body) z.rules (λ r k. body_moves z.modes r.body k.body) every_rule)
        (gathered (IsBody z) MovesPath (moves_in_body z.modes) z.named (λ b k. body_moves z.modes b k) every_named)))

    predicates_lawful : Every IsTest (predicates_of z)
    predicates_lawful =
        let by_rules = flat_map (λ (r : Rule). predicates_in_pattern r.pattern ++ predicates_in_body r.body) z.rules in
        let by_names = flat_map predicates_in_body z.named in
        every_kept same_test test_same test_self IsTest [] (by_rules ++ by_names)
        (every_append IsTest by_rules by_names
        (gathered (IsRule z) IsTest (λ (r : Rule). predicates_in_pattern r.pattern ++ predicates_in_body r.body) z.rules
        (λ r k. every_append IsTest (predicates_in_pattern r.pattern) (predicates_in_body r.body) (pattern_tests r.pattern k.pattern) (body_tests r.body k.body)) every_rule)
        (gathered (IsBody z) IsTest predicates_in_body z.named (λ b k. body_tests b k) every_named))

    pub looks_lawful : Every IsPath (looks_of z)
    looks_lawful =
        let by_rules = flat_map (λ (r : Rule). looks_in_body r.body) z.rules in
        let by_names = flat_map looks_in_body z.named in
        let by_predicates = flat_map looks_in_test (predicates_of z) in
        every_kept same_path path_same path_self IsPath [] (by_rules ++ (by_names ++ by_predicates))
        (every_append IsPath by_rules (by_names ++ by_predicates) (gathered (IsRule z) IsPath (λ (r : Rule). looks_in_body r.body) z.rules (λ r k. body_looks r.body k.body) every_rule)
        (every_append IsPath by_names by_predicates (gathered (IsBody z) IsPath looks_in_body z.named (λ b k. body_looks b k) every_named)
        (gathered IsTest IsPath looks_in_test (predicates_of z) (λ t k. test_looks t k) predicates_lawful)))
