-- What holds of all node tests of a stylesheet holds of those of the paths by which it goes.
use Rattle.std.proofs.Common.{ℕ, List, [], ◌∷◌, ◌++◌, Bool, map, flat_map}
use Rattle.tc_model.specs.Sheets as s
use Rattle.tc_model.specs.Sheets.{NodeTest, Steps, Path, Test, Tests, MatchPattern, Body, Branches, Rule, Sheet}
use Rattle.tc_model.specs.Meaning.{all_children}
use Rattle.tc_model.specs.Symbols.{in_steps, in_path, in_test, in_tests, in_pattern, in_body, in_branches, node_tests}
use Rattle.tc_model.specs.Numbered.{numbers_below}
use Rattle.tc_model.specs.SameTests.{same_test, same_path}
use Rattle.tc_model.specs.PathStates.{steps_of, path_of_rules}
use Rattle.tc_model.specs.Numberings.{as_predicate, predicates_in_steps, predicates_in_path, predicates_in_test, predicates_in_tests, predicates_in_pattern, predicates_in_body, predicates_in_branches, predicates_of, Move, same_move, moves_in_body, moves_in_branches, moves_of, looks_in_test, looks_in_tests, looks_in_body, looks_in_branches, looks_of}
use Rattle.tc_alpha.proofs.Members.{Every, every_append, every_front, every_back}
use Rattle.tc_rules.proofs.Sameness.{path_same, path_self, test_same, test_self, move_same, move_self, every_kept}
use Rattle.tc_beh.specs.AlikeSymbols.{itself, no_test_of}

-- what holds of each holds of what each gives
gathered : {X Y : Type 0} (R : X → Type 0) (S : Y → Type 0) (f : X → List Y) (xs : List X) → ((x : X) → R x → Every S (f x)) → Every R xs → Every S (flat_map f xs)
gathered R S f [] g h = tt
gathered R S f (x ∷ xs) g h = every_append S (f x) (flat_map f xs) (g x h.0) (gathered R S f xs g h.1)

module _ (P : NodeTest → Type 0) where
  abbrev OfSteps : Steps → Type 0
  OfSteps x = Every P (in_steps itself no_test_of x)

  abbrev pub OfPath : Path → Type 0
  OfPath x = Every P (in_path itself no_test_of x)

  abbrev OfTest : Test → Type 0
  OfTest x = Every P (in_test itself no_test_of x)

  abbrev OfTests : Tests → Type 0
  OfTests x = Every P (in_tests itself no_test_of x)

  abbrev OfBody : Body → Type 0
  OfBody x = Every P (in_body itself no_test_of x)

  abbrev OfBranches : Branches → Type 0
  OfBranches x = Every P (in_branches itself no_test_of x)

  abbrev OfPattern : MatchPattern → Type 0
  OfPattern x = Every P (in_pattern itself no_test_of x)

  abbrev OfRule : Rule → Type 0
  OfRule r = OfPattern r.pattern × OfBody r.body

  abbrev pub OfMove : Move → Type 0
  OfMove m = OfPath m.path

  abbrev tests_of_rule : Rule → List NodeTest
  tests_of_rule r = in_pattern itself no_test_of r.pattern ++ in_body itself no_test_of r.body

  two : (xs ys : List NodeTest) → Every P (xs ++ ys) → Every P xs × Every P ys
  two xs ys h = (every_front P xs ys h, every_back P xs ys h)

  -- a step's own node test, those of its predicates, and those of the steps behind it
  pub of_step : (deep : Bool) (t : NodeTest) (when : Test) (ss : Steps) → Every P (in_steps itself no_test_of (s.step deep t when ss)) → P t × Every P (in_test itself no_test_of when) × Every P (in_steps itself no_test_of ss)
  of_step deep t when ss h =
      let (a, b) = two (in_test itself no_test_of when) (in_steps itself no_test_of ss) h.1 in (h.0, a, b)

  pub of_alternative : (ss : Steps) (p : Path) → OfPath (s.alternative ss p) → Every P (in_steps itself no_test_of ss) × OfPath p
  of_alternative ss p h = two (in_steps itself no_test_of ss) (in_path itself no_test_of p) h

  -- the looks of tests
  mutual
    test_looks : (t : Test) → OfTest t → Every OfPath (looks_in_test t)
    test_looks s.always h = tt
    test_looks s.never h = tt
    test_looks (s.has p) h = (h, tt)
    test_looks (s.negated t) h = test_looks t h
    test_looks (s.all_of ts) h = tests_looks ts h
    test_looks (s.any_of ts) h = tests_looks ts h

    tests_looks : (ts : Tests) → OfTests ts → Every OfPath (looks_in_tests ts)
    tests_looks s.no_test h = tt
    tests_looks (s.test t ts) h =
        let (a, b) = two (in_test itself no_test_of t) (in_tests itself no_test_of ts) h in
        every_append OfPath (looks_in_test t) (looks_in_tests ts) (test_looks t a) (tests_looks ts b)

  -- the looks of bodies
  mutual
    body_looks : (b : Body) → OfBody b → Every OfPath (looks_in_body b)
    body_looks s.no_instruction h = tt
    body_looks (s.put_text x b) h = body_looks b h
    body_looks (s.put_element n i b) h =
        let (a, c) = two (in_body itself no_test_of i) (in_body itself no_test_of b) h in
        every_append OfPath (looks_in_body i) (looks_in_body b) (body_looks i a) (body_looks b c)
    body_looks (s.copy i b) h =
        let (a, c) = two (in_body itself no_test_of i) (in_body itself no_test_of b) h in
        every_append OfPath (looks_in_body i) (looks_in_body b) (body_looks i a) (body_looks b c)
    body_looks (s.apply p m b) h = let (a, c) = two (in_path itself no_test_of p) (in_body itself no_test_of b) h in body_looks b c
    body_looks (s.call n b) h = body_looks b h
    body_looks (s.value p b) h = let (a, c) = two (in_path itself no_test_of p) (in_body itself no_test_of b) h in (a, body_looks b c)
    body_looks (s.value_of_self b) h = body_looks b h
    body_looks (s.choose x b) h =
        let (a, c) = two (in_branches itself no_test_of x) (in_body itself no_test_of b) h in
        every_append OfPath (looks_in_branches x) (looks_in_body b) (branches_looks x a) (body_looks b c)
    body_looks (s.for_each e p i b) h =
        let (a, c) = two (in_path itself no_test_of p) (in_body itself no_test_of i ++ in_body itself no_test_of b) h in
        let (d, f) = two (in_body itself no_test_of i) (in_body itself no_test_of b) c in
        every_append OfPath (looks_in_body i) (looks_in_body b) (body_looks i d) (body_looks b f)

    branches_looks : (x : Branches) → OfBranches x → Every OfPath (looks_in_branches x)
    branches_looks (s.otherwise b) h = body_looks b h
    branches_looks (s.branch t b x) h =
        let (a, c) = two (in_test itself no_test_of t) (in_body itself no_test_of b ++ in_branches itself no_test_of x) h in
        let (d, f) = two (in_body itself no_test_of b) (in_branches itself no_test_of x) c in
        every_append OfPath (looks_in_test t) (looks_in_body b ++ looks_in_branches x) (test_looks t a)
        (every_append OfPath (looks_in_body b) (looks_in_branches x) (body_looks b d) (branches_looks x f))

  -- the moves of bodies
  module _ (modes : ℕ) where
    mutual
      body_moves : (b : Body) → OfBody b → Every OfMove (moves_in_body modes b)
      body_moves s.no_instruction h = tt
      body_moves (s.put_text x b) h = body_moves b h
      body_moves (s.put_element n i b) h =
          let (a, c) = two (in_body itself no_test_of i) (in_body itself no_test_of b) h in
          every_append OfMove (moves_in_body modes i) (moves_in_body modes b) (body_moves i a) (body_moves b c)
      body_moves (s.copy i b) h =
          let (a, c) = two (in_body itself no_test_of i) (in_body itself no_test_of b) h in
          every_append OfMove (moves_in_body modes i) (moves_in_body modes b) (body_moves i a) (body_moves b c)
      body_moves (s.apply p m b) h = let (a, c) = two (in_path itself no_test_of p) (in_body itself no_test_of b) h in (a, body_moves b c)
      body_moves (s.call n b) h = body_moves b h
      body_moves (s.value p b) h = let (a, c) = two (in_path itself no_test_of p) (in_body itself no_test_of b) h in body_moves b c
      body_moves (s.value_of_self b) h = body_moves b h
      body_moves (s.choose x b) h =
          let (a, c) = two (in_branches itself no_test_of x) (in_body itself no_test_of b) h in
          every_append OfMove (moves_in_branches modes x) (moves_in_body modes b) (branches_moves x a) (body_moves b c)
      body_moves (s.for_each e p i b) h =
          let (a, c) = two (in_path itself no_test_of p) (in_body itself no_test_of i ++ in_body itself no_test_of b) h in
          let (d, f) = two (in_body itself no_test_of i) (in_body itself no_test_of b) c in
          (a, every_append OfMove (moves_in_body modes i) (moves_in_body modes b) (body_moves i d) (body_moves b f))

      branches_moves : (x : Branches) → OfBranches x → Every OfMove (moves_in_branches modes x)
      branches_moves (s.otherwise b) h = body_moves b h
      branches_moves (s.branch t b x) h =
          let (a, c) = two (in_test itself no_test_of t) (in_body itself no_test_of b ++ in_branches itself no_test_of x) h in
          let (d, f) = two (in_body itself no_test_of b) (in_branches itself no_test_of x) c in
          every_append OfMove (moves_in_body modes b) (moves_in_branches modes x) (body_moves b d) (branches_moves x f)

  -- predicates, with their own node tests
  mutual
    steps_inner : (x : Steps) → OfSteps x → Every OfTest (predicates_in_steps x)
    steps_inner s.no_step h = tt
    steps_inner (s.step deep t when ss) h =
        let (own, a, b) = of_step deep t when ss h in
        every_append OfTest (as_predicate when) (predicates_in_test when ++ predicates_in_steps ss) (itself_inner when a)
        (every_append OfTest (predicates_in_test when) (predicates_in_steps ss) (test_inner when a) (steps_inner ss b))

    path_inner : (p : Path) → OfPath p → Every OfTest (predicates_in_path p)
    path_inner s.no_alternative h = tt
    path_inner (s.alternative ss p) h =
        let (a, b) = of_alternative ss p h in every_append OfTest (predicates_in_steps ss) (predicates_in_path p) (steps_inner ss a) (path_inner p b)

    test_inner : (t : Test) → OfTest t → Every OfTest (predicates_in_test t)
    test_inner s.always h = tt
    test_inner s.never h = tt
    test_inner (s.has p) h = path_inner p h
    test_inner (s.negated t) h = test_inner t h
    test_inner (s.all_of ts) h = tests_inner ts h
    test_inner (s.any_of ts) h = tests_inner ts h

    tests_inner : (ts : Tests) → OfTests ts → Every OfTest (predicates_in_tests ts)
    tests_inner s.no_test h = tt
    tests_inner (s.test t ts) h =
        let (a, b) = two (in_test itself no_test_of t) (in_tests itself no_test_of ts) h in
        every_append OfTest (predicates_in_test t) (predicates_in_tests ts) (test_inner t a) (tests_inner ts b)

    itself_inner : (when : Test) → OfTest when → Every OfTest (as_predicate when)
    itself_inner s.always h = tt
    itself_inner s.never h = (h, tt)
    itself_inner (s.has p) h = (h, tt)
    itself_inner (s.negated t) h = (h, tt)
    itself_inner (s.all_of ts) h = (h, tt)
    itself_inner (s.any_of ts) h = (h, tt)

  mutual
    body_inner : (b : Body) → OfBody b → Every OfTest (predicates_in_body b)
    body_inner s.no_instruction h = tt
    body_inner (s.put_text x b) h = body_inner b h
    body_inner (s.put_element n i b) h =
        let (a, c) = two (in_body itself no_test_of i) (in_body itself no_test_of b) h in
        every_append OfTest (predicates_in_body i) (predicates_in_body b) (body_inner i a) (body_inner b c)
    body_inner (s.copy i b) h =
        let (a, c) = two (in_body itself no_test_of i) (in_body itself no_test_of b) h in
        every_append OfTest (predicates_in_body i) (predicates_in_body b) (body_inner i a) (body_inner b c)
    body_inner (s.apply p m b) h =
        let (a, c) = two (in_path itself no_test_of p) (in_body itself no_test_of b) h in
        every_append OfTest (predicates_in_path p) (predicates_in_body b) (path_inner p a) (body_inner b c)
    body_inner (s.call n b) h = body_inner b h
    body_inner (s.value p b) h =
        let (a, c) = two (in_path itself no_test_of p) (in_body itself no_test_of b) h in
        every_append OfTest (predicates_in_path p) (predicates_in_body b) (path_inner p a) (body_inner b c)
    body_inner (s.value_of_self b) h = body_inner b h
    body_inner (s.choose x b) h =
        let (a, c) = two (in_branches itself no_test_of x) (in_body itself no_test_of b) h in
        every_append OfTest (predicates_in_branches x) (predicates_in_body b) (branches_inner x a) (body_inner b c)
    body_inner (s.for_each e p i b) h =
        let (a, c) = two (in_path itself no_test_of p) (in_body itself no_test_of i ++ in_body itself no_test_of b) h in
        let (d, f) = two (in_body itself no_test_of i) (in_body itself no_test_of b) c in
        every_append OfTest (predicates_in_path p) (predicates_in_body i ++ predicates_in_body b) (path_inner p a)
        (every_append OfTest (predicates_in_body i) (predicates_in_body b) (body_inner i d) (body_inner b f))

    branches_inner : (x : Branches) → OfBranches x → Every OfTest (predicates_in_branches x)
    branches_inner (s.otherwise b) h = body_inner b h
    branches_inner (s.branch t b x) h =
        let (a, c) = two (in_test itself no_test_of t) (in_body itself no_test_of b ++ in_branches itself no_test_of x) h in
        let (d, f) = two (in_body itself no_test_of b) (in_branches itself no_test_of x) c in
        every_append OfTest (predicates_in_test t) (predicates_in_body b ++ predicates_in_branches x) (test_inner t a)
        (every_append OfTest (predicates_in_body b) (predicates_in_branches x) (body_inner b d) (branches_inner x f))

  pattern_inner : (p : MatchPattern) → OfPattern p → Every OfTest (predicates_in_pattern p)
  pattern_inner s.root_pattern h = tt
  pattern_inner (s.steps_pattern ss) h = steps_inner ss h

  pattern_steps : (p : MatchPattern) → OfPattern p → OfSteps (steps_of p)
  pattern_steps s.root_pattern h = tt
  pattern_steps (s.steps_pattern ss) h = h

  -- rules and named bodies
  of_rules : (rs : List Rule) → Every P (flat_map tests_of_rule rs) → Every OfRule rs
  of_rules [] h = tt
  of_rules (r ∷ rs) h =
      let (a, b) = two (tests_of_rule r) (flat_map tests_of_rule rs) h in
      (two (in_pattern itself no_test_of r.pattern) (in_body itself no_test_of r.body) a, of_rules rs b)

  of_bodies : (bs : List Body) → Every P (flat_map (in_body itself no_test_of) bs) → Every OfBody bs
  of_bodies [] h = tt
  of_bodies (b ∷ bs) h = let (a, c) = two (in_body itself no_test_of b) (flat_map (in_body itself no_test_of) bs) h in (a, of_bodies bs c)

  module _ (x : Sheet) (all : Every P (node_tests x)) where
    all_rules : Every OfRule x.rules
    all_rules = of_rules x.rules (every_front P (flat_map tests_of_rule x.rules) (flat_map (in_body itself no_test_of) x.named) all)

    all_named : Every OfBody x.named
    all_named = of_bodies x.named (every_back P (flat_map tests_of_rule x.rules) (flat_map (in_body itself no_test_of) x.named) all)

    -- of all match patterns together
    pub patterns_used : OfPath (path_of_rules x.rules)
    patterns_used = by x.rules all_rules
      where
        by : (rs : List Rule) → Every OfRule rs → OfPath (path_of_rules rs)
        by [] h = tt
        by (r ∷ rs) h = every_append P (in_steps itself no_test_of (steps_of r.pattern)) (in_path itself no_test_of (path_of_rules rs)) (pattern_steps r.pattern h.0.0) (by rs h.1)

    children_used : P s.any_node → (ms : List ℕ) → Every OfMove (map (λ m. record { path = all_children; mode = m }) ms)
    children_used h [] = tt
    children_used h (m ∷ ms) = ((h, tt), children_used h ms)

    pub moves_used : P s.any_node → Every OfMove (moves_of x)
    moves_used h =
        let first = map (λ m. record { path = all_children; mode = m }) (numbers_below x.modes) in
        let by_rules = flat_map (λ (r : Rule). moves_in_body x.modes r.body) x.rules in
        let by_names = flat_map (moves_in_body x.modes) x.named in
        every_kept same_move move_same move_self OfMove [] (first ++ (by_rules ++ by_names))
        (every_append OfMove first (by_rules ++ by_names) (children_used h (numbers_below x.modes))
        (every_append OfMove by_rules by_names (gathered OfRule OfMove (λ (r : Rule). moves_in_body x.modes r.body) x.rules (λ r a. body_moves x.modes r.body a.1) all_rules)
        (gathered OfBody OfMove (moves_in_body x.modes) x.named (body_moves x.modes) all_named)))

    predicates_used : Every OfTest (predicates_of x)
    predicates_used =
        let by_rules = flat_map (λ (r : Rule). predicates_in_pattern r.pattern ++ predicates_in_body r.body) x.rules in
        let by_names = flat_map predicates_in_body x.named in
        every_kept same_test test_same test_self OfTest [] (by_rules ++ by_names)
        (every_append OfTest by_rules by_names
        (gathered OfRule OfTest (λ (r : Rule). predicates_in_pattern r.pattern ++ predicates_in_body r.body) x.rules
        (λ r a. every_append OfTest (predicates_in_pattern r.pattern) (predicates_in_body r.body) (pattern_inner r.pattern a.0) (body_inner r.body a.1)) all_rules)
        (gathered OfBody OfTest predicates_in_body x.named body_inner all_named))

    pub looks_used : Every OfPath (looks_of x)
    looks_used =
        let by_rules = flat_map (λ (r : Rule). looks_in_body r.body) x.rules in
        let by_names = flat_map looks_in_body x.named in
        let by_predicates = flat_map looks_in_test (predicates_of x) in
        every_kept same_path path_same path_self OfPath [] (by_rules ++ (by_names ++ by_predicates))
        (every_append OfPath by_rules (by_names ++ by_predicates) (gathered OfRule OfPath (λ (r : Rule). looks_in_body r.body) x.rules (λ r a. body_looks r.body a.1) all_rules)
        (every_append OfPath by_names by_predicates (gathered OfBody OfPath looks_in_body x.named body_looks all_named) (gathered OfTest OfPath looks_in_test (predicates_of x) test_looks predicates_used)))
