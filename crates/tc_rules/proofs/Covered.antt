-- All paths of a stylesheet are covered: their predicates have numbers, and their node tests can't tell the names of one symbol apart.
use Rattle.std.proofs.Common.{◌≡◌, ℕ, ◌+◌, ◌<◌, List, [], ◌∷◌, ◌++◌, refl, ◌∙◌, length, map, flat_map, Bool, true, false, if◌then◌else◌, Some, slice_get, All, arith}
use Rattle.std.specs.Prelude.{codes}
use Rattle.tc_model.specs.Names.{ExpandedName}
use Rattle.tc_model.specs.Trees.{Trees, none}
use Rattle.tc_model.specs.Chains.{an_element, a_text}
use Rattle.tc_model.specs.Grammars.{Grammar}
use Rattle.tc_model.specs.Sheets as s
use Rattle.tc_model.specs.Sheets.{NodeTest, Steps, Path, Test, Tests, MatchPattern, Body, Branches, Rule, Sheet}
use Rattle.tc_model.specs.Paths.{passes}
use Rattle.tc_model.specs.Meaning.{all_children}
use Rattle.tc_model.specs.Symbols.{Mention, in_steps, in_path, in_test, in_tests, in_pattern, in_body, in_branches, node_tests, a_name, a_namespace, place_of, is_mentioned, symbol_of, symbols_of, fresh_name, AreAlike}
use Rattle.tc_model.specs.Numbered.{number_of, numbers_below}
use Rattle.tc_model.specs.SameTests.{same_test, same_path}
use Rattle.tc_model.specs.PathStates.{steps_of, path_of_rules}
use Rattle.tc_model.specs.Numberings.{as_predicate, predicates_in_steps, predicates_in_path, predicates_in_test, predicates_in_tests, predicates_in_pattern, predicates_in_body, predicates_in_branches, predicates_of, Move, same_move, moves_in_body, moves_in_branches, moves_of, looks_in_test, looks_in_tests, looks_in_body, looks_in_branches, looks_of}
use Rattle.tc_alpha.proofs.Members.{Has, Every, every_append, every_front, every_back, every_from_members, every_from_all, every_member}
use Rattle.tc_alpha.proofs.Alike.{alike}
use Rattle.tc_alpha.proofs.Fresh.{symbol_told}
use Rattle.tc_alpha.proofs.Lawful.{are_symbols}
use Rattle.tc_alpha.proofs.Places.{place_le}
use Rattle.tc_rules.specs.Covered.{IsNumbered, IsBlind, AreCovered, IsCovered}
use Rattle.tc_rules.proofs.Sameness.{path_same, path_self, test_same, test_self, move_same, move_self, kept, every_kept, found_by_number}

-- what holds of all node tests and of all predicates
module _ (P : NodeTest → Type 0) (Q : Test → Type 0) where
  abbrev pub itself : NodeTest → List NodeTest
  itself t = t ∷ []

  abbrev pub no_test_of : ExpandedName → List NodeTest
  no_test_of n = []

  -- the node tests and the predicates of a part
  pub record OfSteps (x : Steps) : Type 0 where
    pub tests : Every P (in_steps itself no_test_of x)
    pub predicates : Every Q (predicates_in_steps x)

  pub record OfPath (x : Path) : Type 0 where
    pub tests : Every P (in_path itself no_test_of x)
    pub predicates : Every Q (predicates_in_path x)

  pub record OfTest (x : Test) : Type 0 where
    pub tests : Every P (in_test itself no_test_of x)
    pub predicates : Every Q (predicates_in_test x)

  pub record OfTests (x : Tests) : Type 0 where
    pub tests : Every P (in_tests itself no_test_of x)
    pub predicates : Every Q (predicates_in_tests x)

  pub record OfBody (x : Body) : Type 0 where
    pub tests : Every P (in_body itself no_test_of x)
    pub predicates : Every Q (predicates_in_body x)

  pub record OfBranches (x : Branches) : Type 0 where
    pub tests : Every P (in_branches itself no_test_of x)
    pub predicates : Every Q (predicates_in_branches x)

  -- the parts of joined lists
  front_of : {X : Type 0} (R : X → Type 0) (xs ys : List X) → Every R (xs ++ ys) → Every R xs
  front_of R xs ys h = every_front R xs ys h

  back_of : {X : Type 0} (R : X → Type 0) (xs ys : List X) → Every R (xs ++ ys) → Every R ys
  back_of R xs ys h = every_back R xs ys h

  step_parts : (deep : Bool) (t : NodeTest) (when : Test) (ss : Steps) → OfSteps (s.step deep t when ss) → P t × Every Q (as_predicate when) × OfTest when × OfSteps ss
  step_parts deep t when ss h =
      let inner = back_of P (itself t) (in_test itself no_test_of when ++ in_steps itself no_test_of ss) h.tests in
      let others = back_of Q (as_predicate when) (predicates_in_test when ++ predicates_in_steps ss) h.predicates in (
        h.tests.0,
        front_of Q (as_predicate when) (predicates_in_test when ++ predicates_in_steps ss) h.predicates,
        record { tests = front_of P (in_test itself no_test_of when) (in_steps itself no_test_of ss) inner; predicates = front_of Q (predicates_in_test when) (predicates_in_steps ss) others },
        record { tests = back_of P (in_test itself no_test_of when) (in_steps itself no_test_of ss) inner; predicates = back_of Q (predicates_in_test when) (predicates_in_steps ss) others },
      )

  pub alternative_parts : (ss : Steps) (p : Path) → OfPath (s.alternative ss p) → OfSteps ss × OfPath p
  alternative_parts ss p h = (
    record { tests = front_of P (in_steps itself no_test_of ss) (in_path itself no_test_of p) h.tests; predicates = front_of Q (predicates_in_steps ss) (predicates_in_path p) h.predicates },
    record { tests = back_of P (in_steps itself no_test_of ss) (in_path itself no_test_of p) h.tests; predicates = back_of Q (predicates_in_steps ss) (predicates_in_path p) h.predicates },
  )

  pub tests_parts : (t : Test) (ts : Tests) → OfTests (s.test t ts) → OfTest t × OfTests ts
  tests_parts t ts h = (
    record { tests = front_of P (in_test itself no_test_of t) (in_tests itself no_test_of ts) h.tests; predicates = front_of Q (predicates_in_test t) (predicates_in_tests ts) h.predicates },
    record { tests = back_of P (in_test itself no_test_of t) (in_tests itself no_test_of ts) h.tests; predicates = back_of Q (predicates_in_test t) (predicates_in_tests ts) h.predicates },
  )

  -- the looks of tests
  mutual
    test_looks : (t : Test) → OfTest t → Every OfPath (looks_in_test t)
    test_looks s.always h = tt
    test_looks s.never h = tt
    test_looks (s.has p) h = (record { tests = h.tests; predicates = h.predicates }, tt)
    test_looks (s.negated t) h = test_looks t (record { tests = h.tests; predicates = h.predicates })
    test_looks (s.all_of ts) h = tests_looks ts (record { tests = h.tests; predicates = h.predicates })
    test_looks (s.any_of ts) h = tests_looks ts (record { tests = h.tests; predicates = h.predicates })

    tests_looks : (ts : Tests) → OfTests ts → Every OfPath (looks_in_tests ts)
    tests_looks s.no_test h = tt
    tests_looks (s.test t ts) h =
        let (a, b) = tests_parts t ts h in
        every_append OfPath (looks_in_test t) (looks_in_tests ts) (test_looks t a) (tests_looks ts b)

  -- two parts of a body
  pub two : (xs ys : List NodeTest) (us vs : List Test) → Every P (xs ++ ys) → Every Q (us ++ vs) → (Every P xs × Every Q us) × (Every P ys × Every Q vs)
  two xs ys us vs h k = ((front_of P xs ys h, front_of Q us vs k), (back_of P xs ys h, back_of Q us vs k))

  mutual
    body_looks : (b : Body) → Every P (in_body itself no_test_of b) → Every Q (predicates_in_body b) → Every OfPath (looks_in_body b)
    body_looks s.no_instruction h k = tt
    body_looks (s.put_text x b) h k = body_looks b h k
    body_looks (s.put_element n i b) h k =
        let (a, c) = two (in_body itself no_test_of i) (in_body itself no_test_of b) (predicates_in_body i) (predicates_in_body b) h k in
        every_append OfPath (looks_in_body i) (looks_in_body b) (body_looks i a.0 a.1) (body_looks b c.0 c.1)
    body_looks (s.copy i b) h k =
        let (a, c) = two (in_body itself no_test_of i) (in_body itself no_test_of b) (predicates_in_body i) (predicates_in_body b) h k in
        every_append OfPath (looks_in_body i) (looks_in_body b) (body_looks i a.0 a.1) (body_looks b c.0 c.1)
    body_looks (s.apply p m b) h k =
        let (a, c) = two (in_path itself no_test_of p) (in_body itself no_test_of b) (predicates_in_path p) (predicates_in_body b) h k in body_looks b c.0 c.1
    body_looks (s.call n b) h k = body_looks b h k
    body_looks (s.value p b) h k =
        let (a, c) = two (in_path itself no_test_of p) (in_body itself no_test_of b) (predicates_in_path p) (predicates_in_body b) h k in
        (record { tests = a.0; predicates = a.1 }, body_looks b c.0 c.1)
    body_looks (s.value_of_self b) h k = body_looks b h k
    body_looks (s.choose x b) h k =
        let (a, c) = two (in_branches itself no_test_of x) (in_body itself no_test_of b) (predicates_in_branches x) (predicates_in_body b) h k in
        every_append OfPath (looks_in_branches x) (looks_in_body b) (branches_looks x a.0 a.1) (body_looks b c.0 c.1)
    body_looks (s.for_each e p i b) h k =
        let (a, c) = two (in_path itself no_test_of p) (in_body itself no_test_of i ++ in_body itself no_test_of b) (predicates_in_path p) (predicates_in_body i ++ predicates_in_body b) h k in
        let (d, f) = two (in_body itself no_test_of i) (in_body itself no_test_of b) (predicates_in_body i) (predicates_in_body b) c.0 c.1 in
        every_append OfPath (looks_in_body i) (looks_in_body b) (body_looks i d.0 d.1) (body_looks b f.0 f.1)

    branches_looks : (x : Branches) → Every P (in_branches itself no_test_of x) → Every Q (predicates_in_branches x) → Every OfPath (looks_in_branches x)
    branches_looks (s.otherwise b) h k = body_looks b h k
    branches_looks (s.branch t b x) h k =
        let (a, c) = two (in_test itself no_test_of t) (in_body itself no_test_of b ++ in_branches itself no_test_of x) (predicates_in_test t) (predicates_in_body b ++ predicates_in_branches x) h k in
        let (d, f) = two (in_body itself no_test_of b) (in_branches itself no_test_of x) (predicates_in_body b) (predicates_in_branches x) c.0 c.1 in
        every_append OfPath (looks_in_test t) (looks_in_body b ++ looks_in_branches x) (test_looks t (record { tests = a.0; predicates = a.1 }))
        (every_append OfPath (looks_in_body b) (looks_in_branches x) (body_looks b d.0 d.1) (branches_looks x f.0 f.1))

  -- the moves of bodies
  abbrev pub OfMove : Move → Type 0
  OfMove m = OfPath m.path

  module _ (modes : ℕ) where
    mutual
      body_moves : (b : Body) → Every P (in_body itself no_test_of b) → Every Q (predicates_in_body b) → Every OfMove (moves_in_body modes b)
      body_moves s.no_instruction h k = tt
      body_moves (s.put_text x b) h k = body_moves b h k
      body_moves (s.put_element n i b) h k =
          let (a, c) = two (in_body itself no_test_of i) (in_body itself no_test_of b) (predicates_in_body i) (predicates_in_body b) h k in
          every_append OfMove (moves_in_body modes i) (moves_in_body modes b) (body_moves i a.0 a.1) (body_moves b c.0 c.1)
      body_moves (s.copy i b) h k =
          let (a, c) = two (in_body itself no_test_of i) (in_body itself no_test_of b) (predicates_in_body i) (predicates_in_body b) h k in
          every_append OfMove (moves_in_body modes i) (moves_in_body modes b) (body_moves i a.0 a.1) (body_moves b c.0 c.1)
      body_moves (s.apply p m b) h k =
          let (a, c) = two (in_path itself no_test_of p) (in_body itself no_test_of b) (predicates_in_path p) (predicates_in_body b) h k in
          (record { tests = a.0; predicates = a.1 }, body_moves b c.0 c.1)
      body_moves (s.call n b) h k = body_moves b h k
      body_moves (s.value p b) h k =
          let (a, c) = two (in_path itself no_test_of p) (in_body itself no_test_of b) (predicates_in_path p) (predicates_in_body b) h k in body_moves b c.0 c.1
      body_moves (s.value_of_self b) h k = body_moves b h k
      body_moves (s.choose x b) h k =
          let (a, c) = two (in_branches itself no_test_of x) (in_body itself no_test_of b) (predicates_in_branches x) (predicates_in_body b) h k in
          every_append OfMove (moves_in_branches modes x) (moves_in_body modes b) (branches_moves x a.0 a.1) (body_moves b c.0 c.1)
      body_moves (s.for_each e p i b) h k =
          let (a, c) = two (in_path itself no_test_of p) (in_body itself no_test_of i ++ in_body itself no_test_of b) (predicates_in_path p) (predicates_in_body i ++ predicates_in_body b) h k in
          let (d, f) = two (in_body itself no_test_of i) (in_body itself no_test_of b) (predicates_in_body i) (predicates_in_body b) c.0 c.1 in
          (record { tests = a.0; predicates = a.1 }, every_append OfMove (moves_in_body modes i) (moves_in_body modes b) (body_moves i d.0 d.1) (body_moves b f.0 f.1))

      branches_moves : (x : Branches) → Every P (in_branches itself no_test_of x) → Every Q (predicates_in_branches x) → Every OfMove (moves_in_branches modes x)
      branches_moves (s.otherwise b) h k = body_moves b h k
      branches_moves (s.branch t b x) h k =
          let (a, c) = two (in_test itself no_test_of t) (in_body itself no_test_of b ++ in_branches itself no_test_of x) (predicates_in_test t) (predicates_in_body b ++ predicates_in_branches x) h k in
          let (d, f) = two (in_body itself no_test_of b) (in_branches itself no_test_of x) (predicates_in_body b) (predicates_in_branches x) c.0 c.1 in
          every_append OfMove (moves_in_body modes b) (moves_in_branches modes x) (body_moves b d.0 d.1) (branches_moves x f.0 f.1)

  -- the predicates of a part, each with its own node tests and predicates
  mutual
    steps_inner : (x : Steps) → OfSteps x → Every OfTest (predicates_in_steps x)
    steps_inner s.no_step h = tt
    steps_inner (s.step deep t when ss) h =
        let (a, b, c, d) = step_parts deep t when ss h in
        every_append OfTest (as_predicate when) (predicates_in_test when ++ predicates_in_steps ss) (own when c)
        (every_append OfTest (predicates_in_test when) (predicates_in_steps ss) (test_inner when c) (steps_inner ss d))

    path_inner : (p : Path) → OfPath p → Every OfTest (predicates_in_path p)
    path_inner s.no_alternative h = tt
    path_inner (s.alternative ss p) h =
        let (a, b) = alternative_parts ss p h in
        every_append OfTest (predicates_in_steps ss) (predicates_in_path p) (steps_inner ss a) (path_inner p b)

    test_inner : (t : Test) → OfTest t → Every OfTest (predicates_in_test t)
    test_inner s.always h = tt
    test_inner s.never h = tt
    test_inner (s.has p) h = path_inner p (record { tests = h.tests; predicates = h.predicates })
    test_inner (s.negated t) h = test_inner t (record { tests = h.tests; predicates = h.predicates })
    test_inner (s.all_of ts) h = tests_inner ts (record { tests = h.tests; predicates = h.predicates })
    test_inner (s.any_of ts) h = tests_inner ts (record { tests = h.tests; predicates = h.predicates })

    tests_inner : (ts : Tests) → OfTests ts → Every OfTest (predicates_in_tests ts)
    tests_inner s.no_test h = tt
    tests_inner (s.test t ts) h =
        let (a, b) = tests_parts t ts h in
        every_append OfTest (predicates_in_test t) (predicates_in_tests ts) (test_inner t a) (tests_inner ts b)

    own : (when : Test) → OfTest when → Every OfTest (as_predicate when)
    own s.always h = tt
    own s.never h = (h, tt)
    own (s.has p) h = (h, tt)
    own (s.negated t) h = (h, tt)
    own (s.all_of ts) h = (h, tt)
    own (s.any_of ts) h = (h, tt)

  mutual
    body_inner : (b : Body) → Every P (in_body itself no_test_of b) → Every Q (predicates_in_body b) → Every OfTest (predicates_in_body b)
    body_inner s.no_instruction h k = tt
    body_inner (s.put_text x b) h k = body_inner b h k
    body_inner (s.put_element n i b) h k =
        let (a, c) = two (in_body itself no_test_of i) (in_body itself no_test_of b) (predicates_in_body i) (predicates_in_body b) h k in
        every_append OfTest (predicates_in_body i) (predicates_in_body b) (body_inner i a.0 a.1) (body_inner b c.0 c.1)
    body_inner (s.copy i b) h k =
        let (a, c) = two (in_body itself no_test_of i) (in_body itself no_test_of b) (predicates_in_body i) (predicates_in_body b) h k in
        every_append OfTest (predicates_in_body i) (predicates_in_body b) (body_inner i a.0 a.1) (body_inner b c.0 c.1)
    body_inner (s.apply p m b) h k =
        let (a, c) = two (in_path itself no_test_of p) (in_body itself no_test_of b) (predicates_in_path p) (predicates_in_body b) h k in
        every_append OfTest (predicates_in_path p) (predicates_in_body b) (path_inner p (record { tests = a.0; predicates = a.1 })) (body_inner b c.0 c.1)
    body_inner (s.call n b) h k = body_inner b h k
    body_inner (s.value p b) h k =
        let (a, c) = two (in_path itself no_test_of p) (in_body itself no_test_of b) (predicates_in_path p) (predicates_in_body b) h k in
        every_append OfTest (predicates_in_path p) (predicates_in_body b) (path_inner p (record { tests = a.0; predicates = a.1 })) (body_inner b c.0 c.1)
    body_inner (s.value_of_self b) h k = body_inner b h k
    body_inner (s.choose x b) h k =
        let (a, c) = two (in_branches itself no_test_of x) (in_body itself no_test_of b) (predicates_in_branches x) (predicates_in_body b) h k in
        every_append OfTest (predicates_in_branches x) (predicates_in_body b) (branches_inner x a.0 a.1) (body_inner b c.0 c.1)
    body_inner (s.for_each e p i b) h k =
        let (a, c) = two (in_path itself no_test_of p) (in_body itself no_test_of i ++ in_body itself no_test_of b) (predicates_in_path p) (predicates_in_body i ++ predicates_in_body b) h k in
        let (d, f) = two (in_body itself no_test_of i) (in_body itself no_test_of b) (predicates_in_body i) (predicates_in_body b) c.0 c.1 in
        every_append OfTest (predicates_in_path p) (predicates_in_body i ++ predicates_in_body b) (path_inner p (record { tests = a.0; predicates = a.1 }))
        (every_append OfTest (predicates_in_body i) (predicates_in_body b) (body_inner i d.0 d.1) (body_inner b f.0 f.1))

    branches_inner : (x : Branches) → Every P (in_branches itself no_test_of x) → Every Q (predicates_in_branches x) → Every OfTest (predicates_in_branches x)
    branches_inner (s.otherwise b) h k = body_inner b h k
    branches_inner (s.branch t b x) h k =
        let (a, c) = two (in_test itself no_test_of t) (in_body itself no_test_of b ++ in_branches itself no_test_of x) (predicates_in_test t) (predicates_in_body b ++ predicates_in_branches x) h k in
        let (d, f) = two (in_body itself no_test_of b) (in_branches itself no_test_of x) (predicates_in_body b) (predicates_in_branches x) c.0 c.1 in
        every_append OfTest (predicates_in_test t) (predicates_in_body b ++ predicates_in_branches x) (test_inner t (record { tests = a.0; predicates = a.1 }))
        (every_append OfTest (predicates_in_body b) (predicates_in_branches x) (body_inner b d.0 d.1) (branches_inner x f.0 f.1))

  pattern_steps : (p : MatchPattern) → Every P (in_pattern itself no_test_of p) → Every Q (predicates_in_pattern p) → OfSteps (steps_of p)
  pattern_steps s.root_pattern h k = record { tests = tt; predicates = tt }
  pattern_steps (s.steps_pattern ss) h k = record { tests = h; predicates = k }

  pattern_inner : (p : MatchPattern) → Every P (in_pattern itself no_test_of p) → Every Q (predicates_in_pattern p) → Every OfTest (predicates_in_pattern p)
  pattern_inner s.root_pattern h k = tt
  pattern_inner (s.steps_pattern ss) h k = steps_inner ss (record { tests = h; predicates = k })

  -- of all rules and all named bodies
  abbrev tests_of_rule : Rule → List NodeTest
  tests_of_rule r = in_pattern itself no_test_of r.pattern ++ in_body itself no_test_of r.body

  abbrev predicates_of_rule : Rule → List Test
  predicates_of_rule r = predicates_in_pattern r.pattern ++ predicates_in_body r.body

  pub record OfRule (r : Rule) : Type 0 where
    pub steps : OfSteps (steps_of r.pattern)
    pub pattern : Every OfTest (predicates_in_pattern r.pattern)
    pub tests : Every P (in_body itself no_test_of r.body)
    pub predicates : Every Q (predicates_in_body r.body)

  rules_fine : (rs : List Rule) → Every P (flat_map tests_of_rule rs) → Every Q (flat_map predicates_of_rule rs) → Every OfRule rs
  rules_fine [] h k = tt
  rules_fine (r ∷ rs) h k =
      let (a, c) = two (tests_of_rule r) (flat_map tests_of_rule rs) (predicates_of_rule r) (flat_map predicates_of_rule rs) h k in
      let (d, f) = two (in_pattern itself no_test_of r.pattern) (in_body itself no_test_of r.body) (predicates_in_pattern r.pattern) (predicates_in_body r.body) a.0 a.1 in
      (record { steps = pattern_steps r.pattern d.0 d.1; pattern = pattern_inner r.pattern d.0 d.1; tests = f.0; predicates = f.1 }, rules_fine rs c.0 c.1)

  pub record OfNamed (b : Body) : Type 0 where
    pub tests : Every P (in_body itself no_test_of b)
    pub predicates : Every Q (predicates_in_body b)

  bodies_fine : (bs : List Body) → Every P (flat_map (in_body itself no_test_of) bs) → Every Q (flat_map predicates_in_body bs) → Every OfNamed bs
  bodies_fine [] h k = tt
  bodies_fine (b ∷ bs) h k =
      let (a, c) = two (in_body itself no_test_of b) (flat_map (in_body itself no_test_of) bs) (predicates_in_body b) (flat_map predicates_in_body bs) h k in
      (record { tests = a.0; predicates = a.1 }, bodies_fine bs c.0 c.1)

  -- what holds of each holds of what each gives
  gathered : {X Y : Type 0} (R : X → Type 0) (S : Y → Type 0) (f : X → List Y) (xs : List X) → ((x : X) → R x → Every S (f x)) → Every R xs → Every S (flat_map f xs)
  gathered R S f [] g h = tt
  gathered R S f (x ∷ xs) g h = every_append S (f x) (flat_map f xs) (g x h.0) (gathered R S f xs g h.1)

  of_members : {X : Type 0} (R S : X → Type 0) (xs : List X) → ((x : X) → R x → S x) → Every R xs → Every S xs
  of_members R S [] g h = tt
  of_members R S (x ∷ xs) g h = (g x h.0, of_members R S xs g h.1)

  abbrev written_predicates : Sheet → List Test
  written_predicates x = flat_map predicates_of_rule x.rules ++ flat_map predicates_in_body x.named

  -- all paths of the stylesheet
  pub record OfSheet (x : Sheet) : Type 0 where
    pub rules : Every OfRule x.rules
    pub named : Every OfNamed x.named

  sheet_fine : (x : Sheet) → Every P (node_tests x) → Every Q (written_predicates x) → OfSheet x
  sheet_fine x h k = record {
    rules = rules_fine x.rules (front_of P (flat_map tests_of_rule x.rules) (flat_map (in_body itself no_test_of) x.named) h) (front_of Q (flat_map predicates_of_rule x.rules) (flat_map predicates_in_body x.named) k);
    named = bodies_fine x.named (back_of P (flat_map tests_of_rule x.rules) (flat_map (in_body itself no_test_of) x.named) h) (back_of Q (flat_map predicates_of_rule x.rules) (flat_map predicates_in_body x.named) k);
  }

  children_fine : P s.any_node → (ms : List ℕ) → Every OfMove (map (λ m. record { path = all_children; mode = m }) ms)
  children_fine h [] = tt
  children_fine h (m ∷ ms) = (record { tests = (h, tt); predicates = tt }, children_fine h ms)

  pub moves_fine : (x : Sheet) → P s.any_node → OfSheet x → Every OfMove (moves_of x)
  moves_fine x h a =
      let first = map (λ m. record { path = all_children; mode = m }) (numbers_below x.modes) in
      let by_rules = flat_map (λ (r : Rule). moves_in_body x.modes r.body) x.rules in
      let by_names = flat_map (moves_in_body x.modes) x.named in
      every_kept same_move move_same move_self OfMove [] (first ++ (by_rules ++ by_names))
      (every_append OfMove first (by_rules ++ by_names) (children_fine h (numbers_below x.modes))
      (every_append OfMove by_rules by_names
      (gathered OfRule OfMove (λ (r : Rule). moves_in_body x.modes r.body) x.rules (λ r b. body_moves x.modes r.body b.tests b.predicates) a.rules)
      (gathered OfNamed OfMove (moves_in_body x.modes) x.named (λ b c. body_moves x.modes b c.tests c.predicates) a.named)))

  predicates_fine : (x : Sheet) → OfSheet x → Every OfTest (predicates_of x)
  predicates_fine x a =
      every_kept same_test test_same test_self OfTest [] (written_predicates x)
      (every_append OfTest (flat_map predicates_of_rule x.rules) (flat_map predicates_in_body x.named)
      (gathered OfRule OfTest predicates_of_rule x.rules (λ r b. every_append OfTest (predicates_in_pattern r.pattern) (predicates_in_body r.body) b.pattern (body_inner r.body b.tests b.predicates)) a.rules)
      (gathered OfNamed OfTest predicates_in_body x.named (λ b c. body_inner b c.tests c.predicates) a.named))

  pub looks_fine : (x : Sheet) → OfSheet x → Every OfPath (looks_of x)
  looks_fine x a =
      let by_rules = flat_map (λ (r : Rule). looks_in_body r.body) x.rules in
      let by_names = flat_map looks_in_body x.named in
      let by_predicates = flat_map looks_in_test (predicates_of x) in
      every_kept same_path path_same path_self OfPath [] (by_rules ++ (by_names ++ by_predicates))
      (every_append OfPath by_rules (by_names ++ by_predicates)
      (gathered OfRule OfPath (λ (r : Rule). looks_in_body r.body) x.rules (λ r b. body_looks r.body b.tests b.predicates) a.rules)
      (every_append OfPath by_names by_predicates
      (gathered OfNamed OfPath looks_in_body x.named (λ b c. body_looks b c.tests c.predicates) a.named)
      (gathered OfTest OfPath looks_in_test (predicates_of x) (λ t c. test_looks t c) (predicates_fine x a))))

-- what it is to be covered
module _ (symbols : List Mention) (predicates : List Test) where
  abbrev Blind : NodeTest → Type 0
  Blind t = IsBlind symbols predicates t

  abbrev Numbered : Test → Type 0
  Numbered w = IsNumbered symbols predicates w

  numbered_when : (when : Test) → Every Numbered (as_predicate when) → Numbered when
  numbered_when s.always h = tt
  numbered_when s.never h = h.0
  numbered_when (s.has p) h = h.0
  numbered_when (s.negated t) h = h.0
  numbered_when (s.all_of ts) h = h.0
  numbered_when (s.any_of ts) h = h.0

  steps_covered : (ss : Steps) → OfSteps Blind Numbered ss → AreCovered symbols predicates ss
  steps_covered s.no_step h = tt
  steps_covered (s.step deep t when ss) h =
      let (a, b, c, d) = step_parts Blind Numbered deep t when ss h in (a, numbered_when when b, steps_covered ss d)

  pub path_covered : (p : Path) → OfPath Blind Numbered p → IsCovered symbols predicates p
  path_covered s.no_alternative h = tt
  path_covered (s.alternative ss p) h =
      let (a, b) = alternative_parts Blind Numbered ss p h in (steps_covered ss a, path_covered p b)

  rules_covered : (rs : List Rule) → Every (OfRule Blind Numbered) rs → IsCovered symbols predicates (path_of_rules rs)
  rules_covered [] h = tt
  rules_covered (r ∷ rs) h = (steps_covered (steps_of r.pattern) h.0.steps, rules_covered rs h.1)

  numbered_of : (w : Test) → slice_get predicates (number_of same_test w predicates) ≡ Some w → Numbered w
  numbered_of s.always h = tt
  numbered_of s.never h = h
  numbered_of (s.has p) h = h
  numbered_of (s.negated t) h = h
  numbered_of (s.all_of ts) h = h
  numbered_of (s.any_of ts) h = h

pub symbol_below : (xs : List Mention) (n : ExpandedName) → symbol_of xs n < length xs + 1
symbol_below xs n = by (is_mentioned (a_name n) xs)
  where
    by : (b : Bool) → (if b then place_of (a_name n) xs else place_of (a_namespace n.uri) xs) < length xs + 1
    by true = omega (arith, place_le (a_name n) xs)
    by false = omega (arith, place_le (a_namespace n.uri) xs)

all_member : {X : Type 0} (R : X → Type 0) (xs : List X) → All R xs → (x : X) → Has xs x → R x
all_member R xs h x m = every_member R xs x (every_from_all R xs h) m

-- a node test sees no children
deaf : (t : NodeTest) (n : ExpandedName) (h k : Trees) → passes t (an_element n h) ≡ passes t (an_element n k)
deaf (s.of_name m) n h k = refl
deaf (s.of_namespace u) n h k = refl
deaf s.any_element n h k = refl
deaf s.any_text n h k = refl
deaf s.any_node n h k = refl

blind_to_texts : (t : NodeTest) (x y : List ℕ) → passes t (a_text x) ≡ passes t (a_text y)
blind_to_texts (s.of_name m) x y = refl
blind_to_texts (s.of_namespace u) x y = refl
blind_to_texts s.any_element x y = refl
blind_to_texts s.any_text x y = refl
blind_to_texts s.any_node x y = refl

-- the symbols are those of some two schemas and this stylesheet
module _ (input output : Grammar) (x : Sheet) where
  abbrev own_symbols : List Mention
  own_symbols = symbols_of input output x

  fresh_alike : (n : ExpandedName) → AreAlike input output x (fresh_name own_symbols (symbol_of own_symbols n)) n
  fresh_alike n =
      alike input output x (fresh_name own_symbols (symbol_of own_symbols n)) n
      (symbol_told own_symbols (are_symbols input output x) (symbol_of own_symbols n) (symbol_below own_symbols n) (fresh_name own_symbols (symbol_of own_symbols n)) refl)

  blind : (t : NodeTest) → Has (node_tests x) t → (predicates : List Test) → IsBlind own_symbols predicates t
  blind t h predicates (an_element n kids) =
      all_member (λ t. (kids : Trees) → passes t (an_element (fresh_name own_symbols (symbol_of own_symbols n)) kids) ≡ passes t (an_element n kids)) (node_tests x) (fresh_alike n).pass t h none
      ∙ deaf t n none kids
  blind t h predicates (a_text y) = blind_to_texts t (codes "t") y

  all_blind : Every (IsBlind own_symbols (predicates_of x)) (node_tests x)
  all_blind = every_from_members (IsBlind own_symbols (predicates_of x)) (node_tests x) (λ t h. blind t h (predicates_of x))

  all_numbered : Every (IsNumbered own_symbols (predicates_of x)) (written_predicates (IsBlind own_symbols (predicates_of x)) (IsNumbered own_symbols (predicates_of x)) x)
  all_numbered =
      every_from_members (IsNumbered own_symbols (predicates_of x)) (written_predicates (IsBlind own_symbols (predicates_of x)) (IsNumbered own_symbols (predicates_of x)) x)
      (λ w h. numbered_of own_symbols (predicates_of x) w (found_by_number same_test test_same test_self (predicates_of x) w (kept same_test test_same test_self (written_predicates (IsBlind own_symbols (predicates_of x)) (IsNumbered own_symbols (predicates_of x)) x) w h)))

  pub fine : OfSheet (IsBlind own_symbols (predicates_of x)) (IsNumbered own_symbols (predicates_of x)) x
  fine = sheet_fine (IsBlind own_symbols (predicates_of x)) (IsNumbered own_symbols (predicates_of x)) x all_blind all_numbered

  any_node_blind : IsBlind own_symbols (predicates_of x) s.any_node
  any_node_blind t = refl

  pub moves_covered : Every (λ m. IsCovered own_symbols (predicates_of x) m.path) (moves_of x)
  moves_covered =
      of_members (IsBlind own_symbols (predicates_of x)) (IsNumbered own_symbols (predicates_of x)) (OfMove (IsBlind own_symbols (predicates_of x)) (IsNumbered own_symbols (predicates_of x)))
      (λ m. IsCovered own_symbols (predicates_of x) m.path) (moves_of x) (λ m h. path_covered own_symbols (predicates_of x) m.path h)
      (moves_fine (IsBlind own_symbols (predicates_of x)) (IsNumbered own_symbols (predicates_of x)) x any_node_blind fine)

  pub looks_covered : Every (IsCovered own_symbols (predicates_of x)) (looks_of x)
  looks_covered =
      of_members (IsBlind own_symbols (predicates_of x)) (IsNumbered own_symbols (predicates_of x)) (OfPath (IsBlind own_symbols (predicates_of x)) (IsNumbered own_symbols (predicates_of x)))
      (IsCovered own_symbols (predicates_of x)) (looks_of x) (λ p h. path_covered own_symbols (predicates_of x) p h)
      (looks_fine (IsBlind own_symbols (predicates_of x)) (IsNumbered own_symbols (predicates_of x)) x fine)

  pub patterns_covered : IsCovered own_symbols (predicates_of x) (path_of_rules x.rules)
  patterns_covered = rules_covered own_symbols (predicates_of x) x.rules fine.rules
