-- The numbers of a stylesheet's predicates, moves and looks, and of the path states on which they go. They are in the order of the stylesheet, but for
-- the moves of built-in rules, which come first, and the looks of predicates, which come last: its rules, each with its pattern and then its body, and
-- then the named bodies; in a body the instructions as they stand, each before those inside it, and in a branch the test before the body.
-- What is done on the nodes that a move selects is a job (`Job`), a mode of templates or a for-each, and not
-- one number for both, which together may pass 32 bits.
use Rattle.std.specs.Prelude.{◌≡◌, ℕ, zero, suc, ◌+◌, ◌^◌, List, [], ◌∷◌, ◌++◌, length, map, filter, flat_map, Bool, ◌&&◌, nat_eq}
use Rattle.tc_model.specs.Sheets.{Steps, no_step, step, Path, no_alternative, alternative, Test, always, never, has, negated, all_of, any_of, Tests, no_test, test, MatchPattern, root_pattern, steps_pattern, Body, no_instruction, put_text, put_element, copy, apply, call, for_each, value, value_of_self, choose, Branches, otherwise, branch, Sheet}
use Rattle.tc_model.specs.Meaning.{all_children}
use Rattle.tc_model.specs.Symbols.{Mention, symbol_count}
use Rattle.tc_model.specs.SameTests.{same_path, same_test}
use Rattle.tc_model.specs.Numbered.{numbers_below, each_once}
use Rattle.tc_model.specs.Letters.{Letter, of_symbol}
use Rattle.tc_model.specs.PathStates.{State, same_state}

-- a predicate that says something
abbrev pub as_predicate : Test → List Test
as_predicate always = []
as_predicate p = p ∷ []

abbrev mutual
  -- the predicates of steps, a step's own before those inside it
  pub predicates_in_steps : Steps → List Test
  predicates_in_steps no_step = []
  predicates_in_steps (step deep t when ss) = as_predicate when ++ (predicates_in_test when ++ predicates_in_steps ss)

  pub predicates_in_path : Path → List Test
  predicates_in_path no_alternative = []
  predicates_in_path (alternative ss p) = predicates_in_steps ss ++ predicates_in_path p

  pub predicates_in_test : Test → List Test
  predicates_in_test always = []
  predicates_in_test never = []
  predicates_in_test (has p) = predicates_in_path p
  predicates_in_test (negated t) = predicates_in_test t
  predicates_in_test (all_of ts) = predicates_in_tests ts
  predicates_in_test (any_of ts) = predicates_in_tests ts

  pub predicates_in_tests : Tests → List Test
  predicates_in_tests no_test = []
  predicates_in_tests (test t ts) = predicates_in_test t ++ predicates_in_tests ts

abbrev pub predicates_in_pattern : MatchPattern → List Test
predicates_in_pattern root_pattern = []
predicates_in_pattern (steps_pattern ss) = predicates_in_steps ss

abbrev mutual
  pub predicates_in_body : Body → List Test
  predicates_in_body no_instruction = []
  predicates_in_body (put_text x b) = predicates_in_body b
  predicates_in_body (put_element n inner b) = predicates_in_body inner ++ predicates_in_body b
  predicates_in_body (copy inner b) = predicates_in_body inner ++ predicates_in_body b
  predicates_in_body (apply p m b) = predicates_in_path p ++ predicates_in_body b
  predicates_in_body (call n b) = predicates_in_body b
  predicates_in_body (value p b) = predicates_in_path p ++ predicates_in_body b
  predicates_in_body (value_of_self b) = predicates_in_body b
  predicates_in_body (choose x b) = predicates_in_branches x ++ predicates_in_body b
  predicates_in_body (for_each e p inner b) = predicates_in_path p ++ (predicates_in_body inner ++ predicates_in_body b)

  pub predicates_in_branches : Branches → List Test
  predicates_in_branches (otherwise b) = predicates_in_body b
  predicates_in_branches (branch t b x) = predicates_in_test t ++ (predicates_in_body b ++ predicates_in_branches x)

-- the predicates of a stylesheet, numbered from 0
abbrev pub predicates_of : Sheet → List Test
predicates_of s = each_once same_test (flat_map (λ r. predicates_in_pattern r.pattern ++ predicates_in_body r.body) s.rules ++ flat_map predicates_in_body s.named)

-- a path that selects, and the mode in which; a for-each has a mode of its own
pub record Move : Type 0 where
  pub path : Path
  pub mode : ℕ

abbrev pub same_move : Move → Move → Bool
same_move a b = nat_eq a.mode b.mode && same_path a.path b.path

-- the for-each of a number has the mode of this number, counted on from the modes
module _ (modes : ℕ) where
  abbrev mutual
    pub moves_in_body : Body → List Move
    moves_in_body no_instruction = []
    moves_in_body (put_text x b) = moves_in_body b
    moves_in_body (put_element n inner b) = moves_in_body inner ++ moves_in_body b
    moves_in_body (copy inner b) = moves_in_body inner ++ moves_in_body b
    moves_in_body (apply p m b) = record { path = p; mode = m } ∷ moves_in_body b
    moves_in_body (call n b) = moves_in_body b
    moves_in_body (value p b) = moves_in_body b
    moves_in_body (value_of_self b) = moves_in_body b
    moves_in_body (choose x b) = moves_in_branches x ++ moves_in_body b
    moves_in_body (for_each e p inner b) = record { path = p; mode = modes + e } ∷ (moves_in_body inner ++ moves_in_body b)

    pub moves_in_branches : Branches → List Move
    moves_in_branches (otherwise b) = moves_in_body b
    moves_in_branches (branch t b x) = moves_in_body b ++ moves_in_branches x

-- of the built-in rules the move to all children in each mode, and then those of the stylesheet
abbrev pub moves_of : Sheet → List Move
moves_of s =
    each_once same_move
    (map (λ m. record { path = all_children; mode = m }) (numbers_below s.modes)
    ++ (flat_map (λ r. moves_in_body s.modes r.body) s.rules ++ flat_map (moves_in_body s.modes) s.named))

abbrev mutual
  -- the paths of tests, but for those inside their predicates
  pub looks_in_test : Test → List Path
  looks_in_test always = []
  looks_in_test never = []
  looks_in_test (has p) = p ∷ []
  looks_in_test (negated t) = looks_in_test t
  looks_in_test (all_of ts) = looks_in_tests ts
  looks_in_test (any_of ts) = looks_in_tests ts

  pub looks_in_tests : Tests → List Path
  looks_in_tests no_test = []
  looks_in_tests (test t ts) = looks_in_test t ++ looks_in_tests ts

abbrev mutual
  pub looks_in_body : Body → List Path
  looks_in_body no_instruction = []
  looks_in_body (put_text x b) = looks_in_body b
  looks_in_body (put_element n inner b) = looks_in_body inner ++ looks_in_body b
  looks_in_body (copy inner b) = looks_in_body inner ++ looks_in_body b
  looks_in_body (apply p m b) = looks_in_body b
  looks_in_body (call n b) = looks_in_body b
  looks_in_body (value p b) = p ∷ looks_in_body b
  looks_in_body (value_of_self b) = looks_in_body b
  looks_in_body (choose x b) = looks_in_branches x ++ looks_in_body b
  looks_in_body (for_each e p inner b) = looks_in_body inner ++ looks_in_body b

  pub looks_in_branches : Branches → List Path
  looks_in_branches (otherwise b) = looks_in_body b
  looks_in_branches (branch t b x) = looks_in_test t ++ (looks_in_body b ++ looks_in_branches x)

-- the looks: the paths of values and tests of the stylesheet, and then those of its predicates
abbrev pub looks_of : Sheet → List Path
looks_of s = each_once same_path (flat_map (λ r. looks_in_body r.body) s.rules ++ (flat_map looks_in_body s.named ++ flat_map looks_in_test (predicates_of s)))

-- the letters of elements, in the order of their symbols and then of their marks
abbrev pub letters_of_elements : List Mention → List Test → List Letter
letters_of_elements symbols predicates =
    flat_map (λ k. map (λ marks. record { kind = of_symbol k; marks = marks }) (numbers_below (2 ^ length predicates))) (numbers_below (symbol_count symbols))

-- states in the order in which they are first reached: after those found so far come those to which these lead, state by state and letter by letter
-- The states of a path automaton, determinised. They go by rounds, since a definition has to tell an order;
-- code that goes state by state is proved to give the same one. Which states are reached depends on no order,
-- and `all` says that no round finds more.
module _ (counts : State → Bool) (next : State → Letter → State) (letters : List Letter) where
  abbrev pub one_round : List State → List State
  one_round states = each_once same_state (states ++ filter counts (flat_map (λ s. map (next s) letters) states))

  abbrev pub rounds : ℕ → List State → List State
  rounds zero states = states
  rounds (suc n) states = rounds n (one_round states)

  -- all states that are reached from the first, where no round finds a further one
  pub record AreReached (first : State) (states : List State) : Type 0 where
    pub found : (n : ℕ) × (states ≡ rounds n (filter counts (first ∷ [])))
    pub all : one_round states ≡ states
