-- The select states of several paths, one path after another: where each stands, and how many stand before those of each path.
use Rattle.std.specs.Prelude.{ℕ, suc, ◌+◌, ◌<◌, List, [], ◌∷◌, ◌++◌, length, map, sum, filter, get_or, Option, None, Some, ◌==◌, if◌then◌else◌}
use Rattle.tc_base.specs.declared.limits.TheConstants.{MOST_ANCESTORS, MOST_SELECTS}
use Rattle.tc_model.specs.Sheets.{Path, Test, Sheet}
use Rattle.tc_model.specs.Symbols.{Mention}
use Rattle.tc_model.specs.Numbered.{numbers_below}
use Rattle.tc_model.specs.Numberings.{moves_of, looks_of, rounds, letters_of_elements}
use Rattle.tc_model.specs.PathStates.{State, first_state, next_state}
use Rattle.tc_rules.specs.Classes.{IsSourceOf}
use Rattle.tc_rules.specs.Graphs.{Graph, IsGraphOf}
use Rattle.tc_rules.specs.Views.{predicates}
use Rattle.tc_model.specs.StateCounts.{all_count, some_item}
use Rattle.tc_rules.specs.declared.graph.Source.{Source}
use Rattle.tc_rules.specs.declared.rules.Select.{Select}
use Rattle.tc_rules.specs.declared.rules.RulesFault.{RulesFault}
use Rattle.tc_rules.specs.declared.rules.RulesFault.TheVariants.{TooManyPredicates, TooManyAncestorStates, TooManySelectStates, NoMemory}

-- the paths of the moves and then of the looks of a stylesheet
abbrev pub paths_of : Sheet → List Path
paths_of x = map (λ m. m.path) (moves_of x) ++ looks_of x

abbrev pub selects_from : ℕ → List Graph → List Select
selects_from i [] = []
selects_from i (g ∷ gs) = map (λ j. record { graph = i; state = j }) (numbers_below (length g.states)) ++ selects_from (suc i) gs

abbrev pub starts_from : ℕ → List Graph → List ℕ
starts_from n [] = n ∷ []
starts_from n (g ∷ gs) = n ∷ starts_from (n + length g.states) gs

-- the number of the first state of a graph, if it has states
abbrev pub first_from : List Graph → List ℕ → ℕ → Option ℕ
first_from gs starts i = if 0 == length (get_or (map (λ g. g.states) gs) i []) then None else Some (get_or starts i 0)

module _ (symbols : List Mention) (tests : List Test) where
  -- the graphs of the states of paths that are not empty
  abbrev pub AreGraphs : List Path → List Graph → Type 0
  AreGraphs [] [] = Unit {0}
  AreGraphs [] (g ∷ gs) = ⊥
  AreGraphs (p ∷ ps) [] = ⊥
  AreGraphs (p ∷ ps) (g ∷ gs) = IsGraphOf symbols tests some_item p g × AreGraphs ps gs

  -- the states of a path that are found within so many rounds, but for the empty one
  abbrev pub states_by : Path → ℕ → List State
  states_by p n = rounds some_item (next_state symbols tests p) (letters_of_elements symbols tests) n (filter some_item (first_state p ∷ []))

  abbrev pub count_by : List Path → ℕ → ℕ
  count_by ps n = sum (map (λ p. length (states_by p n)) ps)

  -- and all of them
  abbrev pub all_states_by : Path → ℕ → List State
  all_states_by p n = rounds all_count (next_state symbols tests p) (letters_of_elements symbols tests) n (filter all_count (first_state p ∷ []))

-- why there is no graph of the ancestor states
abbrev pub IsAncestorCause : Source → Path → RulesFault → Type 0
IsAncestorCause x p TooManyPredicates = ⊥
IsAncestorCause x p TooManyAncestorStates = (symbols : List Mention) → IsSourceOf symbols x → (n : ℕ) × (MOST_ANCESTORS < length (all_states_by symbols (predicates x.predicates.items) p n))
IsAncestorCause x p TooManySelectStates = ⊥
IsAncestorCause x p NoMemory = Unit {0}

-- why there is no graph of one more path, where so many select states may still be
abbrev pub IsNextCause : Source → Path → ℕ → RulesFault → Type 0
IsNextCause x p left TooManyPredicates = ⊥
IsNextCause x p left TooManyAncestorStates = ⊥
IsNextCause x p left TooManySelectStates = (symbols : List Mention) → IsSourceOf symbols x → (n : ℕ) × (left < length (states_by symbols (predicates x.predicates.items) p n))
IsNextCause x p left NoMemory = Unit {0}

-- why there are no graphs of several paths
abbrev pub IsSelectCause : Source → List Path → RulesFault → Type 0
IsSelectCause x ps TooManyPredicates = ⊥
IsSelectCause x ps TooManyAncestorStates = ⊥
IsSelectCause x ps TooManySelectStates = (symbols : List Mention) → IsSourceOf symbols x → (n : ℕ) × (MOST_SELECTS < count_by symbols (predicates x.predicates.items) ps n)
IsSelectCause x ps NoMemory = Unit {0}
