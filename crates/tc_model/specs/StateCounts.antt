-- How many predicates, ancestor states, and states of moves and looks a stylesheet may have.
use Rattle.std.specs.Prelude.{ℕ, ◌<◌, List, [], ◌∷◌, ◌++◌, length, map, sum, filter, Bool, true, not, Option, None, Some}
use Rattle.tc_base.specs.declared.limits.TheConstants.{MOST_PREDICATES, MOST_ANCESTORS, MOST_SELECTS}
use Rattle.tc_model.specs.Sheets.{Path, Sheet}
use Rattle.tc_model.specs.Symbols.{Mention}
use Rattle.tc_model.specs.PathStates.{State, is_empty_state, first_state, next_state, path_of_rules}
use Rattle.tc_model.specs.Numberings.{predicates_of, moves_of, looks_of, letters_of_elements, rounds}

-- a path of a move, with its mode, or one of a look
pub record PathUse : Type 0 where
  pub path : Path
  pub mode : Option ℕ

-- those of the moves, and then those of the looks
abbrev pub blocks_of : Sheet → List PathUse
blocks_of s = map (λ m. record { path = m.path; mode = Some m.mode }) (moves_of s) ++ map (λ p. record { path = p; mode = None }) (looks_of s)

-- of ancestor states the empty one counts too
abbrev pub all_count : State → Bool
all_count x = true

-- of those of moves and looks it doesn't
abbrev pub some_item : State → Bool
some_item x = not (is_empty_state x)

module _ (symbols : List Mention) (s : Sheet) where
  -- the states of a path that count and are reached within so many rounds
  abbrev pub reached : (State → Bool) → Path → ℕ → List State
  reached counts p n = rounds counts (next_state symbols (predicates_of s) p) (letters_of_elements symbols (predicates_of s)) n (filter counts (first_state p ∷ []))

  abbrev pub PassPredicates : Type 0
  PassPredicates = MOST_PREDICATES < length (predicates_of s)

  -- the ancestor states are those of the match patterns of all rules together
  abbrev pub PassAncestors : Type 0
  PassAncestors = (n : ℕ) × (MOST_ANCESTORS < length (reached all_count (path_of_rules s.rules) n))

  abbrev pub PassSelects : Type 0
  PassSelects = (n : ℕ) × (MOST_SELECTS < sum (map (λ b. length (reached some_item b.path n)) (blocks_of s)))

  abbrev pub PassNone : Type 0
  PassNone = ¬ PassPredicates × ¬ PassAncestors × ¬ PassSelects
