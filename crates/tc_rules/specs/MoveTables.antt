-- Different moves, found among many by numbers that equal ones share.
use Rattle.std.specs.Prelude.{◌≡◌, ◌<◌, ◌≤◌, ◌%◌, ℕ, List, [], ◌∷◌, length, map, filter, sum, get_or, slice_get, Option, None, Some, Bool, true, false, nat_eq}
use Rattle.std.specs.List.{list_any}
use Rattle.tc_base.specs.declared.limits.TheConstants.{MOST_SELECTS}
use Rattle.tc_model.specs.Numberings as n
use Rattle.tc_model.specs.PathStates.{first_state}
use Rattle.tc_model.specs.Sheets.{Path, Test}
use Rattle.tc_model.specs.StateCounts.{some_item}
use Rattle.tc_rules.specs.Gathered.{numbers}
use Rattle.tc_rules.specs.Mixed.{mixed_move}
use Rattle.tc_rules.specs.Views.{moves}
use Rattle.tc_rules.specs.declared.move_table.MoveTable.{MoveTable}
use Rattle.tc_rules.specs.declared.rules.RulesFault.{RulesFault}
use Rattle.tc_rules.specs.declared.rules.RulesFault.TheVariants.{TooManyPredicates, TooManyAncestorStates, TooManySelectStates, NoMemory}

abbrev pub is_move : n.Move → Option n.Move → Bool
is_move m None = false
is_move m (Some other) = n.same_move m other

-- whether the move of a number is the same
abbrev pub is_move_at : List n.Move → n.Move → ℕ → Bool
is_move_at ms m i = is_move m (slice_get ms i)

abbrev pub paths : List n.Move → List Path
paths ms = map (λ m. m.path) ms

-- the move of one mode on a path
abbrev pub move_on : Path → n.Move
move_on p = record { path = p; mode = 0 }

-- how many of the paths have a first state that isn't empty
abbrev pub begun : List Path → ℕ
begun ps = sum (map (λ p. length (filter some_item (first_state p ∷ []))) ps)

-- why different paths aren't kept
abbrev pub IsPathsCause : List Path → RulesFault → Type 0
IsPathsCause ps TooManyPredicates = ⊥
IsPathsCause ps TooManyAncestorStates = ⊥
IsPathsCause ps TooManySelectStates = MOST_SELECTS < begun ps
IsPathsCause ps NoMemory = Unit {0}

-- each move stands at the place of its number
pub record IsFiled (tests : List Test) (modes : ℕ) (t : MoveTable) : Type 0 where
  pub some : 0 < length t.places.items
  pub few : length t.places.items ≤ 4093
  pub filed : (i : ℕ) (m : n.Move) → slice_get (moves modes t.moves.items) i ≡ Some m → list_any (nat_eq i) (get_or (numbers t.places.items) (mixed_move tests m % length t.places.items) []) ≡ true
  pub counted : t.begun ≡ begun (paths (moves modes t.moves.items))
  pub within : t.begun ≤ MOST_SELECTS
