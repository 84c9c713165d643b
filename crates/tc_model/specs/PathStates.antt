-- Path states: how far the steps of paths have come, going down from a node. A state has an item for each number of steps that may have been
-- taken of each alternative, all but the last step.
-- It is a state of a path automaton, determinised: the places that steps can have reached at a node.
use Rattle.std.specs.Prelude.{List, [], ◌∷◌, Bool, true, false, ◌&&◌, ◌||◌, not}
use Rattle.std.specs.List.{list_any}
use Rattle.std.specs.Cmp.Lexicographic.{pointwise}
use Rattle.tc_model.specs.Sheets.{Steps, no_step, step, Path, no_alternative, alternative, Test, MatchPattern, root_pattern, steps_pattern, Rule}
use Rattle.tc_model.specs.Symbols.{Mention}
use Rattle.tc_model.specs.SameTests.{same_truth}
use Rattle.tc_model.specs.Letters.{Letter, fits_letter}

-- of each alternative, for no step, one step, .. taken, whether there is this item
abbrev pub Items : Type 0
Items = List Bool

abbrev pub State : Type 0
State = List Items

abbrev pub no_items : Steps → Items
no_items no_step = []
no_items (step deep test when ss) = false ∷ no_items ss

-- no step is taken
abbrev pub first_items : Steps → Items
first_items no_step = []
first_items (step deep test when ss) = true ∷ no_items ss

-- the same of all alternatives of a path
abbrev pub first_state : Path → State
first_state no_alternative = []
first_state (alternative ss p) = first_items ss ∷ first_state p

-- the match patterns of all rules together as the alternatives of one path, `/` having no step and so no item
abbrev pub steps_of : MatchPattern → Steps
steps_of root_pattern = no_step
steps_of (steps_pattern ss) = ss

abbrev pub path_of_rules : List Rule → Path
path_of_rules [] = no_alternative
path_of_rules (r ∷ rules) = alternative (steps_of r.pattern) (path_of_rules rules)

-- no item is left, so there is no hit from here on
abbrev pub is_empty_state : State → Bool
is_empty_state [] = true
is_empty_state (items ∷ state) = not (list_any (λ b. b) items) && is_empty_state state

abbrev pub same_state : State → State → Bool
same_state s u = pointwise (pointwise same_truth) s u

module _ (symbols : List Mention) (predicates : List Test) where
  -- one tree further down: an item stays where `//` stands before its next step, and moves on where this step fits the tree's letter and is not
  -- the last; `comes` says whether the first item comes from the step before
  abbrev pub further : Steps → Letter → Bool → Items → Items
  further no_step l comes items = []
  further (step deep test when ss) l comes [] = comes ∷ further ss l false []
  further (step deep test when ss) l comes (b ∷ items) = ((b && deep) || comes) ∷ further ss l (b && fits_letter symbols predicates test when l) items

  -- the last step fits the letter, and all before it may have been taken
  abbrev pub ends : Steps → Items → Letter → Bool
  ends no_step items l = false
  ends (step deep test when ss) [] l = false
  ends (step deep test when no_step) (b ∷ items) l = b && fits_letter symbols predicates test when l
  ends (step deep test when (step e u v ss)) (b ∷ items) l = ends (step e u v ss) items l

  -- the same of all alternatives of a path
  abbrev pub next_state : Path → State → Letter → State
  next_state no_alternative state l = []
  next_state (alternative ss p) [] l = []
  next_state (alternative ss p) (items ∷ state) l = further ss l false items ∷ next_state p state l

  abbrev pub is_hit : Path → State → Letter → Bool
  is_hit no_alternative state l = false
  is_hit (alternative ss p) [] l = false
  is_hit (alternative ss p) (items ∷ state) l = ends ss items l || is_hit p state l
