-- Path states by which steps fit a letter: what a step sees of a letter is this alone.
use Rattle.std.specs.Prelude.{ℕ, suc, List, [], ◌∷◌, ◌++◌, Bool, true, false, ◌&&◌, ◌||◌, Option, Some, None, get_or, codes, if◌then◌else◌}
use Rattle.std.specs.Borrow.{Bor}
use Rattle.tc_model.specs.Trees.{none}
use Rattle.tc_model.specs.Chains.{an_element, a_text, Tree}
use Rattle.tc_model.specs.Sheets as s
use Rattle.tc_model.specs.Sheets.{NodeTest, Steps, no_step, step, Path, no_alternative, alternative}
use Rattle.tc_model.specs.Paths.{passes}
use Rattle.tc_model.specs.Views as see
use Rattle.tc_model.specs.Letters.{is_marked}
use Rattle.tc_model.specs.PathStates.{Items, State, first_items, no_items}
use Rattle.tc_model.specs.declared.tree.Name.{Name}
use Rattle.tc_model.specs.declared.sheet.Test.{Test}
use Rattle.tc_rules.specs.Views.{predicates}
use Rattle.tc_rules.specs.declared.rows.Sought.{Sought}
use Rattle.tc_rules.specs.declared.rows.Sought.TheVariants.{Passes, Marked, Deep, Inner}

-- an element of this name, or a text
abbrev pub tree_named : Option Name → Tree
tree_named (Some n) = an_element (see.name n) none
tree_named None = a_text (codes "t")

abbrev pub passes_name : NodeTest → Option Name → Bool
passes_name t n = passes t (tree_named n)

-- a letter by a name of its symbol, or none of a text
pub record NamedLetter : Type 0 where
  pub name : Option Name
  pub marks : ℕ

abbrev pub has_step : Steps → Bool
has_step no_step = false
has_step (step deep test when ss) = true

module _ (numbered : List (Bor Test)) where
  abbrev pub steps_fit : Steps → NamedLetter → Items
  steps_fit no_step l = []
  steps_fit (step deep test when ss) l = (passes_name test l.name && is_marked [] (predicates numbered) when l.marks) ∷ steps_fit ss l

  abbrev pub path_fits : Path → NamedLetter → State
  path_fits no_alternative l = []
  path_fits (alternative ss p) l = steps_fit ss l ∷ path_fits p l

  -- what is asked of a step, after which one comes or not
  abbrev pub step_has : Bool → Bool → NodeTest → s.Test → Sought → Bool
  step_has deep goes_on test when (Passes name) = passes_name test name
  step_has deep goes_on test when (Marked marks) = is_marked [] (predicates numbered) when marks
  step_has deep goes_on test when Deep = deep
  step_has deep goes_on test when Inner = goes_on

  abbrev pub steps_having : Steps → Sought → Items
  steps_having no_step x = []
  steps_having (step deep test when ss) x = step_has deep (has_step ss) test when x ∷ steps_having ss x

  abbrev pub path_having : Path → Sought → State
  path_having no_alternative x = []
  path_having (alternative ss p) x = steps_having ss x ∷ path_having p x

abbrev pub first_or_false : Items → Bool
first_or_false [] = false
first_or_false (b ∷ bs) = b

abbrev pub after_first : Items → Items
after_first [] = []
after_first (b ∷ bs) = bs

-- one element further down, where these steps fit it
abbrev pub further : Steps → Items → Bool → Items → Items
further no_step fits comes items = []
further (step deep test when ss) fits comes items =
    ((first_or_false items && deep) || comes) ∷ further ss (after_first fits) (first_or_false items && first_or_false fits) (after_first items)

abbrev pub first_or_none : State → Items
first_or_none [] = []
first_or_none (items ∷ row) = items

abbrev pub after_alternative : State → State
after_alternative [] = []
after_alternative (items ∷ row) = row

-- no step of an alternative fits that is left out
abbrev pub next_state : Path → State → State → State
next_state no_alternative fits row = []
next_state (alternative ss p) fits [] = []
next_state (alternative ss p) fits (items ∷ row) = further ss (first_or_none fits) false items ∷ next_state p (after_alternative fits) row

-- what both have
abbrev pub both_items : Items → Items → Items
both_items [] cs = []
both_items (b ∷ bs) cs = (b && first_or_false cs) ∷ both_items bs (after_first cs)

abbrev pub both_states : State → State → State
both_states [] y = []
both_states (items ∷ x) y = both_items items (first_or_none y) ∷ both_states x (after_alternative y)

-- the last is true
abbrev pub ends_true : Items → Bool
ends_true [] = false
ends_true (b ∷ []) = b
ends_true (b ∷ (c ∷ bs)) = ends_true (c ∷ bs)

abbrev pub ends_at : State → State → ℕ → Bool
ends_at row fits i = ends_true (get_or row i []) && ends_true (get_or fits i [])

abbrev pub some_ends : State → State → Bool
some_ends [] fits = false
some_ends (items ∷ row) [] = false
some_ends (items ∷ row) (f ∷ fits) = (ends_true items && ends_true f) || some_ends row fits

-- the numbers of the alternatives of which all steps but the last may have been taken, counted on from a number
abbrev pub ending_alternatives : ℕ → State → List ℕ
ending_alternatives i [] = []
ending_alternatives i (items ∷ row) = (if ends_true items then i ∷ [] else []) ++ ending_alternatives (suc i) row

-- no step is taken: the items that are left, the first of them being left too or not
abbrev pub items_left : Bool → Steps → Items
items_left true ss = first_items ss
items_left false ss = no_items ss
