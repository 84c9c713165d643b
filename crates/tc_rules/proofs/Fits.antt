-- What path states see of a letter is which steps fit it.
use Rattle.std.proofs.Common.{◌≡◌, ℕ, List, [], ◌∷◌, Bool, false, ◌&&◌, ◌||◌, refl, ap, ◌∙◌, Bor}
use Rattle.tc_model.specs.Sheets.{Steps, no_step, step, Path, no_alternative, alternative, always, never, has, negated, all_of, any_of}
use Rattle.tc_model.specs.Sheets as s
use Rattle.tc_model.specs.Symbols.{Mention}
use Rattle.tc_model.specs.Paths.{passes}
use Rattle.tc_model.specs.Letters.{Letter, tree_of, is_marked}
use Rattle.tc_model.specs.PathStates.{Items, State, further, next_state, ends, is_hit, first_items, no_items, first_state}
use Rattle.tc_model.specs.declared.sheet.Test.{Test}
use Rattle.tc_rules.specs.Views as seen
use Rattle.tc_rules.specs.Graphs.{steps_fit, path_fits}
use Rattle.tc_rules.specs.Steps as v

-- of a path's steps, one truth value each
abbrev pub HasItems : Steps → Items → Type 0
HasItems no_step [] = Unit {0}
HasItems no_step (b ∷ bs) = ⊥
HasItems (step d t w ss) [] = ⊥
HasItems (step d t w ss) (b ∷ bs) = HasItems ss bs

abbrev pub HasShape : Path → State → Type 0
HasShape no_alternative [] = Unit {0}
HasShape no_alternative (x ∷ xs) = ⊥
HasShape (alternative ss p) [] = ⊥
HasShape (alternative ss p) (x ∷ xs) = HasItems ss x × HasShape p xs

module _ (symbols : List Mention) (predicates : List s.Test) where
  same_mark : (other : List Mention) (when : s.Test) (marks : ℕ) → is_marked other predicates when marks ≡ is_marked symbols predicates when marks
  same_mark other always marks = refl
  same_mark other never marks = refl
  same_mark other (has p) marks = refl
  same_mark other (negated t) marks = refl
  same_mark other (all_of ts) marks = refl
  same_mark other (any_of ts) marks = refl

  module _ (numbered : List (Bor Test)) (a : v.NamedLetter) (l : Letter) (same_predicates : seen.predicates numbered ≡ predicates)
      (same_tree : v.tree_named a.name ≡ tree_of symbols predicates l.kind) (same_marks : a.marks ≡ l.marks) where
    one_fits : (t : s.NodeTest) (when : s.Test)
        → (v.passes_name t a.name && is_marked [] (seen.predicates numbered) when a.marks) ≡ (passes t (tree_of symbols predicates l.kind) && is_marked symbols predicates when l.marks)
    one_fits t when =
        ap (λ u. passes t u && is_marked [] (seen.predicates numbered) when a.marks) same_tree
        ∙ (ap (λ ps. passes t (tree_of symbols predicates l.kind) && is_marked [] ps when a.marks) same_predicates
        ∙ (ap (λ m. passes t (tree_of symbols predicates l.kind) && is_marked [] predicates when m) same_marks
        ∙ ap (λ b. passes t (tree_of symbols predicates l.kind) && b) (same_mark [] when l.marks)))

    pub steps_fit_is : (ss : Steps) → v.steps_fit numbered ss a ≡ steps_fit symbols predicates ss l
    steps_fit_is no_step = refl
    steps_fit_is (step d t when ss) =
        ap (λ b. b ∷ v.steps_fit numbered ss a) (one_fits t when) ∙ ap (λ bs. (passes t (tree_of symbols predicates l.kind) && is_marked symbols predicates when l.marks) ∷ bs) (steps_fit_is ss)

    pub path_fits_is : (p : Path) → v.path_fits numbered p a ≡ path_fits symbols predicates p l
    path_fits_is no_alternative = refl
    path_fits_is (alternative ss p) =
        ap (λ x. x ∷ v.path_fits numbered p a) (steps_fit_is ss) ∙ ap (λ xs. steps_fit symbols predicates ss l ∷ xs) (path_fits_is p)

  module _ (l : Letter) where
    pub further_is : (ss : Steps) (comes : Bool) (items : Items) → v.further ss (steps_fit symbols predicates ss l) comes items ≡ further symbols predicates ss l comes items
    further_is no_step comes items = refl
    further_is (step d t when ss) comes [] = ap (λ bs. comes ∷ bs) (further_is ss false [])
    further_is (step d t when ss) comes (b ∷ items) =
        ap (λ bs. ((b && d) || comes) ∷ bs) (further_is ss (b && (passes t (tree_of symbols predicates l.kind) && is_marked symbols predicates when l.marks)) items)

    pub next_is : (p : Path) (x : State) → v.next_state p (path_fits symbols predicates p l) x ≡ next_state symbols predicates p x l
    next_is no_alternative x = refl
    next_is (alternative ss p) [] = refl
    next_is (alternative ss p) (items ∷ x) =
        ap (λ w. w ∷ v.next_state p (path_fits symbols predicates p l) x) (further_is ss false items)
        ∙ ap (λ w. further symbols predicates ss l false items ∷ w) (next_is p x)

    pub ends_is : (ss : Steps) (items : Items) → HasItems ss items → (v.ends_true items && v.ends_true (steps_fit symbols predicates ss l)) ≡ ends symbols predicates ss items l
    ends_is no_step [] h = refl
    ends_is no_step (b ∷ bs) h = absurd h
    ends_is (step d t when ss) [] h = absurd h
    ends_is (step d t when no_step) (b ∷ []) h = refl
    ends_is (step d t when no_step) (b ∷ (c ∷ bs)) h = absurd h
    ends_is (step d t when (step e u w ss)) (b ∷ []) h = absurd h
    ends_is (step d t when (step e u w ss)) (b ∷ (c ∷ bs)) h = ends_is (step e u w ss) (c ∷ bs) h

    pub hits_is : (p : Path) (x : State) → HasShape p x → v.some_ends x (path_fits symbols predicates p l) ≡ is_hit symbols predicates p x l
    hits_is no_alternative [] h = refl
    hits_is no_alternative (x ∷ xs) h = absurd h
    hits_is (alternative ss p) [] h = absurd h
    hits_is (alternative ss p) (items ∷ x) h =
        ap (λ b. b || v.some_ends x (path_fits symbols predicates p l)) (ends_is ss items h.0)
        ∙ ap (λ b. ends symbols predicates ss items l || b) (hits_is p x h.1)

    further_items : (ss : Steps) (comes : Bool) (items : Items) → HasItems ss (further symbols predicates ss l comes items)
    further_items no_step comes items = tt
    further_items (step d t when ss) comes [] = further_items ss false []
    further_items (step d t when ss) comes (b ∷ items) = further_items ss (b && (passes t (tree_of symbols predicates l.kind) && is_marked symbols predicates when l.marks)) items

    -- a state goes on to one of the same shape
    pub next_shape : (p : Path) (x : State) → HasShape p x → HasShape p (next_state symbols predicates p x l)
    next_shape no_alternative [] h = tt
    next_shape no_alternative (x ∷ xs) h = absurd h
    next_shape (alternative ss p) [] h = absurd h
    next_shape (alternative ss p) (items ∷ x) h = (further_items ss false items, next_shape p x h.1)

no_items_shape : (ss : Steps) → HasItems ss (no_items ss)
no_items_shape no_step = tt
no_items_shape (step d t w ss) = no_items_shape ss

first_items_shape : (ss : Steps) → HasItems ss (first_items ss)
first_items_shape no_step = tt
first_items_shape (step d t w ss) = no_items_shape ss

pub first_shape : (p : Path) → HasShape p (first_state p)
first_shape no_alternative = tt
first_shape (alternative ss p) = (first_items_shape ss, first_shape p)
