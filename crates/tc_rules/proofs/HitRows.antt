-- What hits below states: which alternatives may end.
use Rattle.std.proofs.Common.{◌≡◌, ℕ, suc, ◌+◌, ◌<◌, ◌≤◌, List, [], ◌∷◌, ◌++◌, Bool, true, false, ◌&&◌, ◌||◌, refl, ap, sym, ◌∙◌, subst, map, length, get_or, drop, append_assoc, add-one, arith, Some, slice_get, if◌then◌else◌}
use Rattle.std.specs.List.{list_any}
use Rattle.std.specs.Global.{Vec}
use Rattle.std.proofs.lemmas.List.{drop_more, drop_all}
use Rattle.std.proofs.lemmas.Option.{get_or_from_slice_get}
use Rattle.tc_model.specs.PathStates.{State}
use Rattle.tc_rules.specs.Rows.{state, states, lists, endings_of, ending, ending_by_states, KeepsEndings, AllKeepEndings}
use Rattle.tc_rules.specs.Steps.{ends_true, ends_at, some_ends, ending_alternatives}
use Rattle.tc_rules.specs.declared.graph.Graph.{Graph}
use Rattle.tc_rules.specs.declared.rows.Row.{Row}
use Rattle.tc_rules.proofs.GraphRows.{left_one}
use Rattle.tc_rules.proofs.Pieces.{mapped_at}
use Rattle.tc_rules.proofs.RowSteps.{one_more, map_push, no_end}

-- one alternative more that may end, or none
pub ending_goes : (all old now : List ℕ) (row : State) (i : ℕ) (items : List Bool) → i < length row → items ≡ get_or row i [] → now ≡ old ++ (if ends_true items then i ∷ [] else [])
    → all ≡ old ++ ending_alternatives i (drop i row) → all ≡ now ++ ending_alternatives (i + 1) (drop (i + 1) row)
ending_goes all old now row i items h of_row put k =
    let rest : State = drop (i + 1) row in
    let one : List ℕ = if ends_true items then i ∷ [] else [] in
    let left : drop i row ≡ items ∷ rest = drop_more row i [] h ∙ ap (λ w. w ∷ rest) (sym of_row) in
    k ∙ (ap (λ w. old ++ ending_alternatives i w) left
    ∙ (ap (λ n. old ++ (one ++ ending_alternatives n rest)) (sym (add-one i))
    ∙ (sym (append_assoc old one (ending_alternatives (i + 1) rest)) ∙ ap (λ w. w ++ ending_alternatives (i + 1) rest) (sym put))))

-- some alternative ends where one of those that may does
one_or_none : (P : ℕ → Bool) (b : Bool) (i : ℕ) (rest : List ℕ) → list_any P ((if b then i ∷ [] else []) ++ rest) ≡ ((b && P i) || list_any P rest)
one_or_none P true i rest = refl
one_or_none P false i rest = refl

twice : (a b : Bool) → (a && (a && b)) ≡ (a && b)
twice true b = refl
twice false b = refl

twice_none : (a : Bool) → (a && (a && false)) ≡ false
twice_none true = refl
twice_none false = refl

ends_told : (P : ℕ → Bool) (i : ℕ) (row fit : State) → ((j : ℕ) → P (i + j) ≡ ends_at row fit j) → some_ends row fit ≡ list_any P (ending_alternatives i row)
ends_told P i [] fit h = refl
ends_told P i (items ∷ row) [] h =
    let at : i ≡ i + 0 = omega arith in
    let here : P i ≡ (ends_true items && false) = ap P at ∙ h 0 in
    let rest : some_ends row [] ≡ list_any P (ending_alternatives (suc i) row) =
    ends_told P (suc i) row [] (λ j. let next : suc i + j ≡ i + suc j = omega arith in ap P next ∙ h (suc j)) in
    sym (one_or_none P (ends_true items) i (ending_alternatives (suc i) row)
    ∙ (ap (λ w. (ends_true items && w) || list_any P (ending_alternatives (suc i) row)) here
    ∙ (ap (λ w. w || list_any P (ending_alternatives (suc i) row)) (twice_none (ends_true items)) ∙ (sym rest ∙ no_end row))))
ends_told P i (items ∷ row) (f ∷ fit) h =
    let at : i ≡ i + 0 = omega arith in
    let here : P i ≡ (ends_true items && ends_true f) = ap P at ∙ h 0 in
    let rest : some_ends row fit ≡ list_any P (ending_alternatives (suc i) row) =
    ends_told P (suc i) row fit (λ j. let next : suc i + j ≡ i + suc j = omega arith in ap P next ∙ h (suc j)) in
    ap (λ w. (ends_true items && ends_true f) || w) rest
    ∙ (ap (λ w. w || list_any P (ending_alternatives (suc i) row)) (sym (twice (ends_true items) (ends_true f)))
    ∙ (ap (λ w. (ends_true items && w) || list_any P (ending_alternatives (suc i) row)) (sym here) ∙ sym (one_or_none P (ends_true items) i (ending_alternatives (suc i) row))))

hits_told : (x fit : State) → some_ends x fit ≡ list_any (ends_at x fit) (ending_alternatives 0 x)
hits_told x fit = ends_told (ends_at x fit) 0 x fit (λ j. let same : 0 + j ≡ j = omega arith in ap (ends_at x fit) same)

-- so of a graph's state the alternatives tell it that are kept for it
pub hits_kept : (g : Graph) (i : ℕ) (x fit : State) → KeepsEndings g → slice_get (states g.letters.ends.items g.states.keys) i ≡ Some x → list_any (ends_at x fit) (get_or (ending g) i []) ≡ some_ends x fit
hits_kept g i x fit known here =
    let same : ending g ≡ ending_by_states g = known in
    let asked : get_or (ending g) i [] ≡ ending_alternatives 0 x =
    ap (λ (w : List (List ℕ)). get_or w i []) same ∙ get_or_from_slice_get (ending_by_states g) i (ending_alternatives 0 x) [] (mapped_at (ending_alternatives 0) (states g.letters.ends.items g.states.keys) i x here) in
    ap (list_any (ends_at x fit)) asked ∙ sym (hits_told x fit)

module _ (P : ℕ → Bool) (xs : List ℕ) (i d : ℕ) (r all : Bool) (l : i < length xs) (h : r ≡ P (get_or xs i d)) (k : all ≡ list_any P (drop i xs)) where
  any_goes : all ≡ (r || list_any P (drop (i + 1) xs))
  any_goes = k ∙ (ap (list_any P) (drop_more xs i d l) ∙ ap (λ b. b || list_any P (drop (i + 1) xs)) (sym h))

  pub any_here : r ≡ true → true ≡ all
  any_here e = sym (any_goes ∙ ap (λ b. b || list_any P (drop (i + 1) xs)) e)

  pub any_later : r ≡ false → all ≡ list_any P (drop (i + 1) xs)
  any_later e = any_goes ∙ ap (λ b. b || list_any P (drop (i + 1) xs)) e

pub any_none : (P : ℕ → Bool) (xs : List ℕ) (i : ℕ) (all : Bool) → length xs ≤ i → all ≡ list_any P (drop i xs) → false ≡ all
any_none P xs i all l k = sym (k ∙ ap (list_any P) (drop_all i xs l))

-- one state more
pub one_state_ending : (ends : List ℕ) (all : List (List ℕ)) (old : List (Vec ℕ)) (w : Vec ℕ) (xs : List Row) (i : ℕ) (x : Row) → i < length xs → x ≡ get_or xs i x → w.items ≡ ending_alternatives 0 (state ends x)
    → all ≡ lists old ++ endings_of (states ends (drop i xs)) → all ≡ lists (old ++ w ∷ []) ++ endings_of (states ends (drop (i + 1) xs))
one_state_ending ends all old w xs i x h e is k =
    one_more all (lists old) _ _ _ w.items (map_push (λ (v : Vec ℕ). v.items) old w)
    (ap (λ v. endings_of (states ends v)) (left_one xs i x h e) ∙ ap (λ v. v ∷ endings_of (states ends (drop (i + 1) xs))) (sym is)) k

pub none_ends : (P : ℕ → Bool) (xs : List ℕ) → length xs ≤ 0 → false ≡ list_any P xs
none_ends P [] h = refl
none_ends P (x ∷ xs) h = absurd (omega (arith, h))

-- one graph more
pub know_more : (old new : List Graph) (g : Graph) → new ≡ old ++ g ∷ [] → AllKeepEndings old → KeepsEndings g → AllKeepEndings new
know_more old new g put so_far here =
    subst AllKeepEndings (sym put)
    (map_push ending old g
    ∙ (ap (λ w. w ++ ending g ∷ []) so_far ∙ (ap (λ w. map ending_by_states old ++ w ∷ []) here ∙ sym (map_push ending_by_states old g))))
