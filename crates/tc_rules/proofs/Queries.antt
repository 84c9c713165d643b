-- What tables tell of a stylesheet's states.
use Rattle.std.proofs.Common.{◌≡◌, ℕ, zero, suc, ◌+◌, ◌^◌, ◌<◌, List, [], ◌∷◌, ◌++◌, Bool, true, false, not, refl, ap, sym, ◌∙◌, subst, map, Option, Some, None, slice_get, length, filter, flat_map, take, arith, if◌then◌else◌}
use Rattle.tc_model.specs.Sheets.{Path}
use Rattle.tc_model.specs.Sheets as s
use Rattle.tc_model.specs.Symbols.{Mention, symbol_count}
use Rattle.tc_model.specs.Letters.{Letter, of_symbol, IsLetter}
use Rattle.tc_model.specs.PathStates.{State, first_state, next_state, same_state, is_empty_state, path_of_rules}
use Rattle.tc_model.specs.Numberings.{predicates_of, one_round, rounds, AreReached, letters_of_elements}
use Rattle.tc_rules.specs.Graphs.{Graph, IsGraphOf, fits_at, next_at, path_fits, LeadsTo}
use Rattle.tc_rules.specs.Steps as v
use Rattle.tc_rules.specs.RulesView.{RulesView, IsTold, IsStateOf, count_states, is_hit_of, select_below}
use Rattle.tc_model.specs.StateCounts.{PathUse, blocks_of, some_item, all_count}
use Rattle.tc_alpha.proofs.Members.{Every}
use Rattle.std.proofs.lemmas.List.Sums.{sum_by-cons}
use Rattle.tc_rules.proofs.Sameness.{every_kept}
use Rattle.tc_rules.proofs.SameRows.{state_same, state_self}
use Rattle.tc_rules.proofs.Fits.{HasShape, hits_is, next_shape, first_shape}

some_is : {X : Type 0} {a b : X} → Some a ≡ Some b → a ≡ b
some_is e = cc

every_joined : {X : Type 0} (P : X → Type 0) (xs ys : List X) → Every P xs → Every P ys → Every P (xs ++ ys)
every_joined P [] ys a b = b
every_joined P (x ∷ xs) ys a b = (a.0, every_joined P xs ys a.1 b)

every_filter : {X : Type 0} (P : X → Type 0) (p : X → Bool) (xs : List X) → Every P xs → Every P (filter p xs)
every_filter P p [] a = tt
every_filter P p (x ∷ xs) a = by (p x) refl (every_filter P p xs a.1)
  where
    by : (b : Bool) → p x ≡ b → Every P (filter p xs) → Every P (filter p (x ∷ xs))
    by true e k = subst (λ (b : Bool). Every P (if b then (x ∷ filter p xs) else filter p xs)) (sym e) (a.0, k)
    by false e k = subst (λ (b : Bool). Every P (if b then (x ∷ filter p xs) else filter p xs)) (sym e) k

every_map : {X Y : Type 0} (P : Y → Type 0) (f : X → Y) (xs : List X) → ((x : X) → P (f x)) → Every P (map f xs)
every_map P f [] h = tt
every_map P f (x ∷ xs) h = (h x, every_map P f xs h)

every_flat : {X Y : Type 0} (P : X → Type 0) (Q : Y → Type 0) (f : X → List Y) (xs : List X) → ((x : X) → P x → Every Q (f x)) → Every P xs → Every Q (flat_map f xs)
every_flat P Q f [] h a = tt
every_flat P Q f (x ∷ xs) h a = every_joined Q (f x) (flat_map f xs) (h x a.0) (every_flat P Q f xs h a.1)

every_at : {X : Type 0} (P : X → Type 0) (xs : List X) (i : ℕ) (x : X) → Every P xs → slice_get xs i ≡ Some x → P x
every_at P [] i x a e = absurd (cc)
every_at P (y ∷ xs) zero x a e = subst P (some_is e) a.0
every_at P (y ∷ xs) (suc i) x a e = every_at P xs i x a.1 e

module _ (P : State → Type 0) (counts : State → Bool) (next : State → Letter → State) (letters : List Letter) (goes_on : (x : State) (l : Letter) → P x → P (next x l)) where
  round_keeps : (xs : List State) → Every P xs → Every P (one_round counts next letters xs)
  round_keeps xs a =
      every_kept same_state state_same state_self P [] (xs ++ filter counts (flat_map (λ x. map (next x) letters) xs))
      (every_joined P xs (filter counts (flat_map (λ x. map (next x) letters) xs)) a
      (every_filter P counts (flat_map (λ x. map (next x) letters) xs) (every_flat P P (λ x. map (next x) letters) xs (λ x h. every_map P (next x) letters (λ l. goes_on x l h)) a)))

  rounds_keep : (n : ℕ) (xs : List State) → Every P xs → Every P (rounds counts next letters n xs)
  rounds_keep zero xs a = a
  rounds_keep (suc n) xs a = rounds_keep n (one_round counts next letters xs) (round_keeps xs a)

  pub reached_keep : (first : State) (xs : List State) → P first → AreReached counts next letters first xs → Every P xs
  reached_keep first xs h r =
      subst (Every P) (sym r.found.1) (rounds_keep r.found.0 (filter counts (first ∷ [])) (every_filter P counts (first ∷ []) (h, tt)))

module _ (symbols : List Mention) (predicates : List s.Test) (counts : State → Bool) (p : Path) (g : Graph) (h : IsGraphOf symbols predicates counts p g) where
  -- all states have the path's shape
  pub shaped : (i : ℕ) (x : State) → slice_get g.states i ≡ Some x → HasShape p x
  shaped i x e =
      every_at (HasShape p) g.states i x
      (reached_keep (HasShape p) counts (next_state symbols predicates p) (letters_of_elements symbols predicates) (λ y l k. next_shape symbols predicates l p y k) (first_state p) g.states (first_shape p) h.states) e

  pub hit_tells : (i : ℕ) (x fit : State) (l : Letter) → slice_get g.states i ≡ Some x → IsLetter symbols predicates l → fits_at g l ≡ Some fit
      → v.some_ends x fit ≡ v.some_ends x (path_fits symbols predicates p l)
  hit_tells i x fit l e k f = ap (v.some_ends x) (some_is (sym f ∙ h.fits l k))

module _ (symbols : List Mention) (t : RulesView) (h : IsTold symbols t) where
  -- the graph of a block
  pub graph_of : (i : ℕ) (b : PathUse) (g : Graph) → slice_get (blocks_of t.sheet) i ≡ Some b → slice_get t.selects i ≡ Some g → IsGraphOf symbols (predicates_of t.sheet) some_item b.path g
  graph_of i b g e f =
      let r = h.selects i b e in
      subst (λ (x : Graph). IsGraphOf symbols (predicates_of t.sheet) some_item b.path x) (some_is (sym r.1 ∙ f)) r.2

  pub is_hit_told : (k : ℕ) (b : PathUse) (x fit : State) (l : Letter) (st : IsStateOf t k b x) → IsLetter symbols (predicates_of t.sheet) l → fits_at st.graph l ≡ Some fit
      → v.some_ends x fit ≡ is_hit_of symbols t b x l
  is_hit_told k b x fit l st is f =
      let g = graph_of st.place b st.graph st.block st.graph_is in
      hit_tells symbols (predicates_of t.sheet) some_item b.path st.graph g st.number x fit l st.state is f
      ∙ hits_is symbols (predicates_of t.sheet) l b.path x (shaped symbols (predicates_of t.sheet) some_item b.path st.graph g st.number x st.state)

not_false : (b : Bool) → not b ≡ false → b ≡ true
not_false true e = refl
not_false false e = sym e

-- the states of one graph, and then those of the others
pub counts_next : (g : Graph) (gs : List Graph) → count_states (g ∷ gs) ≡ length g.states + count_states gs
counts_next g gs = sum_by-cons (λ x. x) (length g.states) (map (λ (x : Graph). length x.states) gs)

-- the number of a state stays below that of all
pub below_all : (gs : List Graph) (i : ℕ) (g : Graph) (j : ℕ) → slice_get gs i ≡ Some g → j < length g.states → count_states (take i gs) + j < count_states gs
below_all [] i g j e h = absurd (cc)
below_all (y ∷ gs) zero g j e h =
    let same : length y.states ≡ length g.states = ap (λ (w : Graph). length w.states) (some_is e) in
    let all = counts_next y gs in
    let none : count_states (take zero (y ∷ gs)) ≡ 0 = refl in
    omega (arith, same, all, none)
below_all (y ∷ gs) (suc i) g j e h =
    let rest : count_states (take i gs) + j < count_states gs = below_all gs i g j e h in
    let all = counts_next y gs in
    let part : count_states (take (suc i) (y ∷ gs)) ≡ length y.states + count_states (take i gs) = counts_next y (take i gs) in
    omega (arith, rest, all, part)

pub within : {X : Type 0} (xs : List X) (i : ℕ) (x : X) → slice_get xs i ≡ Some x → i < length xs
within [] i x e = absurd (cc)
within (y ∷ xs) zero x e = omega arith
within (y ∷ xs) (suc i) x e = let rest : i < length xs = within xs i x e in omega arith

module _ (symbols : List Mention) (t : RulesView) (h : IsTold symbols t) where
  pub in_range : (k : ℕ) (b : PathUse) (x : State) → IsStateOf t k b x → k < count_states t.selects
  in_range k b x st =
      let below : count_states (take st.place t.selects) + st.number < count_states t.selects = below_all t.selects st.place st.graph st.number st.graph_is (within st.graph.states st.number x st.state) in
      subst (λ n. n < count_states t.selects) (sym st.number_is) below

  -- where a select state leads, as the tables have it
  pub step_told : (k : ℕ) (b : PathUse) (x : State) (st : IsStateOf t k b x) (s marks : ℕ) → s < symbol_count symbols → marks < 2 ^ length (predicates_of t.sheet)
      → (j : Option ℕ) × (next_at st.graph st.number s marks ≡ Some j) × LeadsTo some_item st.graph j (select_below symbols t b x (record { kind = of_symbol s; marks = marks }))
  step_told k b x st s marks a c = (graph_of symbols t h st.place b st.graph st.block st.graph_is).next st.number x s marks st.state a c

  -- none is left
  pub no_item_left : (k : ℕ) (b : PathUse) (x y : State) (st : IsStateOf t k b x) → LeadsTo some_item st.graph None y → is_empty_state y ≡ true
  no_item_left k b x y st e = not_false (is_empty_state y) e

  -- one of the same path
  pub goes_on : (k n : ℕ) (b : PathUse) (x y : State) (st : IsStateOf t k b x) → LeadsTo some_item st.graph (Some n) y → IsStateOf t (count_states (take st.place t.selects) + n) b y
  goes_on k n b x y st e = record { place = st.place; block = st.block; graph = st.graph; graph_is = st.graph_is; number = n; state = e.1; number_is = refl }

  -- the ancestor state one element further down has a number
  pub above_told : (q : ℕ) (x : State) (s marks : ℕ) → slice_get t.ancestors.states q ≡ Some x → s < symbol_count symbols → marks < 2 ^ length (predicates_of t.sheet)
      → (j : Option ℕ) × (next_at t.ancestors q s marks ≡ Some j)
      × LeadsTo all_count t.ancestors j (next_state symbols (predicates_of t.sheet) (path_of_rules t.sheet.rules) x (record { kind = of_symbol s; marks = marks }))
  above_told q x s marks e a c = h.ancestors.next q x s marks e a c
