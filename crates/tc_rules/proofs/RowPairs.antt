-- Which rows fit a letter, and where states lead by it.
use Rattle.std.proofs.Common.{◌≡◌, ℕ, zero, suc, ◌<◌, ◌≤◌, List, [], ◌∷◌, true, false, refl, ap, sym, ◌∙◌, map, length, get_or, drop, Option, Some, None, option_map, slice_get, Bor}
use Rattle.std.specs.Global.{Vec}
use Rattle.std.proofs.lemmas.List.{drop_all}
use Rattle.std.proofs.lemmas.Option.{get_or_from_slice_get, slice_get-get_or}
use Rattle.tc_model.specs.declared.sheet.Step.{Step}
use Rattle.tc_model.specs.Views as see
use Rattle.tc_model.specs.PathStates.{State}
use Rattle.tc_model.proofs.ViewsPath.{left_step}
use Rattle.tc_rules.specs.Graphs.{class_of, fits_at, kind_at}
use Rattle.tc_rules.specs.Rows.{state, states, fits_by, leads, leads_of_classes, leads_of_states, graph}
use Rattle.tc_rules.specs.Steps.{both_states, has_step}
use Rattle.tc_rules.specs.declared.graph.Graph.{Graph}
use Rattle.tc_rules.specs.declared.graph.Leads.{Leads}
use Rattle.tc_rules.specs.declared.rows.Row.{Row}
use Rattle.tc_rules.proofs.Pieces.{mapped_at, unmapped_at}
use Rattle.tc_rules.proofs.RowSteps.{element}

pub none_some : {X : Type 0} (x : X) → None ≡ Some x → ⊥
none_some x e = cc

pub step_left : (xs : List Step) (k : ℕ) → k < length xs → has_step (see.steps (drop k xs)) ≡ true
step_left xs k h = let x = element xs k h in ap has_step (left_step xs k x.0 h x.1)

pub no_step_left : (xs : List Step) (k : ℕ) → length xs ≤ k → has_step (see.steps (drop k xs)) ≡ false
no_step_left xs k h = ap (λ ys. has_step (see.steps ys)) (drop_all k xs h)

-- which steps fit a letter, by its kind and its marks
pub fit_parts : (kinds marked : List State) (c m : ℕ) (fit : State) → slice_get (get_or (fits_by kinds marked) c []) m ≡ Some fit
    → (k : State) × (s : State) × (slice_get kinds c ≡ Some k) × (slice_get marked m ≡ Some s) × (both_states k s ≡ fit)
fit_parts [] marked c m fit e = absurd (cc)
fit_parts (k ∷ kinds) marked zero m fit e = let s = unmapped_at (both_states k) marked m fit e in (k, s.0, refl, s.1, s.2)
fit_parts (k ∷ kinds) marked (suc c) m fit e = fit_parts kinds marked c m fit e

pub got_at : {X : Type 0} (xs ys : List X) (i : ℕ) (x : X) → ys ≡ xs → i < length ys → x ≡ get_or ys i x → slice_get xs i ≡ Some x
got_at xs ys i x same h e = sym (ap (λ w. slice_get w i) same) ∙ (slice_get-get_or ys i x h ∙ ap Some (sym e))

some_is : {X : Type 0} (a b : X) → Some a ≡ Some b → a ≡ b
some_is a b e = cc

pub state_is : (ends : List ℕ) (keys : List Row) (i : ℕ) (r : Row) (x : State) → slice_get keys i ≡ Some r → slice_get (states ends keys) i ≡ Some x → state ends r ≡ x
state_is ends keys i r x e f = some_is (state ends r) x (sym (mapped_at (state ends) keys i r e) ∙ f)

module _ (g : Graph) (symbol : Option ℕ) (m : ℕ) (fit : State) (o : Option (Bor Row)) where
  abbrev ends : List ℕ
  ends = g.letters.ends.items

  abbrev pub seen_row : Bor Row → State
  seen_row r = state ends r.now

  abbrev pub Elements : Type 0
  Elements = (k : ℕ) → symbol ≡ Some k → option_map seen_row o ≡ slice_get (states ends g.letters.kinds.keys) (class_of (graph g) k)

  abbrev pub Texts : Type 0
  Texts = symbol ≡ None → option_map seen_row o ≡ Some (state ends g.letters.text)

  pub letter_parts : (element : Elements) (text : Texts) → fits_at (graph g) (record { kind = kind_at symbol; marks = m }) ≡ Some fit
      → (k : State) × (s : State) × (option_map seen_row o ≡ Some k) × (slice_get (states ends g.letters.marked.items) m ≡ Some s) × (both_states k s ≡ fit)
  letter_parts element text e = by symbol refl e
    where
      by : (y : Option ℕ) → symbol ≡ y → fits_at (graph g) (record { kind = kind_at y; marks = m }) ≡ Some fit
          → (k : State) × (s : State) × (option_map seen_row o ≡ Some k) × (slice_get (states ends g.letters.marked.items) m ≡ Some s) × (both_states k s ≡ fit)
      by (Some c) is f =
          let p = fit_parts (states ends g.letters.kinds.keys) (states ends g.letters.marked.items) (class_of (graph g) c) m fit f in
          (p.0, p.1, element c is ∙ p.2, p.3, p.4)
      by None is f =
          let s = unmapped_at (both_states (state ends g.letters.text)) (states ends g.letters.marked.items) m fit f in
          (state ends g.letters.text, s.0, text is, s.1, s.2)

-- where a class leads with a set of predicates
pub lead_told : (next : List (Vec Leads)) (marked : List (List ℕ)) (i c m : ℕ) (v : Vec Leads) (l : Leads) (j : Option ℕ) → slice_get next i ≡ Some v → slice_get v.items c ≡ Some l
    → slice_get (get_or (get_or (leads_of_states marked next) i []) c []) m ≡ Some j → slice_get (leads marked l) m ≡ Some j
lead_told next marked i c m v l j e f g =
    let of_state : get_or (leads_of_states marked next) i [] ≡ leads_of_classes marked v.items =
    get_or_from_slice_get (leads_of_states marked next) i (leads_of_classes marked v.items) [] (mapped_at (λ (w : Vec Leads). leads_of_classes marked w.items) next i v e) in
    let of_class : get_or (leads_of_classes marked v.items) c [] ≡ leads marked l =
    get_or_from_slice_get (leads_of_classes marked v.items) c (leads marked l) [] (mapped_at (leads marked) v.items c l f) in
    sym (ap (λ w. slice_get (get_or w c []) m) of_state ∙ ap (λ w. slice_get w m) of_class) ∙ g

pub lead_alike : (marked : List (List ℕ)) (k : Option ℕ) (m : ℕ) (j : Option ℕ) → slice_get (map (λ s. k) marked) m ≡ Some j → k ≡ j
lead_alike [] k m j e = absurd (cc)
lead_alike (s ∷ marked) k zero j e = cc
lead_alike (s ∷ marked) k (suc m) j e = lead_alike marked k m j e

-- the row of what fits a letter
pub fit_is : (g : Graph) (symbol : Option ℕ) (m : ℕ) (fit : State) (k s : Bor Row) → Elements g symbol m fit (Some k) → Texts g symbol m fit (Some k) → Some (state g.letters.ends.items s.now) ≡ slice_get (states g.letters.ends.items g.letters.marked.items) m
    → fits_at (graph g) (record { kind = kind_at symbol; marks = m }) ≡ Some fit → both_states (state g.letters.ends.items k.now) (state g.letters.ends.items s.now) ≡ fit
fit_is g symbol m fit k s element text marked e =
    let p = letter_parts g symbol m fit (Some k) element text e in
    let kind : state g.letters.ends.items k.now ≡ p.0 = some_is (state g.letters.ends.items k.now) p.0 p.2 in
    let marks : state g.letters.ends.items s.now ≡ p.1 = some_is (state g.letters.ends.items s.now) p.1 (marked ∙ p.3) in
    ap (λ w. both_states w (state g.letters.ends.items s.now)) kind ∙ (ap (both_states p.0) marks ∙ p.4)
