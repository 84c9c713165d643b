-- What the tables of rules answer is what they tell.
use Rattle.std.proofs.Common.{◌≡◌, ℕ, zero, suc, ◌+◌, ◌^◌, ◌<◌, List, [], ◌∷◌, Bool, ap, sym, ◌∙◌, subst, map, Option, Some, None, option_map, slice_get, length, take, arith}
use Rattle.std.proofs.lemmas.List.{length-map}
use Rattle.std.proofs.lemmas.Option.{slice_get-map}
use Rattle.tc_model.specs.Symbols.{Mention, symbol_count}
use Rattle.tc_model.specs.Letters.{Letter, of_symbol, IsLetter}
use Rattle.tc_model.specs.PathStates.{State, next_state, path_of_rules}
use Rattle.tc_model.specs.Numberings.{predicates_of}
use Rattle.tc_rules.specs.Graphs as g
use Rattle.tc_rules.specs.Graphs.{fits_at, next_at, path_fits, LeadsTo}
use Rattle.tc_rules.specs.Steps as v
use Rattle.tc_rules.specs.Rows.{graph, graphs, ending, ending_by_states, KeepsEndings}
use Rattle.tc_rules.specs.RulesView.{IsStateOf, is_hit_of, select_below, count_states}
use Rattle.tc_model.specs.StateCounts.{PathUse, some_item, all_count}
use Rattle.tc_rules.specs.Kept.{told, IsRulesOf}
use Rattle.tc_rules.specs.declared.graph.Graph.{Graph}
use Rattle.tc_rules.specs.declared.rules.Rules.{Rules}
use Rattle.tc_rules.specs.declared.rules.Select.{Select}
use Rattle.tc_rules.proofs.Queries.{graph_of, is_hit_told, step_told, above_told, within}

some_is : {X : Type 0} {a b : X} → Some a ≡ Some b → a ≡ b
some_is e = cc

pub mapped_at : {X Y : Type 0} (f : X → Y) (xs : List X) (i : ℕ) (x : X) → slice_get xs i ≡ Some x → slice_get (map f xs) i ≡ Some (f x)
mapped_at f [] i x e = absurd (cc)
mapped_at f (y ∷ xs) zero x e = ap (λ w. Some (f w)) (some_is e)
mapped_at f (y ∷ xs) (suc i) x e = mapped_at f xs i x e

module _ (symbols : List Mention) (r : Rules) (h : IsRulesOf symbols r) (k : ℕ) (b : PathUse) (x : State) (st : IsStateOf (told r) k b x) where
  -- where a select state stands
  pub stands_at : slice_get r.selects.items k ≡ Some (record { graph = st.place; state = st.number })
  stands_at = ap (slice_get r.selects.items) st.number_is ∙ h.places st.place st.graph st.number st.graph_is (within st.graph.states st.number x st.state)

  pub select_is : (y : Select) → slice_get r.selects.items k ≡ Some y → (y.graph ≡ st.place) × (y.state ≡ st.number)
  select_is y e = let f : y ≡ record { graph = st.place; state = st.number } = some_is (sym e ∙ stands_at) in (ap (λ (z : Select). z.graph) f, ap (λ (z : Select). z.state) f)

  pub graph_is : (y : Select) (x : Graph) → slice_get r.selects.items k ≡ Some y → slice_get r.graphs.items y.graph ≡ Some x → graph x ≡ st.graph
  graph_is y x e f =
      some_is (sym (mapped_at graph r.graphs.items y.graph x f) ∙ (ap (slice_get (graphs r.graphs.items)) (select_is y e).0 ∙ st.graph_is))

  pub graph_never : (y : Select) → slice_get r.selects.items k ≡ Some y → slice_get r.graphs.items y.graph ≡ None → ⊥
  graph_never y e f =
      let here : slice_get r.graphs.items st.place ≡ None = ap (slice_get r.graphs.items) (sym (select_is y e).0) ∙ f in
      let no : Some st.graph ≡ None = sym st.graph_is ∙ (slice_get-map graph r.graphs.items st.place ∙ ap (option_map graph) here) in
      cc

  pub hit_answered : (y : Select) (gr : Graph) (l : Letter) (answer : Bool) → slice_get r.selects.items k ≡ Some y → slice_get r.graphs.items y.graph ≡ Some gr → IsLetter symbols (predicates_of (told r).sheet) l
      → (KeepsEndings gr → (u fit : State) → slice_get (graph gr).states y.state ≡ Some u → fits_at (graph gr) l ≡ Some fit → answer ≡ v.some_ends u fit) → answer ≡ is_hit_of symbols (told r) b x l
  hit_answered y gr l answer e f is says =
      let same : graph gr ≡ st.graph = graph_is y gr e f in
      let fit = path_fits symbols (predicates_of (told r).sheet) b.path l in
      let of_graph = graph_of symbols (told r) h.tells st.place b st.graph st.block st.graph_is in
      let fits : fits_at st.graph l ≡ Some fit = of_graph.fits l is in
      let here : slice_get (graph gr).states y.state ≡ Some x = ap (λ (w : g.Graph). slice_get w.states y.state) same ∙ (ap (slice_get st.graph.states) (select_is y e).1 ∙ st.state) in
      let fits_here : fits_at (graph gr) l ≡ Some fit = ap (λ (w : g.Graph). fits_at w l) same ∙ fits in
      let known : KeepsEndings gr =
      some_is (sym (mapped_at ending r.graphs.items y.graph gr f) ∙ (ap (λ w. slice_get w y.graph) h.ending ∙ mapped_at ending_by_states r.graphs.items y.graph gr f)) in
      says known x fit here fits_here ∙ is_hit_told symbols (told r) h.tells k b x fit l st is fits

  -- where it leads: nowhere, or to a state of the same path
  pub step_answered : (y : Select) (gr : Graph) (s marks : ℕ) (lead : Option ℕ) → slice_get r.selects.items k ≡ Some y → slice_get r.graphs.items y.graph ≡ Some gr
      → s < symbol_count symbols → marks < 2 ^ length (predicates_of (told r).sheet) → ((j : Option ℕ) → next_at (graph gr) y.state s marks ≡ Some j → lead ≡ j)
      → LeadsTo some_item st.graph lead (select_below symbols (told r) b x (record { kind = of_symbol s; marks = marks }))
  step_answered y gr s marks lead e f a c says =
      let same : graph gr ≡ st.graph = graph_is y gr e f in
      let t = step_told symbols (told r) h.tells k b x st s marks a c in
      let here : next_at (graph gr) y.state s marks ≡ Some t.0 = ap (λ (w : g.Graph). next_at w y.state s marks) same ∙ (ap (λ i. next_at st.graph i s marks) (select_is y e).1 ∙ t.1) in
      subst (λ (j : Option ℕ). LeadsTo some_item st.graph j (select_below symbols (told r) b x (record { kind = of_symbol s; marks = marks }))) (sym (says t.0 here)) t.2

  -- where its graph begins
  pub start_answered : (y : Select) → slice_get r.selects.items k ≡ Some y → slice_get r.starts.items y.graph ≡ Some (count_states (take st.place (told r).selects))
  start_answered y e =
      let inside : st.place < length (told r).selects = within (told r).selects st.place st.graph st.graph_is in
      let small : st.place < length r.graphs.items + 1 = omega (arith, length-map r.graphs.items graph) in
      ap (slice_get r.starts.items) (select_is y e).0 ∙ h.starts st.place small

-- the ancestor state one element further down
pub above_answered : (symbols : List Mention) (r : Rules) (h : IsRulesOf symbols r) (q s marks : ℕ) (x : State) (lead : Option ℕ) → slice_get (told r).ancestors.states q ≡ Some x
    → s < symbol_count symbols → marks < 2 ^ length (predicates_of (told r).sheet) → ((j : Option ℕ) → next_at (told r).ancestors q s marks ≡ Some j → lead ≡ j)
    → (n : ℕ) × (lead ≡ Some n) × (slice_get (told r).ancestors.states n ≡ Some (next_state symbols (predicates_of (told r).sheet) (path_of_rules (told r).sheet.rules) x (record { kind = of_symbol s; marks = marks })))
above_answered symbols r h q s marks x lead e a c says =
    let t = above_told symbols (told r) h.tells q x s marks e a c in
    by t.0 (says t.0 t.1) t.2
  where
    below : State
    below = next_state symbols (predicates_of (told r).sheet) (path_of_rules (told r).sheet.rules) x (record { kind = of_symbol s; marks = marks })

    by : (j : Option ℕ) → lead ≡ j → LeadsTo all_count (told r).ancestors j below → (n : ℕ) × (lead ≡ Some n) × (slice_get (told r).ancestors.states n ≡ Some below)
    by None f k = absurd (cc)
    by (Some n) f k = (n, f, k.1)
