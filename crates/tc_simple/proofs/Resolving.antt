-- What the components and the marks of definitions say of a schema.
use Rattle.std.proofs.Common.{◌≡◌, ◌⊎◌, inl, inr, ℕ, zero, suc, ◌+◌, ◌<◌, ◌≤◌, Bool, true, false, cond, ◌&&◌, List, [], ◌∷◌, ◌++◌, refl, ap, ◌∙◌, sym, subst, arith, length, Option, None, Some, slice_index, add-one}
use Rattle.std.specs.List.{filter_map, list_all}
use Rattle.std.proofs.lemmas.Bool.{cases_lt, eq-eqb, true≢false}
use Rattle.std.proofs.lemmas.Option.{slice_get_within}
use Rattle.std.proofs.lemmas.List.{length-map}
use Rattle.tc_model.specs.CompactSyntaxTrees.{SyntaxPattern, empty, not_allowed, text, attribute, ref, element, mixed, optional, zero_or_more, one_or_more, group, choice, interleave, Syntax}
use Rattle.tc_model.specs.SimplifiesParts.{definitions_of, pattern_of, Below, Reached}
use Rattle.tc_model.specs.SimplifiesFaults.{may_start, first_definition, IsAcyclic, IsCircular, IsLoop, IsBadStart}
use Rattle.tc_model.proofs.SimplifiesUnique.{Has, here, there, has_from_index}
use Rattle.tc_model.proofs.CompactSyntaxClassesUnique.{same_some, some_none}
use Rattle.tc_rnc.specs.Views as see
use Rattle.tc_rnc.specs.declared.syntax.SPat.{SPat}
use Rattle.tc_graph.specs.Graph.{Edge, Path, edge, further, Leads, IsReached, is_marked}
use Rattle.tc_simple.specs.Tables.{number_of, IsTable}
use Rattle.tc_simple.specs.Nodes.{nodes, target, pattern_at, link_rows, loop_at, loops_below, marked_loops, IsFirstLoop, StartsWell, StartsBadly}
use Rattle.tc_simple.specs.Orders.{Refers, IsOrderly}
use Rattle.tc_simple.specs.Resolves.{Resolves}
use Rattle.tc_graph.proofs.Joined as joined
use Rattle.tc_graph.specs.Walks.{same_component, state_at}
use Rattle.tc_graph.specs.declared.cycles.State.{State}
use Rattle.tc_graph.specs.declared.cycles.State.TheVariants.{New, Done}
use Rattle.tc_simple.specs.declared.groups.Table.{Table}
use Rattle.tc_simple.proofs.Standing.{has_filter, filter_has, has_contains, has_left, has_right, has_cases, none_has, either, node_below}
use Rattle.tc_simple.proofs.Reaching.{edge_in, edge_out, start_below, leads_below, refers_reached, circular, circular_at}

no_value : {X Y : Type 0} {x : X} → None ≡ Some x → Y
no_value e = absurd (some_none e refl)

done_is : {c d : ℕ} → Done c ≡ Done d → c ≡ d
done_is e = cc

pub loops_more : (t : Table) (states : List State) (marks : List Bool) (k : ℕ) → loops_below t states marks (k + 1) ≡ loops_below t states marks k ++ marked_loops t states marks k
loops_more t states marks k = rw add-one refl

module _ (s : Syntax) (t : Table) (start : ℕ) (marks : List Bool) (states : List State) (order : List ℕ) (r : Resolves s t start marks states order) where
  abbrev open_rows : List (List ℕ)
  open_rows = link_rows t false

  marked : (k : ℕ) → is_marked marks k ≡ true → Leads (link_rows t true) start k
  marked k e = (r.reach.exact k).0 e

  mark : (k : ℕ) → Leads (link_rows t true) start k → is_marked marks k ≡ true
  mark k l = (r.reach.exact k).1 l

  count_rows : length open_rows ≡ length t.patterns.items
  count_rows = length-map t.patterns.items (λ (p : SPat). filter_map (target t) (nodes false (see.pattern p)))

  pub state_of : (k : ℕ) (p : SPat) → pattern_at t k ≡ Some p → (c : ℕ) × (state_at states k ≡ Done c) × (c < length order)
  state_of k p e = r.components.done k (omega (arith, slice_get_within t.patterns.items k p e, count_rows))

  -- a step leads back where both are in one component
  same_leads : (k j : ℕ) → same_component (state_at states k) (state_at states j) ≡ true → Leads open_rows j k
  same_leads = joined.same_leads open_rows states order r.components

  leads_same : (k j : ℕ) (p : SPat) → pattern_at t k ≡ Some p → Edge open_rows k j → Leads open_rows j k → same_component (state_at states k) (state_at states j) ≡ true
  leads_same k j p at = joined.leads_same open_rows states order r.components k j (omega (arith, slice_get_within t.patterns.items k p at, count_rows))

  -- references that lie on cycles
  loop_is : (k : ℕ) (q : SyntaxPattern) (place : ℕ) → loop_at t states k q ≡ Some place
      → (n : List ℕ) × (q ≡ ref n place) × ((j : ℕ) × (number_of t n ≡ Some j) × (same_component (state_at states k) (state_at states j) ≡ true))
  loop_is k empty place e = no_value e
  loop_is k not_allowed place e = no_value e
  loop_is k text place e = no_value e
  loop_is k attribute place e = no_value e
  loop_is k (element x c p) place e = no_value e
  loop_is k (mixed p) place e = no_value e
  loop_is k (optional p) place e = no_value e
  loop_is k (zero_or_more p) place e = no_value e
  loop_is k (one_or_more p) place e = no_value e
  loop_is k (group ps) place e = no_value e
  loop_is k (choice ps) place e = no_value e
  loop_is k (interleave ps) place e = no_value e
  loop_is k (ref n x) place e = by (number_of t n) refl e
    where
      at : (j : ℕ) (b : Bool) → number_of t n ≡ Some j → same_component (state_at states k) (state_at states j) ≡ b → cond b (Some x) None ≡ Some place
          → (n' : List ℕ) × (ref n x ≡ ref n' place) × ((j : ℕ) × (number_of t n' ≡ Some j) × (same_component (state_at states k) (state_at states j) ≡ true))
      at j true e f h = (n, ap (ref n) (same_some refl h), (j, e, f))
      at j false e f h = no_value h

      by : (o : Option ℕ) → number_of t n ≡ o → elim o as (λ _. Option ℕ) [ Some j ↦ cond (same_component (state_at states k) (state_at states j)) (Some x) None | None ↦ None ] ≡ Some place
          → (n' : List ℕ) × (ref n x ≡ ref n' place) × ((j : ℕ) × (number_of t n' ≡ Some j) × (same_component (state_at states k) (state_at states j) ≡ true))
      by None is h = no_value h
      by (Some j) is h = at j (same_component (state_at states k) (state_at states j)) is refl h

  marked_loop : (k place : ℕ) → Has (marked_loops t states marks k) place → IsCircular s place
  marked_loop k place h = by (is_marked marks k) refl (pattern_at t k) refl h
    where
      by : (b : Bool) → is_marked marks k ≡ b → (o : Option SPat) → pattern_at t k ≡ o
          → Has (cond b (elim o as (λ _. List ℕ) [ Some p ↦ filter_map (loop_at t states k) (nodes false (see.pattern p)) | None ↦ [] ]) []) place → IsCircular s place
      by false m o at h = absurd (none_has h)
      by true m None at h = absurd (none_has h)
      by true m (Some p) at h =
          let found = has_filter (loop_at t states k) (nodes false (see.pattern p)) place h in
          let (n, is, (j, e, same)) = loop_is k found.item place found.gives in
          circular s t r.table start r.begins k j place n (marked k m) (p, at, subst (λ z. Has (nodes false (see.pattern p)) z) is found.stands) e (same_leads k j same)

  pub loop_sound : (count place : ℕ) → Has (loops_below t states marks count) place → IsCircular s place
  loop_sound zero place h = absurd (none_has h)
  loop_sound (suc k) place h =
      either (has_cases (loops_below t states marks k) (marked_loops t states marks k) h) (λ m. loop_sound k place m) (λ m. marked_loop k place m)

  below_count : (count k place : ℕ) → k < count → Has (marked_loops t states marks k) place → Has (loops_below t states marks count) place
  below_count zero k place l h = absurd (omega (arith, l))
  below_count (suc n) k place l h = by (cases_lt k n) (λ m. below_count n k place m h)
    where
      by : (k < n) ⊎ (n ≤ k) → (k < n → Has (loops_below t states marks n) place) → Has (loops_below t states marks n ++ marked_loops t states marks n) place
      by (inl m) f = has_left (loops_below t states marks n) (marked_loops t states marks n) (f m)
      by (inr m) f = let same : k ≡ n = omega (arith, l, m) in has_right (loops_below t states marks n) (marked_loops t states marks n) (subst (λ z. Has (marked_loops t states marks z) place) same h)

  pub loop_all : (place : ℕ) → IsCircular s place → Has (loops_below t states marks (length t.patterns.items)) place
  loop_all place c =
      let (n, k, j, lead, (p, at, stands), e, back) = circular_at s t r.table start r.begins place c in
      let (q, got, is) = r.table.present n j e in
      let a = edge_in s t r.table false k j place n (p, at, stands) e in
      let same = leads_same k j p at a back in
      let gives : loop_at t states k (ref n place) ≡ Some place =
      ap (λ o. elim o as (λ _. Option ℕ) [ Some i ↦ cond (same_component (state_at states k) (state_at states i)) (Some place) None | None ↦ None ]) e ∙ ap (λ b. cond b (Some place) None) same in
      let inside = filter_has (loop_at t states k) stands gives in
      below_count (length t.patterns.items) k place (slice_get_within t.patterns.items k p at) (subst (λ z. Has z place) (sym (put k p at (mark k lead))) inside)
    where
      put : (k : ℕ) (p : SPat) → pattern_at t k ≡ Some p → is_marked marks k ≡ true → marked_loops t states marks k ≡ filter_map (loop_at t states k) (nodes false (see.pattern p))
      put k p at m =
          ap (λ b. cond b (elim (pattern_at t k) as (λ _. List ℕ) [ Some p ↦ filter_map (loop_at t states k) (nodes false (see.pattern p)) | None ↦ [] ]) []) m
          ∙ ap (λ o. elim o as (λ _. List ℕ) [ Some p ↦ filter_map (loop_at t states k) (nodes false (see.pattern p)) | None ↦ [] ]) at

  pub first_is_loop : (place : ℕ) → IsFirstLoop t states marks (Some place) → IsLoop s place
  first_is_loop place (c, least) =
      (loop_sound (length t.patterns.items) place (has_from_index (loops_below t states marks (length t.patterns.items)) place c), λ other h. least other (has_contains (loop_all other h)))

  pub none_is_loop : IsFirstLoop t states marks None → IsAcyclic s
  none_is_loop e place c = none_has (subst (λ z. Has z place) e (loop_all place c))

  -- without loops each definition comes after those to which it refers
  pub orderly : IsAcyclic s → ((k : ℕ) (n : List ℕ) → is_marked marks k ≡ true → Refers t k n → (j : ℕ) × (number_of t n ≡ Some j)) → IsOrderly s t marks states order
  orderly acyclic defined = record {
    table = r.table;
    earlier = earlier;
    ordered = r.components.ordered;
    alone = alone;
  }
    where
      no_back : (k j : ℕ) → Leads (link_rows t true) start k → Edge open_rows k j → Leads open_rows j k → ⊥
      no_back k j l a back =
          let (n, place, at, e) = edge_out s t r.table false k j a in
          acyclic place (circular s t r.table start r.begins k j place n l at e back)

      earlier : (k c : ℕ) (n : List ℕ) → is_marked marks k ≡ true → state_at states k ≡ Done c → Refers t k n
          → (j : ℕ) × (d : ℕ) × (number_of t n ≡ Some j) × (is_marked marks j ≡ true) × (state_at states j ≡ Done d) × (d < c)
      earlier k c n m e refers =
          let (j, is) = defined k n m refers in
          let (p, at, (place, stands)) = refers in
          let a = edge_in s t r.table false k j place n (p, at, has_from_index (nodes false (see.pattern p)) (ref n place) stands) is in
          let (d, f, l) = r.components.closed k c j e a in
          (j, d, is, mark j (refers_reached s t r.table start r.begins k j (marked k m) a), f, less k j c d m e f a l (cases_lt d c))
        where
          less : (k j c d : ℕ) → is_marked marks k ≡ true → state_at states k ≡ Done c → state_at states j ≡ Done d → Edge open_rows k j → d ≤ c → (d < c) ⊎ (c ≤ d) → d < c
          less k j c d m e f a l (inl x) = x
          less k j c d m e f a l (inr x) =
              let same : c ≡ d = omega (arith, l, x) in
              let equal : same_component (state_at states k) (state_at states j) ≡ true = ap (λ z. same_component z (state_at states j)) e ∙ (ap (λ z. same_component (Done c) z) f ∙ eq-eqb c d same) in
              absurd (no_back k j (marked k m) a (same_leads k j equal))

      first_step : {k j : ℕ} → Path open_rows k j → (i : ℕ) × Edge open_rows k i × Leads open_rows i j
      first_step (edge {k = k} {j = j} a) = (j, a, inl refl)
      first_step (further {j = j} {i = i} q a) = let (x, b, l) = first_step q in (x, b, on l a)
        where
          on : {x j i : ℕ} → Leads open_rows x j → Edge open_rows j i → Leads open_rows x i
          on {x} {j} {i} (inl e) a = inr (edge (subst (λ z. Edge open_rows z i) e a))
          on (inr p) a = inr (further p a)

      alone : (k c : ℕ) → is_marked marks k ≡ true → state_at states k ≡ Done c → slice_index order c ≡ k
      alone k c m e = by (r.components.joined (slice_index order c) k c (r.components.ordered c (inside c e)) e) (r.components.joined k (slice_index order c) c e (r.components.ordered c (inside c e)))
        where
          inside : (c : ℕ) → state_at states k ≡ Done c → c < length order
          inside c e = counted (state_length k c e)
            where
              state_length : (k c : ℕ) → state_at states k ≡ Done c → k < length states
              state_length k c e = at states k c e
                where
                  new_done : {c : ℕ} → New ≡ Done c → ⊥
                  new_done e = cc

                  at : (xs : List State) (k c : ℕ) → state_at xs k ≡ Done c → k < length xs
                  at [] k c e = absurd (new_done e)
                  at (x ∷ xs) zero c e = omega arith
                  at (x ∷ xs) (suc k) c e = let l = at xs k c e in omega (arith, l)

              counted : k < length states → c < length order
              counted l = let (d, f, x) = r.components.done k (omega (arith, l, r.components.size)) in omega (arith, x, done_is (sym e ∙ f))

          by : (slice_index order c ≡ k) ⊎ Path open_rows (slice_index order c) k → (k ≡ slice_index order c) ⊎ Path open_rows k (slice_index order c) → slice_index order c ≡ k
          by (inl is) x = is
          by (inr p) (inl is) = sym is
          by (inr p) (inr q) =
              let (i, a, l) = first_step q in
              absurd (no_back k i (marked k m) a (join l p))
            where
              join : {i j k : ℕ} → Leads open_rows i j → Path open_rows j k → Leads open_rows i k
              join {i} {j} {k} (inl e) p = inr (subst (λ z. Path open_rows z k) e p)
              join (inr q) p = inr (then q p)
                where
                  then : {i j k : ℕ} → Path open_rows i j → Path open_rows j k → Path open_rows i k
                  then q (edge a) = further q a
                  then q (further p a) = further (then q p) a

-- what may stand at the start
module _ (s : Syntax) (t : Table) (h : IsTable s t) (start : ℕ) (begins : number_of t [] ≡ Some start) (below : List Bool) (marks : IsReached (link_rows t false) start below) where
  some_bad : (xs : List SyntaxPattern) → list_all may_start xs ≡ false → (q : SyntaxPattern) × Has xs q × (may_start q ≡ false)
  some_bad [] e = absurd (true≢false e)
  some_bad (x ∷ xs) e = by (may_start x) refl e (λ f. some_bad xs f)
    where
      by : (b : Bool) → may_start x ≡ b → (b && list_all may_start xs) ≡ false → (list_all may_start xs ≡ false → (q : SyntaxPattern) × Has xs q × (may_start q ≡ false)) → (q : SyntaxPattern) × Has (x ∷ xs) q × (may_start q ≡ false)
      by false e f g = (x, here, e)
      by true e f g = let (q, m, i) = g f in (q, there m, i)

  all_good : (xs : List SyntaxPattern) (q : SyntaxPattern) → list_all may_start xs ≡ true → Has xs q → may_start q ≡ true
  all_good xs q e h = by h e
    where
      parts : (a b : Bool) → (a && b) ≡ true → (a ≡ true) × (b ≡ true)
      parts true b e = (refl, e)
      parts false b e = absurd (true≢false (sym e))

      by : {xs : List SyntaxPattern} {q : SyntaxPattern} → Has xs q → list_all may_start xs ≡ true → may_start q ≡ true
      by (here {x = x} {xs = xs}) e = (parts (may_start x) (list_all may_start xs) e).0
      by (there {y = y} {xs = xs} k) e = by k (parts (may_start y) (list_all may_start xs) e).1

  pub badly_is : (place : ℕ) → StartsBadly t below → first_definition (definitions_of s.definitions []) ≡ Some place → IsBadStart s place
  badly_is place (k, p, m, at, e) first =
      let (q, stands, bad) = some_bad (nodes false (see.pattern p)) e in
      let (o, got, is) = h.present [] start begins in
      record { start = see.pattern o; other = q; is_start = is; below = by q stands o (leads_below s t h start k o p ((marks.exact k).0 m) got at); bad = bad; first = first }
    where
      by : (q : SyntaxPattern) → Has (nodes false (see.pattern p)) q → (o : SPat) → (see.pattern p ≡ see.pattern o) ⊎ Below s (see.pattern o) (see.pattern p) → (q ≡ see.pattern o) ⊎ Below s (see.pattern o) q
      by q stands o (inl e) = node_below s (see.pattern o) q (subst (λ z. Has (nodes false z) q) e stands)
      by q stands o (inr b) = on (node_below s (see.pattern p) q stands)
        where
          on : (q ≡ see.pattern p) ⊎ Below s (see.pattern p) q → (q ≡ see.pattern o) ⊎ Below s (see.pattern o) q
          on (inl e) = inr (subst (λ z. Below s (see.pattern o) z) (sym e) b)
          on (inr c) = inr (Rattle.tc_model.specs.SimplifiesParts.further b c)

  pub well_is : StartsWell t below (length t.patterns.items) → (place : ℕ) → IsBadStart s place → ⊥
  well_is well place bad =
      let (j, lead, (p, at, stands)) = start_below s t h start bad.start bad.other begins bad.is_start bad.below in
      true≢false (sym (all_good (nodes false (see.pattern p)) bad.other (well j p (slice_get_within t.patterns.items j p at) ((marks.exact j).1 lead) at) stands) ∙ bad.bad)
