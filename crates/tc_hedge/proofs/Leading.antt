-- What trees lead, and the laws of it.
use Rattle.std.proofs.Common.{◌≡◌, ◌<◌, ◌⊎◌, inl, inr, ℕ, ◌+◌, List, Bool, true, false, cond, Some, refl, sym, subst, arith}
use Rattle.tc_mat.specs.Matrix.{Matrix, HasPair}
use Rattle.tc_model.specs.Names.{ExpandedName}
use Rattle.tc_model.specs.Trees.{Trees, none, text, element, beside, is_white_space_only, kept, normal_form}
use Rattle.tc_model.specs.Grammars.{Grammar, Pattern, ElementPattern, element_at, InClass}
use Rattle.tc_model.specs.Matching.{Matches}
use Rattle.tc_model.specs.States.{text_leaf, ref_leaf, Run, stay, step, front_text, front_element, IsElementOf, automaton, Side, output, IsPart, the_start, a_content, first_state, state_count, IsEdge, Leads, at_end, past_white, by_text, by_element}
use Rattle.tc_model.proofs.StatesExact.{sound}
use Rattle.tc_model.proofs.StatesParts.{edge_of_part, accepting_of_part, accepted_matches, matching_accepted, edge_within, next_first, first_within}
use Rattle.tc_hedge.specs.Leading.{ArePairsOf, IsTaken, LeadsExactly, OutputsLeadExactly, PairsCompose, PairsSurround}
use Rattle.tc_hedge.proofs.Thinning.{trimmed, thin_matches, to_normal, of_normal}

true_or_false : (b : Bool) → (b ≡ true) ⊎ (b ≡ false)
true_or_false true = inl refl
true_or_false false = inr refl

module _ (g : Grammar) (side : Side) where
  abbrev Runs : ℕ → Trees → ℕ → Type 0
  Runs i h j = Run (IsElementOf g.elements) (IsEdge g side) i h j

  -- what trees lead is a run along what they are trimmed to
  pub run_of_leads : {i j : ℕ} {h : Trees} → Leads g side i h j → Runs i (trimmed h) j
  run_of_leads at_end = stay
  run_of_leads {j = j} (past_white {i} {s = s} {h = h} w l) = subst (λ b. Runs i (cond b (trimmed h) (text s (trimmed h))) j) (sym w) (run_of_leads l)
  run_of_leads {j = k} (by_text {i} {s = s} {h = h} w e l) = subst (λ b. Runs i (cond b (trimmed h) (text s (trimmed h))) k) (sym w) (step front_text e (run_of_leads l))
  run_of_leads (by_element is e l) = step (front_element is) e (run_of_leads l)

  pub run_of_none : {i j : ℕ} {h : Trees} → h ≡ none → Runs i h j → i ≡ j
  run_of_none e stay = refl
  run_of_none e (step front_text edge r) = absurd (cc)
  run_of_none e (step (front_element f) edge r) = absurd (cc)

  pub run_of_text : {i j : ℕ} {h l : Trees} {s : List ℕ} → h ≡ text s l → Runs i h j → (m : ℕ) × IsEdge g side i text_leaf m × Runs m l j
  run_of_text e stay = absurd (cc)
  run_of_text {j = j} {l = l} e (step {j = m} (front_text {h = k}) edge r) = let same : k ≡ l = cc in (m, edge, subst (λ w. Runs m w j) same r)
  run_of_text e (step (front_element f) edge r) = absurd (cc)

  pub run_of_element : {i j : ℕ} {h c l : Trees} {n : ExpandedName} → h ≡ element n c l → Runs i h j → (m : ℕ) × (r : ℕ) × IsElementOf g.elements r n c × IsEdge g side i (ref_leaf r) m × Runs m l j
  run_of_element e stay = absurd (cc)
  run_of_element e (step front_text edge r) = absurd (cc)
  run_of_element {j = j} {c = c} {l = l} {n = n} e (step {j = m} (front_element {r = k} {n = a} {c = d} {h = rest} f) edge r) =
      let names : a ≡ n = cc in
      let kids : d ≡ c = cc in
      let same : rest ≡ l = cc in
      (m, k, subst (λ w. IsElementOf g.elements k w c) names (subst (λ w. IsElementOf g.elements k a w) kids f), edge, subst (λ w. Runs m w j) same r)

  pub leads_of_run : (h : Trees) {i j : ℕ} → Runs i (trimmed h) j → Leads g side i h j
  leads_of_run none {i} {j} r = subst (λ w. Leads g side i none w) (run_of_none refl r) at_end
  leads_of_run (text s h) {i} {j} r = by (true_or_false (is_white_space_only s)) (λ (k : ℕ) (x : Runs k (trimmed h) j). leads_of_run h x)
    where
      by : (is_white_space_only s ≡ true) ⊎ (is_white_space_only s ≡ false) → ((k : ℕ) → Runs k (trimmed h) j → Leads g side k h j) → Leads g side i (text s h) j
      by (inl w) later = past_white w (later i (subst (λ b. Runs i (cond b (trimmed h) (text s (trimmed h))) j) w r))
      by (inr w) later = let x = run_of_text refl (subst (λ b. Runs i (cond b (trimmed h) (text s (trimmed h))) j) w r) in by_text w x.1 (later x.0 x.2)
  leads_of_run (element n c h) r = let x = run_of_element refl r in by_element x.2 x.3 (leads_of_run h x.4)

  -- a run that begins in a part stays there
  pub stays : {k : ℕ} {q : Pattern} {i j : ℕ} {h : Trees} (x : ℕ) → IsPart g side k q → Runs i h j → x < (automaton q).count → i ≡ first_state g side k + x → (y : ℕ) × (j ≡ first_state g side k + y) × (y < (automaton q).count)
  stays x part stay low at = (x, at, low)
  stays {q = q} x part (step {i} {j} {l = l} f e r) low at =
      let s = sound q in
      let one = edge_of_part g side x i j l part low at e in
      stays one.0 part r (s.below x one.0 l one.2) one.1

  pub leads_within : {i j : ℕ} {h : Trees} → Leads g side i h j → i < state_count g side → j < state_count g side
  leads_within at_end low = low
  leads_within (past_white w l) low = leads_within l low
  leads_within (by_text {i} {j} w e l) low = leads_within l (edge_within g side i j text_leaf e).1
  leads_within (by_element {i} {j} {r = r} is e l) low = leads_within l (edge_within g side i j (ref_leaf r) e).1

  pub leads_beside : {i m j : ℕ} {h k : Trees} → Leads g side i h m → Leads g side m k j → Leads g side i (beside h k) j
  leads_beside at_end l = l
  leads_beside (past_white w a) l = past_white w (leads_beside a l)
  leads_beside (by_text w e a) l = by_text w e (leads_beside a l)
  leads_beside (by_element is e a) l = by_element is e (leads_beside a l)

module _ (g : Grammar) (side : Side) where
  some_states : {k : ℕ} {q : Pattern} → IsPart g side k q → 0 < (automaton q).count
  some_states {q = q} part = let s = sound q in s.some

  -- a part's first state is one of the states
  pub first_below : {k : ℕ} {q : Pattern} → IsPart g side k q → first_state g side k < state_count g side
  first_below {k} part = omega (arith, next_first g side part, first_within g side k, some_states part)

  matching_leads : {k : ℕ} {q : Pattern} (h : Trees) → IsPart g side k q → Matches g.elements (normal_form h) q
      → (y : ℕ) × Leads g side (first_state g side k) h (first_state g side k + y) × (automaton q).accepting y
  matching_leads {k} {q} h part m =
      let (j, r, acc) = matching_accepted g side (trimmed h) part (thin_matches g.elements m (of_normal h)) in
      let (y, at, low) = stays g side 0 part r (some_states part) (omega arith) in
      (y, subst (λ w. Leads g side (first_state g side k) h w) at (leads_of_run g side h r), accepting_of_part g side y j part low at acc)

  leading_matches : {k : ℕ} {q : Pattern} (h : Trees) → IsPart g side k q
      → (y : ℕ) × Leads g side (first_state g side k) h (first_state g side k + y) × (automaton q).accepting y → Matches g.elements (normal_form h) q
  leading_matches {k} {q} h part (y, l, acc) =
      thin_matches g.elements (accepted_matches g side (trimmed h) part (first_state g side k + y, run_of_leads g side l, (k, q, y, part, refl, acc))) (to_normal h)

pub leads_exactly : LeadsExactly
leads_exactly g side k q h part = (matching_leads g side h part, leading_matches g side h part)

pub outputs_lead_exactly : OutputsLeadExactly
outputs_lead_exactly g h = (λ m. to (matching_leads g output h the_start m), λ x. leading_matches g output h the_start (of x))
  where
    to : (y : ℕ) × Leads g output 0 h (0 + y) × (automaton g.start).accepting y → (y : ℕ) × Leads g output 0 h y × (automaton g.start).accepting y
    to (y, l, acc) = let same : 0 + y ≡ y = omega arith in (y, subst (λ w. Leads g output 0 h w) same l, acc)

    of : (y : ℕ) × Leads g output 0 h y × (automaton g.start).accepting y → (y : ℕ) × Leads g output 0 h (0 + y) × (automaton g.start).accepting y
    of (y, l, acc) = let same : y ≡ 0 + y = omega arith in (y, subst (λ w. Leads g output 0 h w) same l, acc)

module _ (g : Grammar) (side : Side) where
  -- trees side by side lead over a state between them
  pub leads_split : (h : Trees) {k : Trees} {i j : ℕ} → Leads g side i (beside h k) j → (m : ℕ) × Leads g side i h m × Leads g side m k j
  leads_split none {i = i} l = (i, at_end, l)
  leads_split (text s h) {k} {i} {j} l = by (true_or_false (is_white_space_only s)) (run_of_leads g side l) (λ (a : ℕ) (x : Leads g side a (beside h k) j). leads_split h x)
    where
      by : (is_white_space_only s ≡ true) ⊎ (is_white_space_only s ≡ false) → Runs g side i (kept s (trimmed (beside h k))) j
          → ((a : ℕ) → Leads g side a (beside h k) j → (m : ℕ) × Leads g side a h m × Leads g side m k j) → (m : ℕ) × Leads g side i (text s h) m × Leads g side m k j
      by (inl w) r later =
          let x = later i (leads_of_run g side (beside h k) (subst (λ b. Runs g side i (cond b (trimmed (beside h k)) (text s (trimmed (beside h k)))) j) w r)) in
          (x.0, past_white w x.1, x.2)
      by (inr w) r later =
          let y = run_of_text g side refl (subst (λ b. Runs g side i (cond b (trimmed (beside h k)) (text s (trimmed (beside h k)))) j) w r) in
          let x = later y.0 (leads_of_run g side (beside h k) y.2) in
          (x.0, by_text w y.1 x.1, x.2)
  leads_split (element n c h) {k} l =
      let y = run_of_element g side refl (run_of_leads g side l) in
      let x = leads_split h (leads_of_run g side (beside h k) y.4) in
      (x.0, by_element y.2 y.3 x.1, x.2)

pub pairs_compose : PairsCompose
pairs_compose g side h k a b m pa pb is i j = (λ p. to ((is i j).0 p), λ l. (is i j).1 (of l))
  where
    to : (x : ℕ) × HasPair a i x × HasPair b x j → (i < state_count g side) × Leads g side i (beside h k) j
    to (x, p, q) = let u = (pa i x).0 p in let v = (pb x j).0 q in (u.0, leads_beside g side u.1 v.1)

    of : (i < state_count g side) × Leads g side i (beside h k) j → (x : ℕ) × HasPair a i x × HasPair b x j
    of (low, l) = let s = leads_split g side h l in (s.0, (pa i s.0).1 (low, s.1), (pb s.0 j).1 (leads_within g side s.1 low, s.2))

module _ (g : Grammar) (side : Side) (n : ExpandedName) (c : Trees) (inner : Matrix) (pairs : ArePairsOf g side c inner) where
  -- a set of pairs is taken by a content exactly where the children match it
  taken_matches : (k : ℕ) (e : ElementPattern) → element_at g.elements k ≡ Some e → IsTaken g side inner k e → Matches g.elements (normal_form c) e.content
  taken_matches k e at (y, p, acc) = leading_matches g side c (a_content at) (y, ((pairs _ _).0 p).1, acc)

  matching_taken : (k : ℕ) (e : ElementPattern) → element_at g.elements k ≡ Some e → Matches g.elements (normal_form c) e.content → IsTaken g side inner k e
  matching_taken k e at m =
      let (y, l, acc) = matching_leads g side c (a_content at) m in
      (y, (pairs _ _).1 (first_below g side (a_content at), l), acc)

pub pairs_surround : PairsSurround
pairs_surround g side n c inner m pairs around i j = (λ p. to ((around i j).0 p), λ l. (around i j).1 (of l))
  where
    to : (k : ℕ) × (e : ElementPattern) × (element_at g.elements k ≡ Some e) × InClass e.names n × IsTaken g side inner k e × IsEdge g side i (ref_leaf k) j → (i < state_count g side) × Leads g side i (element n c none) j
    to (k, e, at, inside, taken, edge) =
        ((edge_within g side i j (ref_leaf k) edge).0, by_element (e, at, inside, taken_matches g side n c inner pairs k e at taken) edge at_end)

    of : (i < state_count g side) × Leads g side i (element n c none) j → (k : ℕ) × (e : ElementPattern) × (element_at g.elements k ≡ Some e) × InClass e.names n × IsTaken g side inner k e × IsEdge g side i (ref_leaf k) j
    of (low, l) =
        let (x, k, (e, at, inside, matches), edge, r) = run_of_element g side refl (run_of_leads g side l) in
        (k, e, at, inside, matching_taken g side n c inner pairs k e at matches, subst (λ w. IsEdge g side i (ref_leaf k) w) (run_of_none g side refl r) edge)
