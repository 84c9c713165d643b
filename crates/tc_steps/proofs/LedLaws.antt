-- What steps make of exactly the states to which children lead.
use Rattle.std.proofs.Common.{◌≡◌, ◌↔◌, ◌⊎◌, inl, inr, ℕ, zero, suc, ◌+◌, ◌≤◌, ◌<◌, List, length, true, false, cond, Some, refl, sym, ap, subst, arith}
use Rattle.std.proofs.lemmas.Option.{slice_get_within}
use Rattle.tc_model.specs.Names.{ExpandedName}
use Rattle.tc_model.specs.Trees.{Trees, none, text, element, beside, is_white_space_only, normal_form}
use Rattle.tc_model.specs.Grammars.{Grammar, ElementPattern, element_at, InClass}
use Rattle.tc_model.specs.States.{input, text_leaf, ref_leaf, automaton, IsElementOf, IsPart, a_content, first_state, is_alternative, IsEdge, Leads, at_end, by_text, by_element}
use Rattle.tc_model.proofs.StatesExact.{sound}
use Rattle.tc_model.proofs.StatesParts.{part_before}
use Rattle.tc_hedge.proofs.Leading.{run_of_leads, run_of_none, run_of_text, run_of_element, stays, leads_beside, leads_split, leads_exactly}
use Rattle.tc_sets.specs.Numbers.{Numbers, Has}
use Rattle.tc_steps.specs.Led.{AreAllowed, AreLed, IsTaken, IsAfterText, IsAfterElement, IsBegun, IsStarted}

-- the numbers of element patterns
pub number_within : (es : List ElementPattern) (k : ℕ) (e : ElementPattern) → element_at es k ≡ Some e → (1 ≤ k) × (k ≤ length es)
number_within es zero e at = absurd (cc)
number_within es (suc k) e at = (omega arith, let low : k < length es = slice_get_within es k e at in omega (arith, low))

in_order : (k m : ℕ) → (k < m) ⊎ ((m < k) ⊎ (k ≡ m))
in_order k m = grind arith

same_range : (k m a b c d y z : ℕ) → (k < m → a + c ≤ b) → (m < k → b + d ≤ a) → b + y ≡ a + z → z < c → y < d → k ≡ m
same_range k m a b c d y z before after place within small = elim (in_order k m) [
  | inl less ↦ absurd (omega (arith, before less, place, within))
  | inr (inl greater) ↦ absurd (omega (arith, after greater, place, small))
  | inr (inr same) ↦ same
]

module _ (x : Grammar) where
  one_pattern : (k : ℕ) (d e : ElementPattern) → element_at x.elements k ≡ Some d → element_at x.elements k ≡ Some e → d ≡ e
  one_pattern k d e a b = cc

  -- a state of a content is reached from that content's first state alone
  one_content : (k m : ℕ) (f e : ElementPattern) (y : ℕ) (h : Trees) → element_at x.elements k ≡ Some f → element_at x.elements m ≡ Some e → y < (automaton e.content).count
      → Leads x input (first_state x input k) h (first_state x input m + y) → k ≡ m
  one_content k m f e y h there at small l =
      let part : IsPart x input k f.content = a_content there in
      let other : IsPart x input m e.content = a_content at in
      let s = sound f.content in
      let (z, place, within) = stays x input 0 part (run_of_leads x input l) s.some (omega arith) in
      same_range k m (first_state x input k) (first_state x input m) (automaton f.content).count (automaton e.content).count y z (λ less. part_before x input part other less) (λ less. part_before x input other part less) place within small

  none_stays : {i j : ℕ} → Leads x input i none j → i ≡ j
  none_stays l = run_of_none x input refl (run_of_leads x input l)

  -- no children
  pub led_none : (n : ExpandedName) (numbers s : Numbers) → AreAllowed x n numbers → ((j : ℕ) → Has s j ↔ IsBegun x numbers (length x.elements) j) → AreLed x n none s
  led_none n numbers s allowed begun j = (λ h. to ((begun j).0 h), λ (k, e, at, inside, l). (begun j).1 (of k e at inside l))
    where
      to : IsBegun x numbers (length x.elements) j → (k : ℕ) × (e : ElementPattern) × (element_at x.elements k ≡ Some e) × InClass e.names n × Leads x input (first_state x input k) none j
      to (k, low, high, h, same) =
          let (e, at, inside) = (allowed k).0 h in (k, e, at, inside, subst (λ w. Leads x input (first_state x input k) none w) (sym same) at_end)

      of : (k : ℕ) (e : ElementPattern) → element_at x.elements k ≡ Some e → InClass e.names n → Leads x input (first_state x input k) none j → IsBegun x numbers (length x.elements) j
      of k e at inside l = let (low, high) = number_within x.elements k e at in (k, low, high, (allowed k).1 (e, at, inside), sym (none_stays l))

  -- a text more
  text_edge : {i j : ℕ} (t : List ℕ) → is_white_space_only t ≡ false → Leads x input i (text t none) j → IsEdge x input i text_leaf j
  text_edge {i} {j} t w l =
      let r = run_of_leads x input l in
      let y = run_of_text x input {l = none} {s = t} (ap (λ b. cond b none (text t none)) w) r in
      subst (λ z. IsEdge x input i text_leaf z) (run_of_none x input refl y.2) y.1

  pub led_text : (n : ExpandedName) (kids : Trees) (t : List ℕ) (s u : Numbers) → is_white_space_only t ≡ false → AreLed x n kids s → ((j : ℕ) → Has u j ↔ IsAfterText x s j) → AreLed x n (beside kids (text t none)) u
  led_text n kids t s u w led after j = (λ h. to ((after j).0 h), λ (k, e, at, inside, l). (after j).1 (of k e at inside (leads_split x input kids l)))
    where
      to : IsAfterText x s j → (k : ℕ) × (e : ElementPattern) × (element_at x.elements k ≡ Some e) × InClass e.names n × Leads x input (first_state x input k) (beside kids (text t none)) j
      to (i, h, edge) = let (k, e, at, inside, l) = (led i).0 h in (k, e, at, inside, leads_beside x input l (by_text w edge at_end))

      of : (k : ℕ) (e : ElementPattern) → element_at x.elements k ≡ Some e → InClass e.names n → (m : ℕ) × Leads x input (first_state x input k) kids m × Leads x input m (text t none) j → IsAfterText x s j
      of k e at inside (m, l, last) = (m, (led m).1 (k, e, at, inside, l), text_edge t w last)

  -- which element patterns take an element, by the states to which its children lead
  module _ (n : ExpandedName) (inside_it : Trees) (numbers ends : Numbers) (allowed : AreAllowed x n numbers) (led : AreLed x n inside_it ends) where
    pub taken_is : (k : ℕ) → IsTaken x numbers ends k → IsElementOf x.elements k n (normal_form inside_it)
    taken_is k (h, (e, at, (y, there, acc))) =
        let (m, f, its, inside, l) = (led (first_state x input k + y)).0 there in
        let q = sound e.content in
        let same : m ≡ k = one_content m k f e y inside_it its at (q.accepted y acc) l in
        let at_k : element_at x.elements k ≡ Some f = subst (λ w. element_at x.elements w ≡ Some f) same its in
        let is : f ≡ e = one_pattern k f e at_k at in
        let whole = (leads_exactly x input k e.content inside_it (a_content at)).1 (y, subst (λ w. Leads x input (first_state x input w) inside_it (first_state x input k + y)) same l, acc) in
        (e, at, subst (λ (w : ElementPattern). InClass w.names n) is inside, whole)

    pub is_taken_by : (k : ℕ) → IsElementOf x.elements k n (normal_form inside_it) → IsTaken x numbers ends k
    is_taken_by k (e, at, inside, matches) =
        let (y, l, acc) = (leads_exactly x input k e.content inside_it (a_content at)).0 matches in
        ((allowed k).1 (e, at, inside), (e, at, (y, (led (first_state x input k + y)).1 (k, e, at, inside, l), acc)))

    pub started_by : (k : ℕ) → is_alternative k x.start ≡ true → IsTaken x numbers ends k → IsStarted x n inside_it
    started_by k a t = (k, a, taken_is k t)

    pub not_started : ((k : ℕ) → 1 ≤ k → k ≤ length x.elements → is_alternative k x.start ≡ true → IsTaken x numbers ends k → ⊥) → IsStarted x n inside_it → ⊥
    not_started never (k, a, e) =
        let (low, high) = number_within x.elements k e.0 e.1 in
        never k low high a (is_taken_by k e)

    -- an element more
    pub led_element : (m : ExpandedName) (kids : Trees) (s u : Numbers) → AreLed x m kids s → ((j : ℕ) → Has u j ↔ IsAfterElement x s (IsTaken x numbers ends) (length x.elements) j)
        → AreLed x m (beside kids (element n inside_it none)) u
    led_element m kids s u before after j = (λ h. to ((after j).0 h), λ (k, e, at, inside, l). (after j).1 (of k e at inside (leads_split x input kids l)))
      where
        to : IsAfterElement x s (IsTaken x numbers ends) (length x.elements) j
            → (k : ℕ) × (e : ElementPattern) × (element_at x.elements k ≡ Some e) × InClass e.names m × Leads x input (first_state x input k) (beside kids (element n inside_it none)) j
        to (r, low, high, t, (i, h, edge)) =
            let (k, e, at, inside, l) = (before i).0 h in (k, e, at, inside, leads_beside x input l (by_element (taken_is r t) edge at_end))

        over : {i : ℕ} → Leads x input i (element n inside_it none) j → (r : ℕ) × IsElementOf x.elements r n (normal_form inside_it) × IsEdge x input i (ref_leaf r) j
        over {i} l =
            let (z, r, is, edge, rest) = run_of_element x input refl (run_of_leads x input l) in
            (r, is, subst (λ w. IsEdge x input i (ref_leaf r) w) (run_of_none x input refl rest) edge)

        of : (k : ℕ) (e : ElementPattern) → element_at x.elements k ≡ Some e → InClass e.names m
            → (i : ℕ) × Leads x input (first_state x input k) kids i × Leads x input i (element n inside_it none) j → IsAfterElement x s (IsTaken x numbers ends) (length x.elements) j
        of k e at inside (i, l, last) =
            let (r, is, edge) = over last in
            let (low, high) = number_within x.elements r is.0 is.1 in
            (r, low, high, is_taken_by r is, (i, (before i).1 (k, e, at, inside, l), edge))
