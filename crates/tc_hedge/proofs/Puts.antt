-- Pairs put edge by edge and element pattern by element pattern.
use Rattle.std.proofs.Common.{◌≡◌, ◌≢◌, ◌<◌, ◌≤◌, ◌↔◌, ◌⊎◌, inl, inr, ℕ, zero, suc, ◌+◌, ◌-◌, List, [], ◌∷◌, ◌++◌, length, take, get_or, Bool, true, IsTrue, Some, slice_get, refl, sym, ap, ◌∙◌, subst, arith}
use Rattle.std.specs.List.{Contains}
use Rattle.std.proofs.lemmas.Option.{slice_get_within}
use Rattle.std.proofs.lemmas.List.Elements.{Contains-push, Contains-push_cases, Contains-append_left}
use Rattle.std.proofs.lemmas.List.{take_more, take_all}
use Rattle.std.proofs.lemmas.Bool.{cases_eq}
use Rattle.tc_mat.specs.Matrix.{Matrix, HasPair, HasNone, Gains}
use Rattle.tc_model.specs.Grammars.{Grammar, ElementPattern, element_at}
use Rattle.tc_model.specs.States as s
use Rattle.tc_model.specs.States.{Side, automaton, IsPart, a_content, first_state, state_count, IsEdge, IsAccepting}
use Rattle.tc_model.proofs.StatesExact.{sound}
use Rattle.tc_model.proofs.StatesParts.{accepting_of_part, next_first}
use Rattle.tc_auto.specs.Stands as held
use Rattle.tc_auto.specs.declared.auto.Auto.{Auto}
use Rattle.tc_auto.specs.Steps.{leaf}
use Rattle.tc_auto.specs.declared.arrows.Arrow.{Arrow}
use Rattle.tc_auto.specs.declared.auto.Leaf as leaves
use Rattle.tc_auto.specs.declared.auto.Leaf.TheVariants.{Text, Ref}
use Rattle.tc_hedge.specs.Leading.{IsTaken, ArePairsOfText}
use Rattle.tc_hedge.specs.Items.{IsTakenAround, IsAround}
use Rattle.tc_hedge.proofs.Bounds.{patterns_of}

pub code_leaf : (l : s.Leaf) → (m : leaves.Leaf) × (leaf m ≡ l)
code_leaf s.text_leaf = (Text, refl)
code_leaf (s.ref_leaf k) = (Ref k, refl)

-- one edge more
pub put_arrow : (arrows : List Arrow) (k : ℕ) (d : Arrow) → k < length arrows → (start old new : Matrix)
    → ((i j : ℕ) → HasPair old i j ↔ (HasPair start i j ⊎ Contains (take k arrows) (record { from = i; to = j })))
    → Gains old (get_or arrows k d).from (get_or arrows k d).to new
    → (i j : ℕ) → HasPair new i j ↔ (HasPair start i j ⊎ Contains (take (k + 1) arrows) (record { from = i; to = j }))
put_arrow arrows k d low start old new so_far gains i j = (λ p. to ((gains i j).0 p), of)
  where
    taken : take (k + 1) arrows ≡ take k arrows ++ (get_or arrows k d ∷ [])
    taken = take_more arrows k d low

    more : {a : Arrow} → Contains (take k arrows ++ (get_or arrows k d ∷ [])) a → Contains (take (k + 1) arrows) a
    more {a} h = subst (λ w. Contains w a) (sym taken) h

    to : HasPair old i j ⊎ ((i ≡ (get_or arrows k d).from) × (j ≡ (get_or arrows k d).to)) → HasPair start i j ⊎ Contains (take (k + 1) arrows) (record { from = i; to = j })
    to (inl h) = elim ((so_far i j).0 h) [ inl p ↦ inl p | inr has ↦ inr (more (Contains-append_left (take k arrows) (get_or arrows k d ∷ []) _ has)) ]
    to (inr (a, b)) =
        let same : get_or arrows k d ≡ record { from = i; to = j } = ap (λ (w : ℕ). let r : Arrow = record { from = w; to = (get_or arrows k d).to } in r) (sym a) ∙ ap (λ (w : ℕ). let r : Arrow = record { from = i; to = w } in r) (sym b) in
        inr (subst (λ (w : Arrow). Contains (take (k + 1) arrows) w) same (more (Contains-push (take k arrows) (get_or arrows k d))))

    last : Contains (take k arrows) (record { from = i; to = j }) ⊎ (get_or arrows k d ≡ record { from = i; to = j }) → HasPair new i j
    last (inl has) = (gains i j).1 (inl ((so_far i j).1 (inr has)))
    last (inr same) = (gains i j).1 (inr (sym (ap (λ (w : Arrow). w.from) same), sym (ap (λ (w : Arrow). w.to) same)))

    of : HasPair start i j ⊎ Contains (take (k + 1) arrows) (record { from = i; to = j }) → HasPair new i j
    of (inl p) = (gains i j).1 (inl ((so_far i j).1 (inl p)))
    of (inr has) = last (Contains-push_cases (take k arrows) (get_or arrows k d) _ (subst (λ w. Contains w (record { from = i; to = j })) taken has))

pub put_no_arrow : (start : Matrix) (i j : ℕ) → HasPair start i j ↔ (HasPair start i j ⊎ Contains {X = Arrow} [] (record { from = i; to = j }))
put_no_arrow start i j = (λ p. inl p, of)
  where
    of : HasPair start i j ⊎ Contains {X = Arrow} [] (record { from = i; to = j }) → HasPair start i j
    of (inl p) = p
    of (inr (k, low, at)) = absurd (omega (arith, low))

pub put_all_arrows : (arrows : List Arrow) (k : ℕ) → length arrows ≤ k → (start new : Matrix) → ((i j : ℕ) → HasPair new i j ↔ (HasPair start i j ⊎ Contains (take k arrows) (record { from = i; to = j }))) → (i j : ℕ) → HasPair new i j ↔ (HasPair start i j ⊎ Contains arrows (record { from = i; to = j }))
put_all_arrows arrows k high start new so_far i j = subst (λ (w : List Arrow). HasPair new i j ↔ (HasPair start i j ⊎ Contains w (record { from = i; to = j }))) (take_all k arrows high) (so_far i j)

-- the pairs of texts are those of their edges
pub text_put : (g : Grammar) (side : Side) (arrows : List Arrow) (old new : Matrix) → ((a : Arrow) → Contains arrows a ↔ IsEdge g side a.from s.text_leaf a.to) → HasNone old
    → ((i j : ℕ) → HasPair new i j ↔ (HasPair old i j ⊎ Contains arrows (record { from = i; to = j }))) → ArePairsOfText g side new
text_put g side arrows old new exact none pairs i j = (λ p. to ((pairs i j).0 p), λ edge. (pairs i j).1 (inr ((exact (record { from = i; to = j })).1 edge)))
  where
    to : HasPair old i j ⊎ Contains arrows (record { from = i; to = j }) → IsEdge g side i s.text_leaf j
    to (inl p) = absurd (none i j p)
    to (inr has) = (exact (record { from = i; to = j })).0 has

-- the pairs around a set by the first so many element patterns
abbrev pub IsAroundTo : Grammar → Side → List Bool → Matrix → ℕ → ℕ → ℕ → Type 0
IsAroundTo g side allowed inner most i j = (k : ℕ) × (k ≤ most) × IsTakenAround g side allowed inner k × IsEdge g side i (s.ref_leaf k) j

module _ (g : Grammar) (side : Side) (allowed : List Bool) (inner : Matrix) where
  pub around_none : (m : Matrix) → HasNone m → (i j : ℕ) → HasPair m i j ↔ IsAroundTo g side allowed inner 0 i j
  around_none m none i j = (λ p. absurd (none i j p), λ h. of h)
    where
      of : IsAroundTo g side allowed inner 0 i j → HasPair m i j
      of (zero, low, (e, at, told, taken), edge) = absurd (cc)
      of (suc k, low, taken, edge) = absurd (omega (arith, low))

  -- an element pattern that takes it puts its edges
  pub around_more : (n : ℕ) (old new : Matrix) (arrows : List Arrow) → ((i j : ℕ) → HasPair old i j ↔ IsAroundTo g side allowed inner n i j) → IsTakenAround g side allowed inner (n + 1)
      → ((a : Arrow) → Contains arrows a ↔ IsEdge g side a.from (s.ref_leaf (n + 1)) a.to) → ((i j : ℕ) → HasPair new i j ↔ (HasPair old i j ⊎ Contains arrows (record { from = i; to = j })))
      → (i j : ℕ) → HasPair new i j ↔ IsAroundTo g side allowed inner (n + 1) i j
  around_more n old new arrows so_far takes exact pairs i j = (λ p. to ((pairs i j).0 p), λ (k, low, taken, edge). of k low taken edge (cases_eq k (n + 1)))
    where
      to : HasPair old i j ⊎ Contains arrows (record { from = i; to = j }) → IsAroundTo g side allowed inner (n + 1) i j
      to (inl p) = let (k, low, taken, edge) = (so_far i j).0 p in (k, omega (arith, low), taken, edge)
      to (inr has) = (n + 1, omega arith, takes, (exact (record { from = i; to = j })).0 has)

      of : (k : ℕ) → k ≤ n + 1 → IsTakenAround g side allowed inner k → IsEdge g side i (s.ref_leaf k) j → (k ≡ n + 1) ⊎ (k ≡ n + 1 → ⊥) → HasPair new i j
      of k low taken edge (inl is) = (pairs i j).1 (inr ((exact (record { from = i; to = j })).1 (subst (λ w. IsEdge g side i (s.ref_leaf w) j) is edge)))
      of k low taken edge (inr not) = let apart : k ≢ n + 1 = not in (pairs i j).1 (inl ((so_far i j).1 (k, omega arith, taken, edge)))

  -- any other puts nothing
  pub around_same : (n : ℕ) (m : Matrix) → ((i j : ℕ) → HasPair m i j ↔ IsAroundTo g side allowed inner n i j) → (IsTakenAround g side allowed inner (n + 1) → ⊥) → (i j : ℕ) → HasPair m i j ↔ IsAroundTo g side allowed inner (n + 1) i j
  around_same n m so_far none i j = (λ p. to ((so_far i j).0 p), λ (k, low, taken, edge). of k low taken edge (cases_eq k (n + 1)))
    where
      to : IsAroundTo g side allowed inner n i j → IsAroundTo g side allowed inner (n + 1) i j
      to (k, low, taken, edge) = (k, omega (arith, low), taken, edge)

      of : (k : ℕ) → k ≤ n + 1 → IsTakenAround g side allowed inner k → IsEdge g side i (s.ref_leaf k) j → (k ≡ n + 1) ⊎ (k ≡ n + 1 → ⊥) → HasPair m i j
      of k low taken edge (inl is) = absurd (none (subst (λ w. IsTakenAround g side allowed inner w) is taken))
      of k low taken edge (inr not) = let apart : k ≢ n + 1 = not in (so_far i j).1 (k, omega arith, taken, edge)

  number_most : (k : ℕ) (e : ElementPattern) → element_at g.elements k ≡ Some e → k ≤ length g.elements
  number_most zero e at = absurd (cc)
  number_most (suc k) e at = omega (arith, slice_get_within g.elements k e at)

  pub around_all : (n : ℕ) (m : Matrix) → length g.elements ≤ n → ((i j : ℕ) → HasPair m i j ↔ IsAroundTo g side allowed inner n i j) → (i j : ℕ) → HasPair m i j ↔ IsAround g side allowed inner i j
  around_all n m high so_far i j = (λ p. to ((so_far i j).0 p), of)
    where
      to : IsAroundTo g side allowed inner n i j → IsAround g side allowed inner i j
      to (k, low, taken, edge) = (k, taken, edge)

      of : IsAround g side allowed inner i j → HasPair m i j
      of (k, (e, at, told, taken), edge) = (so_far i j).1 (k, omega (arith, number_most k e at), (e, at, told, taken), edge)

module _ (g : Grammar) (side : Side) (inner : Matrix) (number : ℕ) (e : ElementPattern) (at : element_at g.elements number ≡ Some e) (first end : ℕ) (begins : first ≡ first_state g side number) (ends : end ≡ first_state g side (suc number)) where
  -- an accepting state of a content to which its first state leads
  pub taken_at : (state : ℕ) → first ≤ state → state < end → HasPair inner first state → IsAccepting g side state → IsTaken g side inner number e
  taken_at state high low pair accepts =
      let part : IsPart g side number e.content = a_content at in
      let y : ℕ = state - first in
      let is : state ≡ first_state g side number + y = omega arith in
      let below : y < (automaton e.content).count = omega (arith, next_first g side part) in
      (y, subst (λ w. HasPair inner (first_state g side number) w) is (subst (λ w. HasPair inner w state) begins pair), accepting_of_part g side y state part below is accepts)

  pub not_taken : ((state : ℕ) → first ≤ state → state < end → HasPair inner first state → IsAccepting g side state → ⊥) → IsTaken g side inner number e → ⊥
  not_taken none_led (y, pair, accepts) =
      let part : IsPart g side number e.content = a_content at in
      let q = sound e.content in
      let state : ℕ = first_state g side number + y in
      none_led state (omega arith) (omega (arith, next_first g side part, q.accepted y accepts)) (subst (λ w. HasPair inner w state) (sym begins) pair) (number, e.content, y, part, refl, accepts)

-- no element pattern has a number past their count, or 0
pub no_pattern : (side : Side) (g : Grammar) (a : Auto) → held.Stands side g a → (allowed : List Bool) (inner : Matrix) (number : ℕ) → (number ≡ 0) ⊎ (length a.elements.now < number) → IsTakenAround g side allowed inner number → ⊥
no_pattern side g a st allowed inner zero which (e, at, told, taken) = absurd (cc)
no_pattern side g a st allowed inner (suc k) (inl is) taken = absurd (omega arith)
no_pattern side g a st allowed inner (suc k) (inr high) (e, at, told, taken) = absurd (omega (arith, slice_get_within g.elements k e at, patterns_of side g a st))

-- an element pattern has each other number
pub some_pattern : (side : Side) (g : Grammar) (a : Auto) → held.Stands side g a → (number : ℕ) → 1 ≤ number → number ≤ length a.elements.now → (e : ElementPattern) × (element_at g.elements number ≡ Some e)
some_pattern side g a st zero low high = absurd (omega arith)
some_pattern side g a st (suc k) low high = found g.elements k (omega (arith, patterns_of side g a st))
  where
    found : (es : List ElementPattern) (k : ℕ) → k < length es → (e : ElementPattern) × (slice_get es k ≡ Some e)
    found [] k l = absurd (omega arith)
    found (e ∷ es) zero l = (e, refl)
    found (e ∷ es) (suc k) l = found es k (omega arith)

-- with a number of an element pattern whose flag is set, what is told of the pairs decides
pub taken_as_told : (side : Side) (g : Grammar) (a : Auto) → held.Stands side g a → (allowed : List Bool) (inner : Matrix) (number patterns : ℕ) {b : Bool} → (number ≡ 0 → ⊥) → patterns ≡ length a.elements.now → number ≤ patterns
    → slice_get allowed (number - 1) ≡ Some true → ((e : ElementPattern) → element_at g.elements number ≡ Some e → IsTrue b ↔ IsTaken g side inner number e) → IsTrue b ↔ IsTakenAround g side allowed inner number
taken_as_told side g a st allowed inner number patterns {b} some count low set told = (to, of)
  where
    to : IsTrue b → IsTakenAround g side allowed inner number
    to h = let (e, at) = some_pattern side g a st number (omega arith) (omega (arith, count)) in (e, at, set, (told e at).0 h)

    of : IsTakenAround g side allowed inner number → IsTrue b
    of (e, at, s, taken) = (told e at).1 taken
