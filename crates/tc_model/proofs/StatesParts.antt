-- The states of a schema: those of its parts one after the other, so a run that begins in a part stays there.
use Rattle.std.proofs.Common.{◌≡◌, ◌<◌, ◌≤◌, ◌⊎◌, inl, inr, ℕ, zero, suc, ◌+◌, List, [], ◌∷◌, length, slice_get, Some, refl, sym, ap, ◌∙◌, subst, arith, ◌↔◌}
use Rattle.tc_model.specs.Names.{ExpandedName}
use Rattle.tc_model.specs.Trees.{Trees}
use Rattle.tc_model.specs.Grammars.{Pattern, ElementPattern, Grammar}
use Rattle.tc_model.specs.Matching.{Matches}
use Rattle.tc_model.specs.States.{Leaf, Run, stay, step, IsElementOf, automaton, Side, IsPart, the_start, a_content, states_of_contents, first_state, state_count, IsEdge, IsAccepting, IsAccepted}
use Rattle.tc_model.proofs.StatesExact.{sound, what_is_accepted_matches, what_matches_is_accepted}

some_states : (q : Pattern) → 0 < (automaton q).count
some_states q = let s = sound q in s.some

-- the contents before a later one have its states before it
contents_before : (es : List ElementPattern) (k m : ℕ) (e : ElementPattern) → slice_get es k ≡ Some e → k < m → states_of_contents es k + (automaton e.content).count ≤ states_of_contents es m
contents_before [] k m e at low = absurd (cc)
contents_before (e ∷ es) zero zero d at low = absurd (omega arith)
contents_before (e ∷ es) zero (suc m) d at low = let same : e ≡ d = cc in omega (arith, ap (λ (w : ElementPattern). (automaton w.content).count) same)
contents_before (e ∷ es) (suc k) zero d at low = absurd (omega arith)
contents_before (e ∷ es) (suc k) (suc m) d at low = omega (arith, contents_before es k m d at (omega arith))

-- the states of a part end before those of a later one begin
pub part_before : (g : Grammar) (side : Side) {k m : ℕ} {q r : Pattern} → IsPart g side k q → IsPart g side m r → k < m → first_state g side k + (automaton q).count ≤ first_state g side m
part_before g side the_start the_start low = absurd (omega arith)
part_before g side the_start (a_content {k = zero} at) low = absurd (cc)
part_before g side the_start (a_content {k = suc m} at) low = omega arith
part_before g side (a_content {k = zero} at) other low = absurd (cc)
part_before g side (a_content {k = suc k} at) the_start low = absurd (omega arith)
part_before g side (a_content {k = suc k} at) (a_content {k = zero} to) low = absurd (cc)
part_before g side (a_content {k = suc k} {e = e} at) (a_content {k = suc m} to) low = omega (arith, contents_before g.elements k m e at (omega arith))

pub one_pattern : (g : Grammar) (side : Side) {k m : ℕ} {q r : Pattern} → IsPart g side k q → IsPart g side m r → k ≡ m → q ≡ r
one_pattern g side the_start the_start same = refl
one_pattern g side the_start (a_content {k = zero} at) same = absurd (cc)
one_pattern g side the_start (a_content {k = suc m} at) same = absurd (omega arith)
one_pattern g side (a_content {k = zero} at) other same = absurd (cc)
one_pattern g side (a_content {k = suc k} at) the_start same = absurd (omega arith)
one_pattern g side (a_content {k = suc k} {e = e} at) (a_content {k = zero} to) same = absurd (cc)
one_pattern g side (a_content {k = suc k} {e = e} at) (a_content {k = suc m} {e = d} to) same = let equal : e ≡ d = cc in ap (λ (w : ElementPattern). w.content) equal

none_yet : (es : List ElementPattern) → states_of_contents es 0 ≡ 0
none_yet [] = refl
none_yet (e ∷ es) = refl

-- one content more
next_content : (es : List ElementPattern) (k : ℕ) (e : ElementPattern) → slice_get es k ≡ Some e → states_of_contents es (suc k) ≡ states_of_contents es k + (automaton e.content).count
next_content [] k e at = absurd (cc)
next_content (d ∷ es) zero e at = let same : d ≡ e = cc in omega (arith, ap (λ (w : ElementPattern). (automaton w.content).count) same, none_yet es)
next_content (d ∷ es) (suc k) e at = omega (arith, next_content es k e at)

pub next_first : (g : Grammar) (side : Side) {k : ℕ} {q : Pattern} → IsPart g side k q → first_state g side (suc k) ≡ first_state g side k + (automaton q).count
next_first g side the_start = omega (arith, none_yet g.elements)
next_first g side (a_content {k = zero} at) = absurd (cc)
next_first g side (a_content {k = suc k} {e = e} at) = omega (arith, next_content g.elements k e at)

contents_within : (es : List ElementPattern) (k : ℕ) → states_of_contents es k ≤ states_of_contents es (length es)
contents_within [] k = omega arith
contents_within (e ∷ es) zero = omega arith
contents_within (e ∷ es) (suc k) = let rest = contents_within es k in omega arith

-- no part begins past the states
pub first_within : (g : Grammar) (side : Side) (k : ℕ) → first_state g side (suc k) ≤ state_count g side
first_within g side k = omega (arith, contents_within g.elements k)

contents_some : (es : List ElementPattern) → length es ≤ states_of_contents es (length es)
contents_some [] = omega arith
contents_some (e ∷ es) = let rest = contents_some es in omega (arith, some_states e.content)

-- there are no more element patterns than states
pub patterns_within : (g : Grammar) (side : Side) → length g.elements ≤ state_count g side
patterns_within g side = omega (arith, contents_some g.elements)

in_order : (a b : ℕ) → (a < b) ⊎ (b ≤ a)
in_order zero zero = inr (omega arith)
in_order zero (suc b) = inl (omega arith)
in_order (suc a) zero = inr (omega arith)
in_order (suc a) (suc b) = elim (in_order a b) [ inl h ↦ inl (omega arith) | inr h ↦ inr (omega arith) ]

-- a state belongs to one part alone
same_part : (g : Grammar) (side : Side) {k m : ℕ} {q r : Pattern} (x y : ℕ) → IsPart g side k q → IsPart g side m r → x < (automaton q).count → y < (automaton r).count → first_state g side k + x ≡ first_state g side m + y → k ≡ m
same_part g side {k} {m} x y a b low high same = elim (in_order k m) [
  | inl before ↦ absurd (omega (arith, part_before g side a b before))
  | inr after ↦ elim (in_order m k) [ inl before ↦ absurd (omega (arith, part_before g side b a before)) | inr other ↦ omega arith ]
]

-- an edge from a state of a part is one of that part
pub edge_of_part : (g : Grammar) (side : Side) {k : ℕ} {q : Pattern} (x : ℕ) (i j : ℕ) (l : Leaf) → IsPart g side k q → x < (automaton q).count → i ≡ first_state g side k + x → IsEdge g side i l j
    → (y : ℕ) × (j ≡ first_state g side k + y) × (automaton q).edge x l y
edge_of_part g side {k} {q} x i j l part low at (m, r, u, v, other, is, goes, e) =
    let s = sound r in
    let same = same_part g side x u part other low (s.from u v l e) (sym at ∙ is) in
    let equal = one_pattern g side part other same in
    let place : x ≡ u = omega (arith, ap (first_state g side) same) in
    (v, goes ∙ ap (λ w. first_state g side w + v) (sym same), subst (λ (w : Pattern). (automaton w).edge x l v) (sym equal) (subst (λ w. (automaton r).edge w l v) (sym place) e))

pub accepting_of_part : (g : Grammar) (side : Side) {k : ℕ} {q : Pattern} (x : ℕ) (i : ℕ) → IsPart g side k q → x < (automaton q).count → i ≡ first_state g side k + x → IsAccepting g side i → (automaton q).accepting x
accepting_of_part g side {k} {q} x i part low at (m, r, u, other, is, acc) =
    let s = sound r in
    let same = same_part g side x u part other low (s.accepted u acc) (sym at ∙ is) in
    let equal = one_pattern g side part other same in
    let place : x ≡ u = omega (arith, ap (first_state g side) same) in
    subst (λ (w : Pattern). (automaton w).accepting x) (sym equal) (subst (λ w. (automaton r).accepting w) (sym place) acc)

module _ {F : ℕ → ExpandedName → Trees → Type 0} where
  -- a run that begins in a part stays there
  run_in_part : (g : Grammar) (side : Side) {k : ℕ} {q : Pattern} {i j : ℕ} {h : Trees} (x : ℕ) → IsPart g side k q → Run F (IsEdge g side) i h j → x < (automaton q).count → i ≡ first_state g side k + x
      → (y : ℕ) × (j ≡ first_state g side k + y) × (y < (automaton q).count) × Run F (automaton q).edge x h y
  run_in_part g side x part stay low at = (x, at, low, stay)
  run_in_part g side {q = q} x part (step {i} {j} {k = end} {l} f e r) low at =
      let s = sound q in
      let one = edge_of_part g side x i j l part low at e in
      let rest = run_in_part g side one.0 part r (s.below x one.0 l one.2) one.1 in
      (rest.0, rest.1, rest.2, step f one.2 rest.3)

  run_of_part : (g : Grammar) (side : Side) {k : ℕ} {q : Pattern} {x y : ℕ} {h : Trees} → IsPart g side k q → Run F (automaton q).edge x h y → Run F (IsEdge g side) (first_state g side k + x) h (first_state g side k + y)
  run_of_part g side part stay = stay
  run_of_part g side {k} {q} part (step {i} {j} f e r) = step f (k, q, i, j, part, refl, refl, e) (run_of_part g side part r)

-- trees match a part exactly where a run leads from its first state to an accepting one
pub accepted_matches : (g : Grammar) (side : Side) {k : ℕ} {q : Pattern} (h : Trees) → IsPart g side k q → IsAccepted g side k h → Matches g.elements h q
accepted_matches g side {k} {q} h part (j, r, acc) =
    let within = run_in_part g side 0 part r (some_states q) (omega arith) in
    what_is_accepted_matches g.elements q h (within.0, within.3, accepting_of_part g side within.0 j part within.2 within.1 acc)

pub matching_accepted : (g : Grammar) (side : Side) {k : ℕ} {q : Pattern} (h : Trees) → IsPart g side k q → Matches g.elements h q → IsAccepted g side k h
matching_accepted g side {k} {q} h part m =
    let one = what_matches_is_accepted g.elements q h m in
    let start : first_state g side k + 0 ≡ first_state g side k = omega arith in
    (first_state g side k + one.0, subst (λ w. Run (IsElementOf g.elements) (IsEdge g side) w h (first_state g side k + one.0)) start (run_of_part g side part one.1), (k, q, one.0, part, refl, one.2))

pub accepted_exactly : (g : Grammar) (side : Side) {k : ℕ} {q : Pattern} (h : Trees) → IsPart g side k q → IsAccepted g side k h ↔ Matches g.elements h q
accepted_exactly g side h part = (accepted_matches g side h part, matching_accepted g side h part)

-- edges lead between the states that are counted, and accepting states are among them
pub edge_within : (g : Grammar) (side : Side) (i j : ℕ) (l : Leaf) → IsEdge g side i l j → (i < state_count g side) × (j < state_count g side)
edge_within g side i j l (k, q, x, y, part, is, goes, e) =
    let s = sound q in
    (omega (arith, next_first g side part, first_within g side k, s.from x y l e), omega (arith, next_first g side part, first_within g side k, s.below x y l e))
