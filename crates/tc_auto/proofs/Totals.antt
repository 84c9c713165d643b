-- The states of a side of a schema, part after part.
use Rattle.std.proofs.Common.{◌≡◌, ◌<◌, ◌≤◌, inl, inr, ◌↔◌, ℕ, zero, suc, ◌+◌, ◌-◌, Bool, true, false, List, [], ◌∷◌, ◌++◌, length, map, get_or, slice_get, Some, min, refl, sym, ap, ◌∙◌, subst, arith}
use Rattle.std.specs.List.{Contains}
use Rattle.std.proofs.lemmas.List.{length-map, get_or_default}
use Rattle.std.proofs.Math.Nat.{min-eq_right}
use Rattle.tc_model.specs.Grammars as g
use Rattle.tc_model.specs.Views as see
use Rattle.tc_model.specs.declared.grammar.ElemPat.{ElemPat}
use Rattle.tc_model.specs.declared.grammar.Grammar.{Grammar}
use Rattle.tc_model.specs.States as s
use Rattle.tc_model.specs.States.{automaton, Side, input, output, the_start, first_state, state_count, IsEdge}
use Rattle.tc_model.proofs.StatesParts.{next_first, first_within, patterns_within}
use Rattle.tc_auto.specs.declared.auto.Auto.{Auto}
use Rattle.tc_auto.specs.declared.auto.Edge.{Edge}
use Rattle.tc_auto.specs.declared.rows.Row.{Row}
use Rattle.tc_auto.specs.Steps.{leaf}
use Rattle.tc_auto.specs.Rows.{AreRowsFor}
use Rattle.tc_auto.specs.Stands.{side_of, Built, Stands}
use Rattle.tc_auto.proofs.Folds.{min_cases}
use Rattle.tc_auto.proofs.RowLists.{content_part, rows_and, built_more}

capped_add : (m n c : ℕ) → 0 < m → min (min n m + min c m) m ≡ min (n + c) m
capped_add m n c a = elim (min_cases n m) [
  | inl x ↦ elim (min_cases c m) [
    | inl y ↦ ap (λ w. min w m) (omega (arith, x.0, y.0))
    | inr y ↦ min-eq_right (omega (arith, x.0, y.0)) ∙ sym (min-eq_right (omega (arith, y.1)))
  ]
  | inr x ↦ min-eq_right (omega (arith, x.0)) ∙ sym (min-eq_right (omega (arith, x.1)))
]

module _ (x : Grammar) (side : Side) (es : List ElemPat) (is : es ≡ x.elements.now) where
  mapped : (see.grammar x).elements ≡ map see.element_pattern es
  mapped = ap (map see.element_pattern) (sym is)

  one_more : (i : ℕ) (e : ElemPat) → i < length es → e ≡ get_or es i e → first_state (see.grammar x) side (suc (suc i)) ≡ first_state (see.grammar x) side (suc i) + (automaton (see.pattern e.content)).count
  one_more i e h at = next_first (see.grammar x) side (content_part (see.grammar x) side es i e mapped h at)

  pub total_more : (i m : ℕ) (e : ElemPat) → i < length es → e ≡ get_or es i e → m ≡ i + 1 → (t n r : ℕ)
      → t ≡ min (first_state (see.grammar x) side (suc i)) 18446744073709551615
      → n ≡ min (automaton (see.pattern e.content)).count 18446744073709551615
      → r ≡ min (t + n) 18446744073709551615
      → r ≡ min (first_state (see.grammar x) side (suc m)) 18446744073709551615
  total_more i m e h at next t n r a b c =
      let next_is : m ≡ suc i = omega arith in
      c
      ∙ (ap (λ w. min (w + n) 18446744073709551615) a
      ∙ (ap (λ w. min (min (first_state (see.grammar x) side (suc i)) 18446744073709551615 + w) 18446744073709551615) b
      ∙ (capped_add 18446744073709551615 (first_state (see.grammar x) side (suc i)) (automaton (see.pattern e.content)).count (omega arith)
      ∙ (ap (λ w. min w 18446744073709551615) (sym (one_more i e h at)) ∙ ap (λ w. min (first_state (see.grammar x) side (suc w)) 18446744073709551615) (sym next_is)))))

  pub total_step : (i m : ℕ) (d : ElemPat) → i < length es → m ≡ i + 1 → (t n r : ℕ)
      → t ≡ min (first_state (see.grammar x) side (suc i)) 18446744073709551615
      → n ≡ min (automaton (see.pattern (get_or es i d).content)).count 18446744073709551615
      → r ≡ min (t + n) 18446744073709551615
      → r ≡ min (first_state (see.grammar x) side (suc m)) 18446744073709551615
  total_step i m d h next t n r a b c = total_more i m (get_or es i d) h (get_or_default es i d (get_or es i d) h) next t n r a b c

  all_elements : (i : ℕ) → length es ≤ i → i ≤ length es → i ≡ length (see.grammar x).elements
  all_elements i low high = let same : length (see.grammar x).elements ≡ length es = ap length mapped ∙ length-map es see.element_pattern in omega arith

  pub total_done : (i t : ℕ) → length es ≤ i → i ≤ length es → t ≡ min (first_state (see.grammar x) side (suc i)) 18446744073709551615 → t ≡ min (state_count (see.grammar x) side) 18446744073709551615
  total_done i t low high a = a ∙ ap (λ w. min (first_state (see.grammar x) side (suc w)) 18446744073709551615) (all_elements i low high)

  -- the states of one more content are within those of the whole
  pub room : (i : ℕ) (e : ElemPat) → i < length es → e ≡ get_or es i e → first_state (see.grammar x) side (suc i) + (automaton (see.pattern e.content)).count ≤ state_count (see.grammar x) side
  room i e h at = omega (arith, one_more i e h at, first_within (see.grammar x) side (suc i))

  pub built_one_more : (i m f : ℕ) (e : ElemPat) (firsts : List ℕ) (rows added : List Row) → i < length es → e ≡ get_or es i e → m ≡ i + 1 → f ≡ length rows → Built (see.grammar x) side (suc i) firsts rows → AreRowsFor (automaton (see.pattern e.content)) f added → Built (see.grammar x) side (suc m) (firsts ++ (f ∷ [])) (rows ++ added)
  built_one_more i m f e firsts rows added h at next from old are =
      built_more (see.grammar x) side (suc i) (see.pattern e.content) (content_part (see.grammar x) side es i e mapped h at) (suc m) f firsts rows added (omega arith) from old (subst (λ w. AreRowsFor (automaton (see.pattern e.content)) w added) from are)

  pub built_all : (i : ℕ) (firsts : List ℕ) (rows : List Row) → length es ≤ i → i ≤ length es → Built (see.grammar x) side (suc i) firsts rows → Built (see.grammar x) side (suc (length (see.grammar x).elements)) firsts rows
  built_all i firsts rows low high b = subst (λ w. Built (see.grammar x) side (suc w) firsts rows) (all_elements i low high) b

  pub room_at : (i : ℕ) (d : ElemPat) → i < length es → first_state (see.grammar x) side (suc i) + (automaton (see.pattern (get_or es i d).content)).count ≤ state_count (see.grammar x) side
  room_at i d h = room i (get_or es i d) h (get_or_default es i d (get_or es i d) h)

  pub built_step : (i m f : ℕ) (d : ElemPat) (firsts : List ℕ) (rows added : List Row) → i < length es → m ≡ i + 1 → f ≡ length rows → Built (see.grammar x) side (suc i) firsts rows → AreRowsFor (automaton (see.pattern (get_or es i d).content)) f added → Built (see.grammar x) side (suc m) (firsts ++ (f ∷ [])) (rows ++ added)
  built_step i m f d firsts rows added h next from old are = built_one_more i m f (get_or es i d) firsts rows added h (get_or_default es i d (get_or es i d) h) next from old are

  pub part_fits : (i f : ℕ) (d : ElemPat) (firsts : List ℕ) (rows : List Row) → i < length es → f ≡ length rows → Built (see.grammar x) side (suc i) firsts rows → state_count (see.grammar x) side < 4294967296 → (automaton (see.pattern (get_or es i d).content)).count + f < 4294967296
  part_fits i f d firsts rows h from b small = omega (arith, room_at i d h, b.counted)

  pub built_step_as : (i : ℕ) (f : ℕ) (d : ElemPat) (firsts all_firsts : List ℕ) (rows added all_rows : List Row) → i < length es → f ≡ length rows → Built (see.grammar x) side (suc i) firsts rows → AreRowsFor (automaton (see.pattern (get_or es i d).content)) f added → all_firsts ≡ firsts ++ (f ∷ []) → all_rows ≡ rows ++ added → Built (see.grammar x) side (suc (i + 1)) all_firsts all_rows
  built_step_as i f d firsts all_firsts rows added all_rows h from old are same_firsts same_rows =
      subst (λ (w : List ℕ). Built (see.grammar x) side (suc (i + 1)) w all_rows) (sym same_firsts) (subst (λ (w : List Row). Built (see.grammar x) side (suc (i + 1)) (firsts ++ (f ∷ [])) w) (sym same_rows) (built_step i (i + 1) f d firsts rows added h refl from old are))

  pub rows_within : (i : ℕ) (firsts : List ℕ) (rows : List Row) → Built (see.grammar x) side (suc i) firsts rows → length rows ≤ state_count (see.grammar x) side
  rows_within i firsts rows b = omega (arith, b.counted, first_within (see.grammar x) side i)

  pub elements_within : length es ≤ state_count (see.grammar x) side
  elements_within = let same : length (see.grammar x).elements ≡ length es = ap length mapped ∙ length-map es see.element_pattern in omega (arith, patterns_within (see.grammar x) side)

none_yet : (x : Grammar) → first_state (see.grammar x) input 1 ≡ 0
none_yet x = no_contents (see.grammar x).elements
  where
    no_contents : (es : List g.ElementPattern) → 0 + s.states_of_contents es 0 ≡ 0
    no_contents [] = refl
    no_contents (e ∷ es) = refl

start_alone : (x : Grammar) → first_state (see.grammar x) output 1 ≡ (automaton (see.pattern x.start)).count
start_alone x = next_first (see.grammar x) output (the_start) ∙ omega arith

pub total_with_start : (x : Grammar) (b : Bool) (n : ℕ) → b ≡ true → n ≡ min (automaton (see.pattern x.start)).count 18446744073709551615 → n ≡ min (first_state (see.grammar x) (side_of b) 1) 18446744073709551615
total_with_start x b n is e = e ∙ (ap (λ w. min w 18446744073709551615) (sym (start_alone x)) ∙ ap (λ (w : Bool). min (first_state (see.grammar x) (side_of w) 1) 18446744073709551615) (sym is))

pub total_without_start : (x : Grammar) (b : Bool) → b ≡ false → 0 ≡ min (first_state (see.grammar x) (side_of b) 1) 18446744073709551615
total_without_start x b is = ap (λ w. min w 18446744073709551615) (sym (none_yet x)) ∙ ap (λ (w : Bool). min (first_state (see.grammar x) (side_of w) 1) 18446744073709551615) (sym is)

first_at : (x : Grammar) (side : Side) (k : ℕ) → k < 1 → get_or (0 ∷ []) k 0 ≡ first_state (see.grammar x) side k
first_at x side zero low = refl
first_at x side (suc k) low = absurd (omega arith)

pub built_with_start : (x : Grammar) (b : Bool) (rows added : List Row) → b ≡ true → rows ≡ added → AreRowsFor (automaton (see.pattern x.start)) 0 added → Built (see.grammar x) (side_of b) 1 (0 ∷ []) rows
built_with_start x b rows added is same are =
    let both = rows_and (see.grammar x) output 0 (see.pattern x.start) the_start 1 [] added (omega arith) refl (λ i r at. absurd (cc)) are in
    subst (λ (w : Bool). Built (see.grammar x) (side_of w) 1 (0 ∷ []) rows) (sym is) (subst (λ (w : List Row). Built (see.grammar x) output 1 (0 ∷ []) w) (sym same) (record { begun = refl; first = first_at x output; counted = both.0; row = both.1 }))

pub built_without_start : (x : Grammar) (b : Bool) (rows : List Row) → b ≡ false → rows ≡ [] → Built (see.grammar x) (side_of b) 1 (0 ∷ []) rows
built_without_start x b rows is same =
    subst (λ (w : Bool). Built (see.grammar x) (side_of w) 1 (0 ∷ []) rows) (sym is) (subst (λ (w : List Row). Built (see.grammar x) input 1 (0 ∷ []) w) (sym same) (record { begun = refl; first = first_at x input; counted = sym (none_yet x); row = λ i r at. absurd (cc) }))

pub row_edges : (side : Side) (x : g.Grammar) (a : Auto) → Stands side x a → (i : ℕ) (r : Row) → slice_get a.rows.items i ≡ Some r → (es : List Edge) → es ≡ r.edges.items → (e : Edge) → Contains es e ↔ IsEdge x side i (leaf e.leaf) e.to
row_edges side x a st i r at es is e = subst (λ (w : List Edge). Contains w e ↔ IsEdge x side i (leaf e.leaf) e.to) (sym is) (((st.built).row i r at).edge e)

mapped_at : (es : List ElemPat) (k : ℕ) (d : ElemPat) (e : g.ElementPattern) → slice_get (map see.element_pattern es) k ≡ Some e → see.element_pattern (get_or es k d) ≡ e
mapped_at [] k d e at = absurd (cc)
mapped_at (y ∷ es) zero d e at = cc
mapped_at (y ∷ es) (suc k) d e at = mapped_at es k d e at

pub allowed : (side : Side) (x : g.Grammar) (a : Auto) → Stands side x a → (number : ℕ) (e : g.ElementPattern) (d : ElemPat) → g.element_at x.elements number ≡ Some e → see.class (get_or a.elements.now (number - 1) d).names ≡ e.names
allowed side x a st zero e d at = absurd (cc)
allowed side x a st (suc k) e d at =
    let place : suc k - 1 ≡ k = omega arith in
    let here = mapped_at a.elements.now k d e (subst (λ (w : List g.ElementPattern). slice_get w k ≡ Some e) (sym st.elements) at) in
    ap (λ w. see.class (get_or a.elements.now w d).names) place ∙ ap (λ (w : g.ElementPattern). w.names) here
