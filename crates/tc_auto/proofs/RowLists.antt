-- The rows of parts, put together to those of a schema.
use Rattle.std.proofs.Common.{◌≡◌, ◌<◌, ◌⊎◌, inl, inr, ℕ, zero, suc, ◌+◌, ◌==◌, Bool, if◌then◌else◌, List, [], ◌∷◌, ◌++◌, length, map, get_or, slice_get, Some, refl, sym, ap, ◌∙◌, subst, arith, length-append}
use Rattle.std.specs.List.{Contains}
use Rattle.std.proofs.lemmas.List.Elements.{Contains-append_left, Contains-append_right, Contains-append_cases}
use Rattle.std.proofs.lemmas.Bool.Decides.{eqb_tells}
use Rattle.tc_model.specs.Grammars.{Grammar, Pattern, ElementPattern}
use Rattle.tc_model.specs.Views.{element_pattern}
use Rattle.tc_model.specs.declared.grammar.ElemPat.{ElemPat}
use Rattle.tc_model.specs.States.{Automaton, automaton, Side, IsPart, a_content, first_state}
use Rattle.tc_model.proofs.StatesParts.{next_first, edge_of_part, accepting_of_part}
use Rattle.tc_auto.specs.declared.auto.Leaf.{Leaf}
use Rattle.tc_auto.specs.declared.auto.Leaf.TheVariants.{Text, Ref}
use Rattle.tc_auto.specs.declared.auto.Edge.{Edge}
use Rattle.tc_auto.specs.declared.nfa.Nfa.{Nfa}
use Rattle.tc_auto.specs.declared.nfa.Transition.{Transition}
use Rattle.tc_auto.specs.declared.rows.Row.{Row}
use Rattle.tc_auto.specs.Steps.{leaf, HasStep, first_step, later_step, Shows, edges_from}
use Rattle.tc_auto.specs.Rows.{IsRowOf, AreRowsOf, AreRowsFor}
use Rattle.tc_auto.specs.Stands.{IsRow, Built}
use Rattle.tc_auto.proofs.Lists.{has_of, contains_of}

same_leaf : (a b : Leaf) → leaf a ≡ leaf b → a ≡ b
same_leaf Text Text e = refl
same_leaf Text (Ref k) e = absurd (cc)
same_leaf (Ref k) Text e = absurd (cc)
same_leaf (Ref k) (Ref m) e = let same : k ≡ m = cc in ap Ref same

same_edge : (t : ℕ) (m : Leaf) (e : Edge) → t ≡ e.to → m ≡ e.leaf → record { to = t; leaf = m } ≡ e
same_edge t m e p q = ap (λ (w : ℕ). let r : Edge = record { to = w; leaf = m } in r) p ∙ ap (λ (w : Leaf). let r : Edge = record { to = e.to; leaf = w } in r) q

in_one : (r e : Edge) → Contains (r ∷ []) e → r ≡ e
in_one r e (zero, low, at) = at
in_one r e (suc k, low, at) = absurd (omega arith)

abbrev one_edge : ℕ → ℕ → Transition → List Edge
one_edge base i x = if x.from == i then (record { to = base + x.to; leaf = x.leaf } ∷ []) else []

in_none : {X : Type 0} (e : Edge) → Contains [] e → X
in_none e (k, low, at) = absurd (omega arith)

one_to : (base i : ℕ) (x : Transition) (e : Edge) → Contains (one_edge base i x) e → (x.from ≡ i) × (base + x.to ≡ e.to) × (x.leaf ≡ e.leaf)
one_to base i x e h = elim (eqb_tells x.from i) [
  | inl p ↦
      let is = ap (λ (w : Bool). if w then (let r : Edge = record { to = base + x.to; leaf = x.leaf } in r ∷ []) else []) p.0 in
      let at = in_one (record { to = base + x.to; leaf = x.leaf }) e (subst (λ (w : List Edge). Contains w e) is h) in
      (p.1, ap (λ (w : Edge). w.to) at, ap (λ (w : Edge). w.leaf) at)
  | inr p ↦
      let is = ap (λ (w : Bool). if w then (let r : Edge = record { to = base + x.to; leaf = x.leaf } in r ∷ []) else []) p.0 in
      in_none e (subst (λ (w : List Edge). Contains w e) is h)
]

one_of : (base i : ℕ) (x : Transition) (e : Edge) → x.from ≡ i → base + x.to ≡ e.to → x.leaf ≡ e.leaf → Contains (one_edge base i x) e
one_of base i x e a b c = elim (eqb_tells x.from i) [
  | inl p ↦
      let is = ap (λ (w : Bool). if w then (let r : Edge = record { to = base + x.to; leaf = x.leaf } in r ∷ []) else []) p.0 in
      subst (λ (w : List Edge). Contains w e) (sym is) (0, omega arith, same_edge (base + x.to) x.leaf e b c)
  | inr p ↦ absurd (p.1 a)
]

edges_to : (base i : ℕ) (xs : List Transition) (e : Edge) → Contains (edges_from base i xs) e → (y : ℕ) × (e.to ≡ base + y) × HasStep xs i (leaf e.leaf) y
edges_to base i [] e h = in_none e h
edges_to base i (x ∷ xs) e h = elim (Contains-append_cases (one_edge base i x) (edges_from base i xs) e h) [
  | inl a ↦ let r = one_to base i x e a in (x.to, sym r.1, first_step r.0 (ap leaf r.2) refl)
  | inr b ↦ let r = edges_to base i xs e b in (r.0, r.1, later_step r.2)
]

edges_of : (base i : ℕ) (xs : List Transition) (e : Edge) (y : ℕ) → e.to ≡ base + y → HasStep xs i (leaf e.leaf) y → Contains (edges_from base i xs) e
edges_of base i [] e y is h = elim h [ ]
edges_of base i (x ∷ xs) e y is (first_step a b c) = Contains-append_left (one_edge base i x) (edges_from base i xs) e (one_of base i x e a (omega arith) (same_leaf x.leaf e.leaf b))
edges_of base i (x ∷ xs) e y is (later_step h) = Contains-append_right (one_edge base i x) (edges_from base i xs) e (edges_of base i xs e y is h)

-- the element of a list put together
pub of_append : {X : Type 0} (xs ys : List X) (i : ℕ) (x : X) → slice_get (xs ++ ys) i ≡ Some x → (slice_get xs i ≡ Some x) ⊎ ((k : ℕ) × (i ≡ length xs + k) × (slice_get ys k ≡ Some x))
of_append [] ys i x at = inr (i, omega arith, at)
of_append (w ∷ xs) ys zero x at = inl at
of_append (w ∷ xs) ys (suc i) x at = elim (of_append xs ys i x at) [ inl a ↦ inl a | inr (k, is, b) ↦ inr (k, omega arith, b) ]

pub rows_more : (part : Nfa) (base n m : ℕ) (rows : List Row) (r : Row) → m ≡ suc n → AreRowsOf part base n rows → IsRowOf part base n r → AreRowsOf part base m (rows ++ (r ∷ []))
rows_more part base n m rows r is old new = record {
  counted = omega (arith, length-append rows (r ∷ []), old.counted);
  row = λ i x at. row_at i x (of_append rows (r ∷ []) i x at);
}
  where
    row_at : (i : ℕ) (x : Row) → (slice_get rows i ≡ Some x) ⊎ ((k : ℕ) × (i ≡ length rows + k) × (slice_get (r ∷ []) k ≡ Some x)) → IsRowOf part base i x
    row_at i x (inl at) = old.row i x at
    row_at i x (inr (zero, same, at)) = let place : n ≡ i = omega (arith, old.counted) in let one : r ≡ x = cc in subst (λ w. IsRowOf part base w x) place (subst (λ (w : Row). IsRowOf part base n w) one new)
    row_at i x (inr (suc k, same, at)) = absurd (cc)

pub rows_for : (a : Automaton) (part : Nfa) (base n : ℕ) (rows : List Row) → Shows part a → n ≡ part.count → AreRowsOf part base n rows → AreRowsFor a base rows
rows_for a part base n rows shown count are = record {
  counted = are.counted ∙ (count ∙ shown.counted);
  edge = λ i r at e. (
    λ h. let to = edges_to base i part.steps.items e (subst (λ (w : List Edge). Contains w e) ((are.row i r at).edges) h) in (to.0, to.1, (shown.edge i to.0 (leaf e.leaf)).0 to.2),
    λ (y, is, h). subst (λ (w : List Edge). Contains w e) (sym ((are.row i r at).edges)) (edges_of base i part.steps.items e y is ((shown.edge i y (leaf e.leaf)).1 h)),
  );
  accepting = λ i r at. (
    λ h. (shown.accepting i).0 (has_of part.accepting.items i (((are.row i r at).accepting).0 h)),
    λ h. ((are.row i r at).accepting).1 (contains_of part.accepting.items i ((shown.accepting i).1 h)),
  );
}

index_append : (xs : List ℕ) (y k : ℕ) → k < length xs → get_or (xs ++ (y ∷ [])) k 0 ≡ get_or xs k 0
index_append [] y k h = absurd (omega arith)
index_append (x ∷ xs) y zero h = refl
index_append (x ∷ xs) y (suc k) h = index_append xs y k (omega arith)

index_last : (xs : List ℕ) (y : ℕ) → get_or (xs ++ (y ∷ [])) (length xs) 0 ≡ y
index_last [] y = refl
index_last (x ∷ xs) y = index_last xs y

same_or : (y n : ℕ) → y < suc n → (y ≡ n) ⊎ (y < n)
same_or zero zero h = inl refl
same_or zero (suc n) h = inr (omega arith)
same_or (suc y) zero h = absurd (omega arith)
same_or (suc y) (suc n) h = elim (same_or y n (omega arith)) [ inl e ↦ inl (ap suc e) | inr l ↦ inr (omega arith) ]

-- the rows of a part after those of the parts before it
module _ (g : Grammar) (side : Side) (k : ℕ) (q : Pattern) (part : IsPart g side k q) where
  row_of_part : (rows added : List Row) → length rows ≡ first_state g side k → AreRowsFor (automaton q) (length rows) added → (x : ℕ) (r : Row) → slice_get added x ≡ Some r → x < (automaton q).count → IsRow g side (first_state g side k + x) r
  row_of_part rows added count are x r at low = record {
    edge = λ e. (
      λ h. let one = ((are.edge x r at) e).0 h in (k, q, x, one.0, part, refl, one.1 ∙ ap (λ w. w + one.0) count, one.2),
      λ h. let one = edge_of_part g side x (first_state g side k + x) e.to (leaf e.leaf) part low refl h in ((are.edge x r at) e).1 (one.0, one.1 ∙ ap (λ w. w + one.0) (sym count), one.2),
    );
    accepting = (
      λ h. (k, q, x, part, refl, (are.accepting x r at).0 h),
      λ h. (are.accepting x r at).1 (accepting_of_part g side x (first_state g side k + x) part low refl h),
    );
  }

  slice_within : {X : Type 0} (xs : List X) (i : ℕ) (x : X) → slice_get xs i ≡ Some x → i < length xs
  slice_within [] i x at = absurd (cc)
  slice_within (y ∷ xs) zero x at = omega arith
  slice_within (y ∷ xs) (suc i) x at = omega (arith, slice_within xs i x at)

  pub rows_and : (m : ℕ) (rows added : List Row) → m ≡ suc k → length rows ≡ first_state g side k → ((i : ℕ) (r : Row) → slice_get rows i ≡ Some r → IsRow g side i r) → AreRowsFor (automaton q) (length rows) added
      → (length (rows ++ added) ≡ first_state g side m) × ((i : ℕ) (r : Row) → slice_get (rows ++ added) i ≡ Some r → IsRow g side i r)
  rows_and m rows added is count old are = (
    length-append rows added ∙ (omega (arith, count, are.counted, next_first g side part) ∙ ap (first_state g side) (sym is)),
    λ i r at. row_at i r (of_append rows added i r at),
  )
    where
      row_at : (i : ℕ) (r : Row) → (slice_get rows i ≡ Some r) ⊎ ((x : ℕ) × (i ≡ length rows + x) × (slice_get added x ≡ Some r)) → IsRow g side i r
      row_at i r (inl at) = old i r at
      row_at i r (inr (x, same, at)) = subst (λ w. IsRow g side w r) (ap (λ w. w + x) (sym count) ∙ sym same) (row_of_part rows added count are x r at (omega (arith, slice_within added x r at, are.counted)))

  pub built_more : (m f : ℕ) (firsts : List ℕ) (rows added : List Row) → m ≡ suc k → f ≡ length rows → Built g side k firsts rows → AreRowsFor (automaton q) (length rows) added → Built g side m (firsts ++ (f ∷ [])) (rows ++ added)
  built_more m f firsts rows added is from old are = record {
    begun = omega (arith, length-append firsts (f ∷ []), old.begun);
    first = λ j low. first_at j (same_or j k (omega arith));
    counted = (rows_and m rows added is old.counted old.row are).0;
    row = (rows_and m rows added is old.counted old.row are).1;
  }
    where
      first_at : (j : ℕ) → (j ≡ k) ⊎ (j < k) → get_or (firsts ++ (f ∷ [])) j 0 ≡ first_state g side j
      first_at j (inl e) =
          let last = index_last firsts f in
          let here : length firsts ≡ j = omega (arith, old.begun) in
          subst (λ w. get_or (firsts ++ (f ∷ [])) w 0 ≡ f) here last ∙ (from ∙ (old.counted ∙ ap (first_state g side) (sym e)))
      first_at j (inr low) = index_append firsts f j (omega (arith, old.begun)) ∙ old.first j low

-- the content of an element pattern of a schema
at_mapped : (es : List ElemPat) (i : ℕ) (x : ElemPat) → i < length es → x ≡ get_or es i x → slice_get (map element_pattern es) i ≡ Some (element_pattern x)
at_mapped [] i x h e = absurd (omega arith)
at_mapped (y ∷ es) zero x h e = ap (λ (w : ElemPat). Some (element_pattern w)) (sym e)
at_mapped (y ∷ es) (suc i) x h e = at_mapped es i x (omega arith) e

pub content_part : (g : Grammar) (side : Side) (es : List ElemPat) (i : ℕ) (x : ElemPat) → g.elements ≡ map element_pattern es → i < length es → x ≡ get_or es i x → IsPart g side (suc i) (element_pattern x).content
content_part g side es i x is h e = a_content {k = suc i} {e = element_pattern x} (subst (λ (w : List ElementPattern). slice_get w i ≡ Some (element_pattern x)) (sym is) (at_mapped es i x h e))
