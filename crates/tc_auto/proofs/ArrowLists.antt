-- Lists of arrows, one edge and one row after another.
use Rattle.std.proofs.Common.{◌≡◌, ◌<◌, ◌≤◌, ◌⊎◌, inl, inr, ◌↔◌, ℕ, zero, suc, ◌+◌, List, [], ◌∷◌, ◌++◌, Vec, length, take, get_or, slice_get, Some, None, refl, sym, ap, ◌∙◌, subst, arith, length-append}
use Rattle.std.specs.List.{Contains}
use Rattle.std.proofs.lemmas.List.{take_more, take_all, length-take-le}
use Rattle.std.proofs.lemmas.List.Elements.{Contains-get_or, Contains-push, Contains-push_cases, Contains-append_left}
use Rattle.std.proofs.lemmas.Option.{slice_get_cases}
use Rattle.tc_model.specs.Grammars.{Grammar}
use Rattle.tc_model.specs.States.{Side, IsEdge}
use Rattle.tc_model.proofs.StatesParts.{edge_within}
use Rattle.tc_auto.specs.declared.auto.Edge.{Edge}
use Rattle.tc_auto.specs.declared.auto.Leaf.{Leaf}
use Rattle.tc_auto.specs.declared.auto.Leaf.TheVariants.{Text, Ref}
use Rattle.tc_auto.specs.declared.arrows.Arrow.{Arrow}
use Rattle.tc_auto.specs.declared.rows.Row.{Row}
use Rattle.tc_auto.specs.Arrows.{Gains, IsSome, IsFrom, IsArrow, AreArrowsOf, AreArrows, AreWithin, leaf_at}
use Rattle.tc_auto.specs.Steps.{leaf}
use Rattle.tc_auto.specs.Stands.{Built}
use Rattle.tc_auto.proofs.RowLists.{of_append}

abbrev arrow_from : ℕ → Edge → Arrow
arrow_from from edge = record { from = from; to = edge.to }

abbrev edge_of : Arrow → Leaf → Edge
edge_of a l = record { to = a.to; leaf = l }

-- an edge that takes something else
pub gains_other : (old : List Arrow) (from : ℕ) (edge : Edge) (l : Leaf) → (edge.leaf ≡ l → ⊥) → Gains old old (IsSome from edge l)
gains_other old from edge l differs a = (λ h. inl h, back)
  where
    back : Contains old a ⊎ IsSome from edge l a → Contains old a
    back (inl h) = h
    back (inr (is, same)) = absurd (differs (ap (λ (w : Edge). w.leaf) same))

pub gains_this : (old new : List Arrow) (from : ℕ) (edge : Edge) (l : Leaf) → edge.leaf ≡ l → new ≡ old ++ (record { from = from; to = edge.to } ∷ []) → Gains old new (IsSome from edge l)
gains_this old new from edge l takes pushed a = (
  λ h. to (Contains-push_cases old (arrow_from from edge) a (subst (λ (w : List Arrow). Contains w a) pushed h)),
  λ h. subst (λ (w : List Arrow). Contains w a) (sym pushed) (of h),
)
  where
    to : Contains old a ⊎ ((arrow_from from edge) ≡ a) → Contains old a ⊎ IsSome from edge l a
    to (inl h) = inl h
    to (inr same) =
        inr (
          ap (λ (w : Arrow). w.from) same,
          ap (λ (w : Leaf). let r : Edge = record { to = edge.to; leaf = w } in r) takes ∙ ap (λ (w : Arrow). let r : Edge = record { to = w.to; leaf = l } in r) same,
        )

    of : Contains old a ⊎ IsSome from edge l a → Contains (old ++ ((arrow_from from edge) ∷ [])) a
    of (inl h) = Contains-append_left old ((arrow_from from edge) ∷ []) a h
    of (inr (is, same)) =
        let equal : (arrow_from from edge) ≡ a = ap (λ (w : ℕ). let r : Arrow = record { from = w; to = edge.to } in r) is ∙ ap (λ (w : Edge). let r : Arrow = record { from = a.from; to = w.to } in r) same in
        subst (λ (w : Arrow). Contains (old ++ ((arrow_from from edge) ∷ [])) w) equal (Contains-push old (arrow_from from edge))

pub gains_nothing : (old : List Arrow) (from : ℕ) (l : Leaf) → Gains old old (IsFrom from [] l)
gains_nothing old from l a = (λ h. inl h, back)
  where
    back : Contains old a ⊎ IsFrom from [] l a → Contains old a
    back (inl h) = h
    back (inr (is, (k, low, at))) = absurd (omega arith)

-- one edge more
pub gains_edge : (from : ℕ) (edges : List Edge) (l : Leaf) (k : ℕ) (d : Edge) → k < length edges → (old mid new : List Arrow)
    → Gains old mid (IsFrom from (take k edges) l) → Gains mid new (IsSome from (get_or edges k d) l) → Gains old new (IsFrom from (take (k + 1) edges) l)
gains_edge from edges l k d low old mid new so_far one a = (λ h. to ((one a).0 h), of)
  where
    taken : take (k + 1) edges ≡ take k edges ++ ((get_or edges k d) ∷ [])
    taken = take_more edges k d low

    to : Contains mid a ⊎ IsSome from (get_or edges k d) l a → Contains old a ⊎ IsFrom from (take (k + 1) edges) l a
    to (inl h) = elim ((so_far a).0 h) [
      | inl o ↦ inl o
      | inr (is, has) ↦ inr (is, subst (λ (w : List Edge). Contains w (edge_of a l)) (sym taken) (Contains-append_left (take k edges) ((get_or edges k d) ∷ []) (edge_of a l) has))
    ]
    to (inr (is, same)) = inr (is, subst (λ (w : List Edge). Contains w (edge_of a l)) (sym taken) (subst (λ (w : Edge). Contains (take k edges ++ ((get_or edges k d) ∷ [])) w) same (Contains-push (take k edges) (get_or edges k d))))

    last : from ≡ a.from → Contains (take k edges) (edge_of a l) ⊎ ((get_or edges k d) ≡ (edge_of a l)) → Contains new a
    last is (inl has) = (one a).1 (inl ((so_far a).1 (inr (is, has))))
    last is (inr same) = (one a).1 (inr (is, same))

    of : Contains old a ⊎ IsFrom from (take (k + 1) edges) l a → Contains new a
    of (inl h) = (one a).1 (inl ((so_far a).1 (inl h)))
    of (inr (is, has)) = last is (Contains-push_cases (take k edges) (get_or edges k d) (edge_of a l) (subst (λ (w : List Edge). Contains w (edge_of a l)) taken has))

pub gained_edges : (from : ℕ) (edges given : List Edge) (l : Leaf) (k : ℕ) (old new : List Arrow) → length edges ≤ k → edges ≡ given → Gains old new (IsFrom from (take k edges) l) → Gains old new (IsFrom from given l)
gained_edges from edges given l k old new high same g = subst (λ (w : List Edge). Gains old new (IsFrom from w l)) (take_all k edges high ∙ same) g

-- no row yet
pub no_arrows : (l : Leaf) (new : List Arrow) → new ≡ [] → AreArrowsOf [] l new
no_arrows l new is a = (λ h. none (subst (λ (w : List Arrow). Contains w a) is h), λ (row, at, has). absurd (cc))
  where
    none : Contains [] a → IsArrow [] l a
    none (k, low, at) = absurd (omega arith)

slice_left : {X : Type 0} (xs ys : List X) (k : ℕ) (x : X) → slice_get xs k ≡ Some x → slice_get (xs ++ ys) k ≡ Some x
slice_left [] ys k x at = absurd (cc)
slice_left (y ∷ xs) ys zero x at = at
slice_left (y ∷ xs) ys (suc k) x at = slice_left xs ys k x at

slice_last : {X : Type 0} (xs : List X) (x : X) → slice_get (xs ++ (x ∷ [])) (length xs) ≡ Some x
slice_last [] x = refl
slice_last (y ∷ xs) x = slice_last xs x

-- one row more
pub arrows_row : (rows : List Row) (l : Leaf) (k : ℕ) (x : Row) → k < length rows → x ≡ get_or rows k x → (mid new : List Arrow) → AreArrowsOf (take k rows) l mid → Gains mid new (IsFrom k x.edges.items l) → AreArrowsOf (take (k + 1) rows) l new
arrows_row rows l k x low place mid new so_far one a = (λ h. to ((one a).0 h), of)
  where
    taken : take (k + 1) rows ≡ take k rows ++ (x ∷ [])
    taken = take_more rows k x low ∙ ap (λ (w : Row). take k rows ++ (w ∷ [])) (sym place)

    size : length (take k rows) ≡ k
    size = length-take-le k rows (omega arith)

    to : Contains mid a ⊎ IsFrom k x.edges.items l a → IsArrow (take (k + 1) rows) l a
    to (inl h) = let (r, at, has) = (so_far a).0 h in (r, subst (λ (w : List Row). slice_get w a.from ≡ Some r) (sym taken) (slice_left (take k rows) (x ∷ []) a.from r at), has)
    to (inr (is, has)) = (x, subst (λ (w : List Row). slice_get w a.from ≡ Some x) (sym taken) (subst (λ w. slice_get (take k rows ++ (x ∷ [])) w ≡ Some x) (size ∙ is) (slice_last (take k rows) x)), has)

    last : (r : Row) → Contains r.edges.items (edge_of a l) → (slice_get (take k rows) a.from ≡ Some r) ⊎ ((m : ℕ) × (a.from ≡ length (take k rows) + m) × (slice_get (x ∷ []) m ≡ Some r)) → Contains new a
    last r has (inl at) = (one a).1 (inl ((so_far a).1 (r, at, has)))
    last r has (inr (zero, is, at)) = let same : x ≡ r = cc in (one a).1 (inr (omega (arith, is, size), subst (λ (w : Row). Contains w.edges.items (edge_of a l)) (sym same) has))
    last r has (inr (suc m, is, at)) = absurd (cc)

    of : IsArrow (take (k + 1) rows) l a → Contains new a
    of (r, at, has) = last r has (of_append (take k rows) (x ∷ []) a.from r (subst (λ (w : List Row). slice_get w a.from ≡ Some r) taken at))

pub all_rows : (rows : List Row) (l : Leaf) (k : ℕ) (new : List Arrow) → length rows ≤ k → AreArrowsOf (take k rows) l new → AreArrowsOf rows l new
all_rows rows l k new high are = subst (λ (w : List Row). AreArrowsOf w l new) (take_all k rows high) are

pub no_leaf : {Z : Type 0} (rows : List Row) → AreArrows {Z = Z} rows []
no_leaf rows k v at = absurd (cc)

-- one leaf more
pub arrows_leaf : {Z : Type 0} (rows : List Row) (n : ℕ) (l : Leaf) (v : Vec Arrow Z) (old new : List (Vec Arrow Z)) → length old ≡ n → l ≡ leaf_at n → new ≡ old ++ (v ∷ []) → AreArrows rows old → AreArrowsOf rows l v.items → AreArrows rows new
arrows_leaf {Z} rows n l v old new size is pushed so_far one k w at = by (of_append old (v ∷ []) k w (subst (λ (u : List (Vec Arrow Z)). slice_get u k ≡ Some w) pushed at))
  where
    by : (slice_get old k ≡ Some w) ⊎ ((m : ℕ) × (k ≡ length old + m) × (slice_get (v ∷ []) m ≡ Some w)) → AreArrowsOf rows (leaf_at k) w.items
    by (inl h) = so_far k w h
    by (inr (zero, place, h)) =
        let same : v ≡ w = cc in
        let here : n ≡ k = omega (arith, size, place) in
        subst (λ (u : Vec Arrow Z). AreArrowsOf rows (leaf_at k) u.items) same (subst (λ (u : Leaf). AreArrowsOf rows u v.items) (is ∙ ap leaf_at here) one)
    by (inr (suc m, place, h)) = absurd (cc)

pub first_leaf : {Z : Type 0} (rows : List Row) (v : Vec Arrow Z) (old new : List (Vec Arrow Z)) → old ≡ [] → new ≡ old ++ (v ∷ []) → AreArrowsOf rows Text v.items → (length new ≡ 1) × AreArrows rows new
first_leaf {Z} rows v old new none pushed one = (
  ap length pushed ∙ (length-append old (v ∷ []) ∙ ap (λ (w : List (Vec Arrow Z)). length w + 1) none),
  arrows_leaf rows 0 Text v old new (ap length none) refl pushed (subst (λ (w : List (Vec Arrow Z)). AreArrows rows w) (sym none) (no_leaf rows)) one,
)

leaf_next : (n : ℕ) → Ref (n + 1) ≡ leaf_at (n + 1)
leaf_next n = let is : n + 1 ≡ suc n = omega arith in ap (λ w. Ref w) is ∙ sym (ap leaf_at is)

pub next_leaf : {Z : Type 0} (rows : List Row) (n : ℕ) (v : Vec Arrow Z) (old new : List (Vec Arrow Z)) → (length old ≡ n + 1) × AreArrows rows old → new ≡ old ++ (v ∷ []) → AreArrowsOf rows (Ref (n + 1)) v.items → (length new ≡ n + 1 + 1) × AreArrows rows new
next_leaf {Z} rows n v old new (size, so_far) pushed one = (
  ap length pushed ∙ (length-append old (v ∷ []) ∙ ap (λ w. w + 1) size),
  arrows_leaf rows (n + 1) (Ref (n + 1)) v old new size (leaf_next n) pushed so_far one,
)

-- the arrows of a schema
module _ (g : Grammar) (side : Side) (firsts : List ℕ) (rows : List Row) (b : Built g side (suc (length g.elements)) firsts rows) (l : Leaf) (arrows : List Arrow) (are : AreArrowsOf rows l arrows) where
  pub arrows_exact : (a : Arrow) → Contains arrows a ↔ IsEdge g side a.from (leaf l) a.to
  arrows_exact a = (λ h. to ((are a).0 h), λ e. (are a).1 (of e))
    where
      to : IsArrow rows l a → IsEdge g side a.from (leaf l) a.to
      to (row, at, has) = ((b.row a.from row at).edge (record { to = a.to; leaf = l })).0 has

      of : IsEdge g side a.from (leaf l) a.to → IsArrow rows l a
      of e = found e (slice_get_cases rows a.from).1
        where
          found : IsEdge g side a.from (leaf l) a.to → ((row : Row) × (a.from < length rows) × (slice_get rows a.from ≡ Some row) × (get_or rows a.from row ≡ row)) ⊎ ((length rows ≤ a.from) × (slice_get rows a.from ≡ None)) → IsArrow rows l a
          found e (inl (row, low, at, is)) = (row, at, ((b.row a.from row at).edge (record { to = a.to; leaf = l })).1 e)
          found e (inr (past, is)) = absurd (omega (arith, (edge_within g side a.from a.to (leaf l) e).0, b.counted))

  pub arrows_within : AreWithin (length rows) arrows
  arrows_within = λ k d low.
      let a : Arrow = get_or arrows k d in
      let inside = edge_within g side a.from a.to (leaf l) ((arrows_exact a).0 (Contains-get_or arrows k d low)) in
      (omega (arith, inside.0, b.counted), omega (arith, inside.1, b.counted))
