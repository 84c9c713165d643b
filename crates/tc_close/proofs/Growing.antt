-- Rows that are held go on standing for what they stood for where more comes on.
use Rattle.std.proofs.Common.{◌≡◌, ◌<◌, ◌≤◌, ◌⊎◌, inl, inr, ◌++◌, ◌∷◌, [], ℕ, suc, List, length, get_or, slice_get, Some, IsTrue, subst, sym, ap, ◌∙◌, refl, arith, append-nil, length-append}
use Rattle.std.specs.List.{Contains}
use Rattle.std.proofs.Math.ListN.{get_or-append}
use Rattle.std.proofs.lemmas.List.{get_or-map, length-map}
use Rattle.std.proofs.lemmas.Option.{get_or_from_slice_get, slice_get_within}
use Rattle.tc_mat.specs.Matrix.{Matrix}
use Rattle.tc_rows.specs.Triples.{Triple}
use Rattle.tc_rows.specs.Rows.{HedgeRow, TreeRow, IsHedgeRow, IsTreeRow}
use Rattle.tc_rows.specs.Arithmetic.{IsEmptyRow, IsTextRow, IsAppend, IsLiveAppend, IsWrap, IsLiveWrap, is_admitted, IsPassing}
use Rattle.tc_rows.specs.Derivations.{IsFailing}
use Rattle.tc_beh.specs.Places.{pairs_of, entries_by, no_matrix}
use Rattle.tc_beh.specs.Rooms.{Layout, hedge_layout, tree_layout, IsRoom, hedge_row, tree_row, outputs_in, output_at}
use Rattle.tc_beh.specs.Held.{set_at}
use Rattle.tc_beh.proofs.RoomRows.{output_is}
use Rattle.tc_beh.proofs.RoomIs.{outputs_count}
use Rattle.tc_beh.proofs.RoomLaws.{rooms_lawful}
use Rattle.tc_settle.specs.Held.{Held, Grows, IsHeldAs}
use Rattle.tc_close.specs.RowState.{RowState, hedge_at, tree_at, StandsInRow, IsHedgeHeld, IsTreeHeld, AreGood, Each, held_of, Extended}

-- an entry of a room, as a set
pub entry_in : (l : Layout) (held : List Matrix) (ns : List ℕ) (p : ℕ) → IsRoom l held ns → p < l.entries → Contains (entries_by held (outputs_in l.flags l.entries ns)) (pairs_of (get_or held (output_at l.flags ns p) no_matrix))
entry_in l held ns p is low =
    let es : List (List (ℕ × ℕ)) = entries_by held (outputs_in l.flags l.entries ns) in
    let count = outputs_count l held ns is in
    let many = length-map (outputs_in l.flags l.entries ns) (λ k. pairs_of (get_or held k no_matrix)) in
    let inside : p < length es = omega (arith, count, many, low) in
    let set : List (ℕ × ℕ) = pairs_of (get_or held (output_at l.flags ns p) no_matrix) in
    let e : get_or es p set ≡ set = get_or-map (λ k. pairs_of (get_or held k no_matrix)) (outputs_in l.flags l.entries ns) p 0 set (omega (arith, count, low)) ∙ ap (λ k. pairs_of (get_or held k no_matrix)) (output_is l.flags l.entries ns p low) in
    (p, inside, e)

module _ (a b : RowState) (e : Extended a b) where
  pub hedge_is : (u : ℕ) → u < length a.hedges → get_or b.hedges u [] ≡ get_or a.hedges u []
  hedge_is u low = ap (λ l. get_or l u []) e.hedges ∙ get_or-append a.hedges e.more_hedges [] u low

  pub tree_is : (u : ℕ) → u < length a.trees → get_or b.trees u [] ≡ get_or a.trees u []
  tree_is u low = ap (λ l. get_or l u []) e.trees ∙ get_or-append a.trees e.more_trees [] u low

  pub more_hedges : length a.hedges ≤ length b.hedges
  more_hedges = omega (arith, ap length e.hedges, length-append a.hedges e.more_hedges)

  pub more_trees : length a.trees ≤ length b.trees
  more_trees = omega (arith, ap length e.trees, length-append a.trees e.more_trees)

  pub set_same : (k : ℕ) → k < length a.outputs.matrices → set_at b.outputs k ≡ set_at a.outputs k
  set_same k low = ap (λ l. get_or l k no_matrix) e.outputs.all ∙ get_or-append a.outputs.matrices e.outputs.more no_matrix k low

  module _ (x : Triple) where
    hedge_stands : (u : ℕ) → IsRoom (hedge_layout x) a.outputs.matrices (get_or a.hedges u [])
        → IsRoom (hedge_layout x) b.outputs.matrices (get_or a.hedges u []) × (hedge_row x b.outputs.matrices (get_or a.hedges u []) ≡ hedge_row x a.outputs.matrices (get_or a.hedges u []))
    hedge_stands u room = rooms_lawful.hedges_stand x a.outputs b.outputs (get_or a.hedges u []) e.outputs room

    tree_stands : (u : ℕ) → IsRoom (tree_layout x) a.outputs.matrices (get_or a.trees u [])
        → IsRoom (tree_layout x) b.outputs.matrices (get_or a.trees u []) × (tree_row x b.outputs.matrices (get_or a.trees u []) ≡ tree_row x a.outputs.matrices (get_or a.trees u []))
    tree_stands u room = rooms_lawful.trees_stand x a.outputs b.outputs (get_or a.trees u []) e.outputs room

    module _ (good : AreGood x a) where
      pub hedge_same : (u : ℕ) → u < length a.hedges → hedge_at x b u ≡ hedge_at x a u
      hedge_same u low = ap (λ ns. hedge_row x b.outputs.matrices ns) (hedge_is u low) ∙ (hedge_stands u (good.hedges u low).room).1

      pub tree_same : (u : ℕ) → u < length a.trees → tree_at x b u ≡ tree_at x a u
      tree_same u low = ap (λ ns. tree_row x b.outputs.matrices ns) (tree_is u low) ∙ (tree_stands u (good.trees u low).room).1

      pub hedge_on : (u : ℕ) → u < length a.hedges → IsHedgeHeld x b u
      hedge_on u low = record {
        room = subst (λ ns. IsRoom (hedge_layout x) b.outputs.matrices ns) (sym (hedge_is u low)) (hedge_stands u (good.hedges u low).room).0;
        row = subst (IsHedgeRow x) (sym (hedge_same u low)) (good.hedges u low).row;
      }

      pub tree_on : (u : ℕ) → u < length a.trees → IsTreeHeld x b u
      tree_on u low = record {
        room = subst (λ ns. IsRoom (tree_layout x) b.outputs.matrices ns) (sym (tree_is u low)) (tree_stands u (good.trees u low).room).0;
        row = subst (IsTreeRow x) (sym (tree_same u low)) (good.trees u low).row;
      }

      pub stands_on : (pairs : List (ℕ × ℕ)) → StandsInRow x a pairs → StandsInRow x b pairs
      stands_on pairs (inl (u, low, c)) = inl (u, omega (arith, low, more_hedges), subst (λ (r : HedgeRow). Contains r.entries pairs) (sym (hedge_same u low)) c)
      stands_on pairs (inr (u, low, c)) = inr (u, omega (arith, low, more_trees), subst (λ (r : TreeRow). Contains r.entries pairs) (sym (tree_same u low)) c)

      pub stood_on : (k : ℕ) → k < length a.outputs.matrices → StandsInRow x a (pairs_of (set_at a.outputs k)) → StandsInRow x b (pairs_of (set_at b.outputs k))
      stood_on k low s = subst (λ m. StandsInRow x b (pairs_of m)) (sym (set_same k low)) (stands_on (pairs_of (set_at a.outputs k)) s)

  pub grows : (IsOf : Triple → Type 0) → Each IsOf (λ x. AreGood x a) → Grows (held_of IsOf a) (held_of IsOf b)
  grows IsOf good = record {
    trees = more_trees;
    hedges = more_hedges;
    symbols = e.symbols;
    is_none = λ u lu f x is. subst (IsEmptyRow x) (sym (hedge_same x (good x is) u lu)) (f x is);
    is_text = λ u lu f x is. let (live, row) = f x is in (live, subst (IsTextRow x) (sym (tree_same x (good x is) u lu)) row);
    no_text = λ f x is. f x is;
    is_append = λ h t u lh lt lu f x is.
        let App : HedgeRow → TreeRow → HedgeRow → Type 0 = λ p q r. IsLiveAppend x p q × IsAppend x p q r in
        subst (λ p. App p (tree_at x b t) (hedge_at x b u)) (sym (hedge_same x (good x is) h lh))
        (subst (λ q. App (hedge_at x a h) q (hedge_at x b u)) (sym (tree_same x (good x is) t lt)) (subst (λ r. App (hedge_at x a h) (tree_at x a t) r) (sym (hedge_same x (good x is) u lu)) (f x is)));
    no_append = λ h t lh lt f x is.
        subst (λ p. IsLiveAppend x p (tree_at x b t) → ⊥) (sym (hedge_same x (good x is) h lh)) (subst (λ q. IsLiveAppend x (hedge_at x a h) q → ⊥) (sym (tree_same x (good x is) t lt)) (f x is));
    is_wrap = λ n h u ln lh lu f x is.
        let Wrap : HedgeRow → TreeRow → Type 0 = λ p r. IsLiveWrap x n p × IsWrap x n p r in
        subst (λ p. Wrap p (tree_at x b u)) (sym (hedge_same x (good x is) h lh)) (subst (λ r. Wrap (hedge_at x a h) r) (sym (tree_same x (good x is) u lu)) (f x is));
    no_wrap = λ n h ln lh f x is. subst (λ p. IsLiveWrap x n p → ⊥) (sym (hedge_same x (good x is) h lh)) (f x is);
    fails = λ t lt f x is. subst (IsFailing x) (sym (tree_same x (good x is) t lt)) (f x is);
    passes = λ t lt f x is. subst (λ r. IsTrue (is_admitted x r) → IsPassing x r) (sym (tree_same x (good x is) t lt)) (f x is);
  }

pub grows_self : (s : Held) → Grows s s
grows_self s = record {
  trees = omega arith;
  hedges = omega arith;
  symbols = refl;
  is_none = λ u l f. f;
  is_text = λ u l f. f;
  no_text = λ f. f;
  is_append = λ h t u lh lt lu f. f;
  no_append = λ h t lh lt f. f;
  is_wrap = λ a h u la lh lu f. f;
  no_wrap = λ a h la lh f. f;
  fails = λ t lt f. f;
  passes = λ t lt f. f;
}

-- one list more, or none
pub record Keeps (old new : List (List ℕ)) (k : ℕ) (ns : List ℕ) : Type 0 where
  pub more : List (List ℕ)
  pub all : new ≡ old ++ more
  pub held : IsHeldAs (length old) (length new) k
  pub here : k < length new
  pub is : get_or new k [] ≡ ns
  pub either : (u : ℕ) → u < length new → (u < length old) ⊎ (u ≡ k)

keeps : (old new : List (List ℕ)) (k : ℕ) (ns : List ℕ) → slice_get new k ≡ Some ns → (new ≡ old) ⊎ ((k ≡ length old) × (new ≡ old ++ ns ∷ [])) → Keeps old new k ns
keeps old new k ns at (inl e) = record {
  more = [];
  all = e ∙ sym (append-nil old);
  held = inl (subst (λ l. k < length l) e (slice_get_within new k ns at), ap length e);
  here = slice_get_within new k ns at;
  is = get_or_from_slice_get new k ns [] at;
  either = λ u l. inl (subst (λ v. u < length v) e l);
}
keeps old new k ns at (inr (last, e)) =
    let count : length new ≡ suc (length old) = omega (arith, ap length e, length-append old (ns ∷ [])) in
    record {
      more = ns ∷ [];
      all = e;
      held = inr (last, count);
      here = slice_get_within new k ns at;
      is = get_or_from_slice_get new k ns [] at;
      either = λ u l. last_or u (length old) k last (omega (arith, l, count));
    }
  where
    last_or : (u n k : ℕ) → k ≡ n → u < suc n → (u < n) ⊎ (u ≡ k)
    last_or u n k e l = grind arith

pub kept : {old new : List (List ℕ)} {k : ℕ} {ns items : List ℕ} → slice_get new k ≡ Some ns → (new ≡ old) ⊎ ((k ≡ length old) × (new ≡ old ++ ns ∷ [])) → ns ≡ items → Keeps old new k items
kept {old} {new} {k} {ns} {items} at more e = keeps old new k items (at ∙ ap Some e) (subst (λ l. (new ≡ old) ⊎ ((k ≡ length old) × (new ≡ old ++ l ∷ []))) e more)
