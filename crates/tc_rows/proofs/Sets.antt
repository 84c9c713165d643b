-- Sets of pairs that rows are made of can be told, and hold pairs of states of the output alone.
use Rattle.std.proofs.Common.{◌≡◌, ◌⊎◌, inl, inr, ℕ, zero, suc, ◌+◌, ◌*◌, ◌<◌, ◌≤◌, List, [], ◌∷◌, Bool, true, false, refl, ap, ◌∙◌, sym, subst, length, get_or, nat_lt, Option, Some, None, arith}
use Rattle.std.proofs.lemmas.Option.{same_Some}
use Rattle.std.proofs.lemmas.List.Elements.{All-get_or}
use Rattle.tc_model.specs.Trees.{is_white_space_only}
use Rattle.tc_model.specs.Grammars.{ElementPattern, element_at, InClass, in_class}
use Rattle.tc_model.specs.Sheets.{Path, CallFreeBody, p_done, p_text, p_element, p_copy, p_apply, p_call, p_value, p_self, p_choose, p_each, CallFreeBranches, p_otherwise, p_branch}
use Rattle.tc_model.specs.Symbols.{symbol_of, fresh_name}
use Rattle.tc_model.specs.States.{output, text_leaf, ref_leaf, automaton, first_state, IsEdge}
use Rattle.tc_model.proofs.StatesExact.{sound}
use Rattle.tc_model.proofs.StatesParts.{edge_within}
use Rattle.tc_alpha.proofs.Members.{Has, has_from_contains, contains_from_has}
use Rattle.tc_rows.specs.Triples.{Triple, Select, sheet, outputs, moves, number}
use Rattle.tc_rows.specs.PairSets.{PairSet, product, chosen, listed, IsPairs}
use Rattle.tc_rows.specs.Rows.{AreEntries, entry, bears_value}
use Rattle.tc_rows.specs.Bodies.{NodeKind, on_root, on_element, on_text, Below, stay, text_edges, around, copied_pairs, self_bears, body_pairs, branch_pairs, holds_by}
use Rattle.tc_rows.specs.Arithmetic.{pairs_from}
use Rattle.tc_rows.proofs.Inside.{number_within}
use Rattle.tc_rows.proofs.Deciding.{Told, told_and, told_or, told_as, told_nat, told_less, told_bool, told_any, told_accepting, told_output_edge}

abbrev at : ℕ → ℕ → ℕ × ℕ
at i j = (i, j)

-- behind the end of a list
pub past : {X : Type 0} (xs : List X) (i : ℕ) (d : X) → length xs ≤ i → get_or xs i d ≡ d
past [] i d l = refl
past (y ∷ xs) zero d l = absurd (omega (arith, l))
past (y ∷ xs) (suc i) d l = past xs i d (omega (arith, l))

pub low_or_high : (i n : ℕ) → (i < n) ⊎ (n ≤ i)
low_or_high i n = grind arith

told_has : (xs : List (ℕ × ℕ)) (i j : ℕ) → Told (listed xs i j)
told_has xs i j = told_as (contains_from_has xs (at i j)) (has_from_contains xs (at i j)) (by xs)
  where
    same : (p : ℕ × ℕ) → Told (p ≡ at i j)
    same p = told_as (λ (e, f). λ w. at (e w) (f w)) (λ e. (ap (λ (q : ℕ × ℕ). q.0) e, ap (λ (q : ℕ × ℕ). q.1) e)) (told_and (told_nat p.0 i) (told_nat p.1 j))

    by : (ys : List (ℕ × ℕ)) → Told (Has ys (at i j))
    by [] = inr (λ h. h)
    by (p ∷ ys) = told_or (same p) (by ys)

module _ (x : Triple) where
  -- it can be told of each pair, and each is one of states of the output
  pub record IsSet (r : PairSet) : Type 0 where
    pub told : (i j : ℕ) → Told (r i j)
    pub within : (i j : ℕ) → r i j → (i < outputs x) × (j < outputs x)

  pub set_stay : IsSet (stay x)
  set_stay = record {
    told = λ i j. told_and (told_less i (outputs x)) (told_nat i j);
    within = λ i j (low, e). (low, subst (λ w. w < outputs x) e low);
  }

  set_text : IsSet (text_edges x)
  set_text = record { told = λ i j. told_output_edge x.output i text_leaf j; within = λ i j e. edge_within x.output output i j text_leaf e }

  set_chosen : (b : Bool) (r s : PairSet) → IsSet r → IsSet s → IsSet (chosen b r s)
  set_chosen true r s a c = a
  set_chosen false r s a c = c

  set_product : (r s : PairSet) → IsSet r → IsSet s → IsSet (product r s)
  set_product r s a c = record {
    told = λ i j.
        told_as (λ (l, (p, q)). (l, p, q)) (λ (l, p, q). (l, (p, q))) (told_any (outputs x) (λ l. r i l × s l j) (λ l (p, q). (a.within i l p).1) (λ l. told_and (a.told i l) (c.told l j)));
    within = λ i j (l, p, q). ((a.within i l p).0, (c.within l j q).1);
  }

  -- an edge that takes an element of a symbol around pairs that can be told
  module _ (a : ℕ) (r : PairSet) (c : IsSet r) (i j : ℕ) where
    abbrev Around : ℕ → ElementPattern → Type 0
    Around k e = InClass e.names (fresh_name x.symbols a) × (((y : ℕ) × (r (first_state x.output output k) (first_state x.output output k + y) × (automaton e.content).accepting y)) × IsEdge x.output output i (ref_leaf k) j)

    told_around_by : (k : ℕ) (e : ElementPattern) → Told (Around k e)
    told_around_by k e =
        let s = sound e.content in
        told_and (told_bool (in_class e.names (fresh_name x.symbols a)))
        (told_and
        (told_any (automaton e.content).count (λ y. r (first_state x.output output k) (first_state x.output output k + y) × (automaton e.content).accepting y) (λ y (p, q). s.accepted y q)
        (λ y. told_and (c.told (first_state x.output output k) (first_state x.output output k + y)) (told_accepting e.content y)))
        (told_output_edge x.output i (ref_leaf k) j))

    told_around_at : (k : ℕ) → Told ((e : ElementPattern) × ((element_at x.output.elements k ≡ Some e) × Around k e))
    told_around_at k = by (element_at x.output.elements k) refl
      where
        by : (o : Option ElementPattern) → element_at x.output.elements k ≡ o → Told ((e : ElementPattern) × ((element_at x.output.elements k ≡ Some e) × Around k e))
        by None at = inr (λ (e, (is, w)). let no : None ≡ Some e = sym at ∙ is in cc)
        by (Some e) at = elim (told_around_by k e) [
          | inl w ↦ inl (e, (at, w))
          | inr f ↦ inr (λ (d, (is, w)). f (subst (Around k) (same_Some d e (sym is ∙ at)) w))
        ]

    told_around : Told (around x a r i j)
    told_around =
        told_as (λ (k, (e, (at, (inside, ((y, (p, q)), edge))))). (k, e, at, inside, (y, p, q), edge)) (λ (k, e, at, inside, (y, p, q), edge). (k, (e, (at, (inside, ((y, (p, q)), edge))))))
        (told_any (suc (length x.output.elements)) (λ k. (e : ElementPattern) × ((element_at x.output.elements k ≡ Some e) × Around k e))
        (λ k (e, (at, w)). let (low, high) = number_within x.output.elements k e at in omega (arith, high)) told_around_at)

  set_around : (a : ℕ) (r : PairSet) → IsSet r → IsSet (around x a r)
  set_around a r c = record { told = λ i j. told_around a r c i j; within = λ i j (k, e, at, inside, acc, edge). edge_within x.output output i j (ref_leaf k) edge }

  set_copied : (k : NodeKind) (r : PairSet) → IsSet r → IsSet (copied_pairs x k r)
  set_copied on_root r c = c
  set_copied (on_element a) r c = set_around a r c
  set_copied on_text r c = set_text

  module _ (k : NodeKind) (w : Below) (pairs : (mode : ℕ) (p : Path) → IsSet (w.pairs mode p)) where
    mutual
      pub set_body : (d : CallFreeBody) → IsSet (body_pairs x d k w)
      set_body p_done = set_stay
      set_body (p_text s d) = set_product _ _ (set_chosen (is_white_space_only s) (stay x) (text_edges x) set_stay set_text) (set_body d)
      set_body (p_element n inner d) = set_product _ _ (set_around (symbol_of x.symbols n) _ (set_body inner)) (set_body d)
      set_body (p_copy inner d) = set_product _ _ (set_copied k _ (set_body inner)) (set_body d)
      set_body (p_apply p m d) = set_product _ _ (pairs m p) (set_body d)
      set_body (p_call inner d) = set_product _ _ (set_body inner) (set_body d)
      set_body (p_value p d) = set_product _ _ (set_chosen (bears_value (w.look p)) (text_edges x) (stay x) set_text set_stay) (set_body d)
      set_body (p_self d) = set_product _ _ (set_chosen (self_bears x k w.bears) (text_edges x) (stay x) set_text set_stay) (set_body d)
      set_body (p_choose y d) = set_product _ _ (set_branches y) (set_body d)
      set_body (p_each e p inner d) = set_product _ _ (pairs ((sheet x).modes + e) p) (set_body d)

      set_branches : (y : CallFreeBranches) → IsSet (branch_pairs x y k w)
      set_branches (p_otherwise d) = set_body d
      set_branches (p_branch t d y) = set_chosen (holds_by t w.look) _ _ (set_body d) (set_branches y)

  -- an entry
  pub set_entry : (es : List (List (ℕ × ℕ))) → AreEntries x es → (i : ℕ) → IsSet (listed (get_or es i []))
  set_entry es are i = record { told = told_has (get_or es i []); within = by (low_or_high i (length es)) }
    where
      by : (i < length es) ⊎ (length es ≤ i) → (a b : ℕ) → listed (get_or es i []) a b → (a < outputs x) × (b < outputs x)
      by (inl low) a b h = (All-get_or (IsPairs (outputs x)) es i [] low are.each).within a b h
      by (inr high) a b h = absurd (has_from_contains [] (at a b) (subst (λ w. listed w a b) (past es i [] high) h))

  pub set_from : (es : List (List (ℕ × ℕ))) → AreEntries x es → (q : ℕ) (y : Select) → IsSet (pairs_from x es q y)
  set_from es are q y = set_chosen (nat_lt (number x y) (moves x)) (listed (entry x es q (number x y))) (stay x) (set_entry es are (q * moves x + number x y)) set_stay

  pub set_hit : (b : Bool) (d : CallFreeBody) (k : NodeKind) (w : Below) → ((mode : ℕ) (p : Path) → IsSet (w.pairs mode p)) → IsSet (chosen b (body_pairs x d k w) (stay x))
  set_hit b d k w pairs = set_chosen b (body_pairs x d k w) (stay x) (set_body k w pairs d) set_stay

  pub set_both : (r s : PairSet) → IsSet r → IsSet s → IsSet (product r s)
  set_both = set_product
