-- Where trees that are put out lead the output.
use Rattle.std.proofs.Common.{◌≡◌, inl, inr, ℕ, ◌+◌, zero, suc, List, [], ◌∷◌, true, false, Some, refl, sym, subst, slice_get}
use Rattle.std.proofs.lemmas.List.Elements.{All-contains}
use Rattle.std.proofs.lemmas.Option.{same_Some}
use Rattle.tc_model.specs.Names.{ExpandedName}
use Rattle.tc_model.specs.Trees.{Trees, none, text, element, beside, is_white_space_only}
use Rattle.tc_model.specs.Grammars.{ElementPattern, element_at, in_class}
use Rattle.tc_model.specs.States.{output, text_leaf, ref_leaf, first_state, a_content, IsEdge, Leads, at_end, past_white, by_text, by_element}
use Rattle.tc_model.specs.Symbols.{symbol_of, fresh_name, symbols_of}
use Rattle.tc_model.proofs.StatesParts.{edge_within}
use Rattle.tc_alpha.proofs.Alike.{alike}
use Rattle.tc_alpha.proofs.Lawful.{are_symbols}
use Rattle.tc_alpha.proofs.Fresh.{symbol_told}
use Rattle.tc_alpha.proofs.Members.{Has, contains_from_has}
use Rattle.tc_rules.proofs.Covered.{symbol_below}
use Rattle.tc_hedge.proofs.Leading.{run_of_leads, run_of_none, run_of_element, leads_beside, leads_within, leads_exactly, first_below, leads_split}
use Rattle.tc_rows.specs.Triples.{Triple, IsTriple, sheet}
use Rattle.tc_rows.specs.PairSets.{PairSet, HaveSamePairs, product}
use Rattle.tc_rows.specs.Rows.{led}
use Rattle.tc_rows.specs.Bodies.{stay, text_edges, around}

pub has_at : {X : Type 0} (xs : List X) (i : ℕ) (x : X) → slice_get xs i ≡ Some x → Has xs x
has_at [] i x e = absurd (cc)
has_at (y ∷ xs) zero x e = inl (same_Some y x e)
has_at (y ∷ xs) (suc i) x e = inr (has_at xs i x e)

-- the element pattern of a number is one of all
pub element_has : (es : List ElementPattern) (k : ℕ) (e : ElementPattern) → element_at es k ≡ Some e → Has es e
element_has es zero e at = absurd (cc)
element_has es (suc k) e at = has_at es k e at

module _ (x : Triple) (is : IsTriple x) where
  -- the name that stands for a name's symbol has this symbol
  pub fresh_symbol : (n : ExpandedName) → symbol_of x.symbols (fresh_name x.symbols (symbol_of x.symbols n)) ≡ symbol_of x.symbols n
  fresh_symbol n =
      subst (λ w. symbol_of w (fresh_name w (symbol_of w n)) ≡ symbol_of w n) (sym is.symbols)
      (symbol_told (symbols_of x.input x.output (sheet x)) (are_symbols x.input x.output (sheet x)) (symbol_of (symbols_of x.input x.output (sheet x)) n)
      (symbol_below (symbols_of x.input x.output (sheet x)) n) (fresh_name (symbols_of x.input x.output (sheet x)) (symbol_of (symbols_of x.input x.output (sheet x)) n)) refl)

  likened : (n : ExpandedName) → symbol_of (symbols_of x.input x.output (sheet x)) n ≡ symbol_of (symbols_of x.input x.output (sheet x)) (fresh_name x.symbols (symbol_of x.symbols n))
  likened n = sym (subst (λ w. symbol_of w (fresh_name x.symbols (symbol_of x.symbols n)) ≡ symbol_of w n) is.symbols (fresh_symbol n))

  -- a class of the input, and one of the output, holds a name where it holds the name of its symbol
  pub class_by_symbol : (n : ExpandedName) (k : ℕ) (e : ElementPattern) → element_at x.input.elements k ≡ Some e → in_class e.names n ≡ in_class e.names (fresh_name x.symbols (symbol_of x.symbols n))
  class_by_symbol n k e at =
      All-contains (λ w. in_class w.names n ≡ in_class w.names (fresh_name x.symbols (symbol_of x.symbols n))) x.input.elements e
      (alike x.input x.output (sheet x) n (fresh_name x.symbols (symbol_of x.symbols n)) (likened n)).in_input
      (contains_from_has x.input.elements e (element_has x.input.elements k e at))

  output_by_symbol : (n : ExpandedName) (k : ℕ) (e : ElementPattern) → element_at x.output.elements k ≡ Some e → in_class e.names n ≡ in_class e.names (fresh_name x.symbols (symbol_of x.symbols n))
  output_by_symbol n k e at =
      All-contains (λ w. in_class w.names n ≡ in_class w.names (fresh_name x.symbols (symbol_of x.symbols n))) x.output.elements e
      (alike x.input x.output (sheet x) n (fresh_name x.symbols (symbol_of x.symbols n)) (likened n)).in_output
      (contains_from_has x.output.elements e (element_has x.output.elements k e at))

  pub led_none : HaveSamePairs (led x none) (stay x)
  led_none i j = (λ h. (h.0, run_of_none x.output output refl (run_of_leads x.output output h.1)), λ h. (h.0, subst (λ w. Leads x.output output i none w) h.1 at_end))

  pub led_beside : (h k : Trees) → HaveSamePairs (led x (beside h k)) (product (led x h) (led x k))
  led_beside h k i j = (to, of)
    where
      to : led x (beside h k) i j → product (led x h) (led x k) i j
      to (low, l) = let s = leads_split x.output output h l in (s.0, (low, s.1), (leads_within x.output output s.1 low, s.2))

      of : product (led x h) (led x k) i j → led x (beside h k) i j
      of (m, a, b) = (a.0, leads_beside x.output output a.1 b.1)

  pub led_text : (s : List ℕ) → is_white_space_only s ≡ false → HaveSamePairs (led x (text s none)) (text_edges x)
  led_text s other i j = (to, of)
    where
      to : led x (text s none) i j → text_edges x i j
      to (low, past_white w l) = absurd (cc)
      to (low, by_text o edge l) = subst (λ w. IsEdge x.output output i text_leaf w) (run_of_none x.output output refl (run_of_leads x.output output l)) edge

      of : text_edges x i j → led x (text s none) i j
      of edge = ((edge_within x.output output i j text_leaf edge).0, by_text other edge at_end)

  pub led_white : (s : List ℕ) → is_white_space_only s ≡ true → HaveSamePairs (led x (text s none)) (stay x)
  led_white s white i j = (to, of)
    where
      to : led x (text s none) i j → stay x i j
      to (low, past_white w l) = (low, run_of_none x.output output refl (run_of_leads x.output output l))
      to (low, by_text o edge l) = absurd (cc)

      of : stay x i j → led x (text s none) i j
      of (low, e) = (low, past_white white (subst (λ w. Leads x.output output i none w) e at_end))

  pub led_element : (n : ExpandedName) (c : Trees) → HaveSamePairs (led x (element n c none)) (around x (symbol_of x.symbols n) (led x c))
  led_element n c i j = (to, of)
    where
      to : led x (element n c none) i j → around x (symbol_of x.symbols n) (led x c) i j
      to (low, l) =
          let (m, k, (e, at, inside, matches), edge, r) = run_of_element x.output output refl (run_of_leads x.output output l) in
          let (y, inner, acc) = (leads_exactly x.output output k e.content c (a_content at)).0 matches in (
            k,
            e,
            at,
            subst (λ w. w ≡ true) (output_by_symbol n k e at) inside,
            (y, (first_below x.output output (a_content at), inner), acc),
            subst (λ w. IsEdge x.output output i (ref_leaf k) w) (run_of_none x.output output refl r) edge,
          )

      of : around x (symbol_of x.symbols n) (led x c) i j → led x (element n c none) i j
      of (k, e, at, inside, (y, inner, acc), edge) = (
        (edge_within x.output output i j (ref_leaf k) edge).0,
        by_element (e, at, subst (λ w. w ≡ true) (sym (output_by_symbol n k e at)) inside, (leads_exactly x.output output k e.content c (a_content at)).1 (y, inner.1, acc)) edge at_end,
      )

-- an element around what leads the same leads the same
pub around_alike : (x : Triple) (a : ℕ) (r s : PairSet) → HaveSamePairs r s → HaveSamePairs (around x a r) (around x a s)
around_alike x a r s e i j = (
  λ (k, p, at, inside, (y, inner, acc), edge). (k, p, at, inside, (y, (e (first_state x.output output k) (first_state x.output output k + y)).0 inner, acc), edge),
  λ (k, p, at, inside, (y, inner, acc), edge). (k, p, at, inside, (y, (e (first_state x.output output k) (first_state x.output output k + y)).1 inner, acc), edge),
)
