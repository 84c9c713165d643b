-- What is live, told by rows, and the names that stand for symbols.
use Rattle.std.proofs.Common.{◌≡◌, ◌↔◌, inl, inr, ℕ, ◌<◌, List, false, ◌&&◌, refl, ap, ◌∙◌, sym, subst, arith}
use Rattle.std.proofs.lemmas.List.Elements.{All-contains}
use Rattle.tc_model.specs.Names.{ExpandedName, IsName, IsText}
use Rattle.tc_model.specs.Trees.{Trees, none, text, element, beside, node_count, IsNormal, AreLawful, is_white_space_only}
use Rattle.tc_model.specs.Chains.{Tree, an_element, a_text}
use Rattle.tc_model.specs.TreesApart.{alone, followed_by, is_text, ends_in_text, IsApart}
use Rattle.tc_model.specs.LiveTrees.{HasPattern, HavePatterns, LeadSomewhere, IsLiveTree, IsLiveHedge, empty_is_live, are_live}
use Rattle.tc_model.specs.Grammars.{Grammar, in_class}
use Rattle.tc_model.specs.Matching.{Matches}
use Rattle.tc_model.specs.Sheets.{Sheet}
use Rattle.tc_model.specs.Validity.{IsValid}
use Rattle.tc_model.specs.Symbols.{Mention, symbol_of, symbol_count, fresh_name, symbols_of, AreSymbols}
use Rattle.tc_model.proofs.TreesApart.{nodes_beside, lawful_beside, apart_followed, normal_apart}
use Rattle.tc_alpha.proofs.Alike.{alike}
use Rattle.tc_alpha.proofs.Fresh.{symbol_told, lawful_told}
use Rattle.tc_alpha.proofs.Lawful.{are_symbols}
use Rattle.tc_alpha.proofs.Members.{contains_from_has}
use Rattle.tc_rules.proofs.Covered.{symbol_below}
use Rattle.tc_rows.proofs.Leading.{element_has}
use Rattle.tc_rows.proofs.Live.{some_node, live_parts, live_apart, tree_apart}
use Rattle.tc_incl.specs.Schemas.{Schemas, AreSchemas}
use Rattle.tc_incl.specs.Rows.{HedgeRow, TreeRow, IsRowOfHedge, IsRowOfTree}
use Rattle.tc_incl.specs.Arithmetic.{IsTextLive, IsLiveAppend, IsLiveWrap}
use Rattle.tc_incl.proofs.OneSchema.{IsBlind, next_led, around_patterns, document_pattern}

module _ (g : Grammar) where
  -- trees have patterns where all parts of them have
  have_beside : (h k : Trees) → HavePatterns g (beside h k) ↔ (HavePatterns g h × HavePatterns g k)
  have_beside none k = (λ a. (tt, a), λ a. a.1)
  have_beside (text s rest) k = let (to, of) = have_beside rest k in (λ a. ((a.0, (to a.1).0), (to a.1).1), λ a. (a.0.0, of (a.0.1, a.1)))
  have_beside (element n kids rest) k = let (to, of) = have_beside rest k in (λ a. ((a.0, (to a.1).0), (to a.1).1), λ a. (a.0.0, of (a.0.1, a.1)))

  have_alone : (t : Tree) → HavePatterns g (alone t) ↔ HasPattern g t
  have_alone (an_element n kids) = (λ a. a.0, λ a. (a, tt))
  have_alone (a_text s) = (λ a. a.0, λ a. (a, tt))

  not_none : (h : Trees) (t : Tree) → none ≡ followed_by h t → ⊥
  not_none h t e = omega (arith, ap node_count e, nodes_beside h (alone t), some_node t)

  lead_on : {l : Trees} (h : Trees) (t : Tree) → l ≡ followed_by h t → IsLiveHedge g l → LeadSomewhere g (followed_by h t)
  lead_on h t e empty_is_live = absurd (not_none h t e)
  lead_on h t e (are_live a p l) = subst (LeadSomewhere g) e l

-- a symbol's name has this symbol, and so its classes don't tell it from other names of it
module _ (input output : Grammar) (sheet : Sheet) where
  abbrev All : List Mention
  All = symbols_of input output sheet

  fresh_symbol : (n : ExpandedName) → symbol_of All n ≡ symbol_of All (fresh_name All (symbol_of All n))
  fresh_symbol n = sym (symbol_told All (are_symbols input output sheet) (symbol_of All n) (symbol_below All n) (fresh_name All (symbol_of All n)) refl)

  input_blind : IsBlind input All
  input_blind n k e at =
      All-contains (λ w. in_class w.names n ≡ in_class w.names (fresh_name All (symbol_of All n))) input.elements e
      (alike input output sheet n (fresh_name All (symbol_of All n)) (fresh_symbol n)).in_input (contains_from_has input.elements e (element_has input.elements k e at))

  output_blind : IsBlind output All
  output_blind n k e at =
      All-contains (λ w. in_class w.names n ≡ in_class w.names (fresh_name All (symbol_of All n))) output.elements e
      (alike input output sheet n (fresh_name All (symbol_of All n)) (fresh_symbol n)).in_output (contains_from_has output.elements e (element_has output.elements k e at))

module _ (x : Schemas) (are : AreSchemas x) where
  pub first_blind : IsBlind x.first x.symbols
  first_blind = elim are.symbols [
    | inl e ↦ subst (IsBlind x.first) (sym e) (input_blind x.first x.second are.sheet)
    | inr e ↦ subst (IsBlind x.first) (sym e) (output_blind x.second x.first are.sheet)
  ]

  pub second_blind : IsBlind x.second x.symbols
  second_blind = elim are.symbols [
    | inl e ↦ subst (IsBlind x.second) (sym e) (output_blind x.first x.second are.sheet)
    | inr e ↦ subst (IsBlind x.second) (sym e) (input_blind x.second x.first are.sheet)
  ]

  symbols_are : AreSymbols x.symbols
  symbols_are = elim are.symbols [
    | inl e ↦ subst AreSymbols (sym e) (are_symbols x.first x.second are.sheet)
    | inr e ↦ subst AreSymbols (sym e) (are_symbols x.second x.first are.sheet)
  ]

  pub fresh_told : (a : ℕ) → a < symbol_count x.symbols → symbol_of x.symbols (fresh_name x.symbols a) ≡ a
  fresh_told a low = symbol_told x.symbols symbols_are a low (fresh_name x.symbols a) refl

  pub fresh_lawful : (a : ℕ) → IsName (fresh_name x.symbols a)
  fresh_lawful a = elim are.symbols [
    | inl e ↦ lawful_told x.symbols a (fresh_name x.symbols a) refl x.first x.second are.sheet are.first are.second are.well_formed e
    | inr e ↦ lawful_told x.symbols a (fresh_name x.symbols a) refl x.second x.first are.sheet are.second are.first are.well_formed e
  ]

  pub text_live : (s : List ℕ) → IsText s → is_white_space_only s ≡ false → IsLiveTree x.first (a_text s) ↔ IsTextLive x
  text_live s lawful ink = (λ l. l.1, λ l. (((lawful, tt), (normal_apart (text s none)).1 (refl, ink, tt)), l))

  pub append_live : (h : Trees) (t : Tree) (r : HedgeRow) (s : TreeRow) → IsLiveHedge x.first h → IsLiveTree x.first t → IsRowOfHedge x h r → IsRowOfTree x t s
      → IsLiveHedge x.first (followed_by h t) ↔ IsLiveAppend x r s
  append_live h t r s live tree a b = (to, of)
    where
      ends : (r.ends && s.is_text) ≡ (ends_in_text h && is_text t)
      ends = λ i. a.ends i && b.is_text i

      to : IsLiveHedge x.first (followed_by h t) → IsLiveAppend x r s
      to l =
          let (front, back, meet) = (apart_followed h t).0 ((normal_apart (followed_by h t)).0 (live_parts x.first l).0.1) in
          let (k, j, low, high, leads) = lead_on x.first h t refl l in
          let (i, there, on) = (next_led x.first h t r.first s.is_text s.first b.is_text (tree_apart x.first t tree) a.first b.first j).1 (k, low, high, leads) in
          (ends ∙ meet, (i, j, there, on))

      of : IsLiveAppend x r s → IsLiveHedge x.first (followed_by h t)
      of (meet, (i, j, there, on)) =
          let (k, low, high, leads) = (next_led x.first h t r.first s.is_text s.first b.is_text (tree_apart x.first t tree) a.first b.first j).0 (i, there, on) in
          are_live (
            (lawful_beside h (alone t)).1 ((live_parts x.first live).0.0, tree.0.0),
            (normal_apart (followed_by h t)).1 ((apart_followed h t).1 (live_apart x.first h live, tree_apart x.first t tree, sym ends ∙ meet)),
          )
          ((have_beside x.first h (alone t)).1 ((live_parts x.first live).1, (have_alone x.first t).1 tree.1)) (k, j, low, high, leads)

  pub wrap_live : (n : ExpandedName) (h : Trees) (r : HedgeRow) → IsName n → IsLiveHedge x.first h → IsRowOfHedge x h r → IsLiveTree x.first (an_element n h) ↔ IsLiveWrap x (symbol_of x.symbols n) r
  wrap_live n h r name live a = (to, of)
    where
      apart : IsApart h
      apart = live_apart x.first h live

      to : IsLiveTree x.first (an_element n h) → IsLiveWrap x (symbol_of x.symbols n) r
      to (lawful, (k, e)) = (k, (around_patterns x.first x.symbols first_blind n h r.first apart a.first k).1 e)

      of : IsLiveWrap x (symbol_of x.symbols n) r → IsLiveTree x.first (an_element n h)
      of (k, e) = (
        ((name, (live_parts x.first live).0.0, tt), (normal_apart (element n h none)).1 (apart, tt)),
        (k, (around_patterns x.first x.symbols first_blind n h r.first apart a.first k).0 e),
      )

  -- valid documents are live
  pub document_live : (doc : Trees) → IsValid x.first doc → (t : Tree) × (doc ≡ alone t) × IsLiveTree x.first t
  document_live none v = absurd v.0.0
  document_live (text s rest) v = absurd v.0.0
  document_live (element n kids rest) v =
      let one : rest ≡ none = v.0.0 in
      let same : element n kids rest ≡ alone (an_element n kids) = ap (element n kids) one in
      let (k, e) = document_pattern x.first are.first_start n kids (subst (λ w. Matches x.first.elements w x.first.start) same v.1) in
      (an_element n kids, same, ((subst AreLawful same v.0.1, subst IsNormal same v.0.2), (k, e)))
