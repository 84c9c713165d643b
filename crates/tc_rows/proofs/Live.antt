-- What is live, told by rows; and that all parts of what is live are live.
use Rattle.std.proofs.Common.{◌≡◌, ◌↔◌, inl, inr, ℕ, ◌+◌, ◌<◌, List, [], ◌∷◌, Bool, true, false, ◌&&◌, ◌||◌, IsTrue, refl, ap, ◌∙◌, sym, subst, arith}
use Rattle.std.specs.List.{list_any}
use Rattle.std.proofs.lemmas.Bool.{true≢false}
use Rattle.tc_model.specs.Names.{ExpandedName, IsName, IsText}
use Rattle.tc_model.specs.Trees.{Trees, none, text, element, beside, node_count, normal_form, AreLawful, IsNormal, IsDocument, is_white_space_only}
use Rattle.tc_model.specs.Chains.{Tree, an_element, a_text}
use Rattle.tc_model.specs.TreesApart.{alone, followed_by, is_text, ends_in_text, IsApart}
use Rattle.tc_model.specs.LiveTrees.{AreOfDocuments, HasPattern, HavePatterns, LeadSomewhere, IsLiveTree, IsLiveHedge, empty_is_live, are_live}
use Rattle.tc_model.specs.Grammars.{Grammar}
use Rattle.tc_model.specs.Matching.{Matches}
use Rattle.tc_model.specs.Validity.{IsValid}
use Rattle.tc_model.specs.States.{input, first_state, a_content, is_alternative}
use Rattle.tc_model.specs.Symbols.{symbol_of, symbol_count, fresh_name, symbols_of}
use Rattle.tc_model.proofs.TreesApart.{nodes_beside, lawful_beside, apart_followed, normal_apart}
use Rattle.tc_alpha.proofs.Members.{Has, has_from_contains, contains_from_has}
use Rattle.tc_alpha.proofs.Lawful.{are_symbols}
use Rattle.tc_alpha.proofs.Fresh.{symbol_told}
use Rattle.tc_hedge.proofs.Leading.{leads_exactly, leads_split}
use Rattle.tc_rows.specs.Triples.{Triple, IsTriple, sheet}
use Rattle.tc_rows.specs.Rows.{HedgeRow, TreeRow, IsRowOfHedge, IsRowOfTree}
use Rattle.tc_rows.specs.Arithmetic.{IsTextLive, IsLiveAppend, IsLiveWrap, is_admitted}
use Rattle.tc_rows.proofs.Inside.{number_within, led_have}
use Rattle.tc_rows.proofs.Append.{append_states}
use Rattle.tc_rows.proofs.Wrap.{wrap_patterns}
use Rattle.tc_hedge.proofs.SetsRuns.{alternative_of, matches_alternative}

pub some_node : (t : Tree) → 0 < node_count (alone t)
some_node (an_element n kids) = omega arith
some_node (a_text s) = omega arith

module _ (g : Grammar) where
  have_beside : (h k : Trees) → HavePatterns g (beside h k) ↔ (HavePatterns g h × HavePatterns g k)
  have_beside none k = (λ a. (tt, a), λ a. a.1)
  have_beside (text s rest) k = let (to, of) = have_beside rest k in (λ a. ((a.0, (to a.1).0), (to a.1).1), λ a. (a.0.0, of (a.0.1, a.1)))
  have_beside (element n kids rest) k = let (to, of) = have_beside rest k in (λ a. ((a.0, (to a.1).0), (to a.1).1), λ a. (a.0.0, of (a.0.1, a.1)))

  have_alone : (t : Tree) → HavePatterns g (alone t) ↔ HasPattern g t
  have_alone (an_element n kids) = (λ a. a.0, λ a. (a, tt))
  have_alone (a_text s) = (λ a. a.0, λ a. (a, tt))

  -- what is live is so of documents, and its trees have patterns
  pub live_parts : {h : Trees} → IsLiveHedge g h → AreOfDocuments h × HavePatterns g h
  live_parts empty_is_live = ((tt, refl), tt)
  live_parts (are_live a p l) = (a, p)

  pub live_apart : (h : Trees) → IsLiveHedge g h → IsApart h
  live_apart h l = (normal_apart h).0 (live_parts l).0.1

  pub tree_apart : (t : Tree) → IsLiveTree g t → IsApart (alone t)
  tree_apart t l = (normal_apart (alone t)).0 l.0.1

  not_none : (h : Trees) (t : Tree) → none ≡ followed_by h t → ⊥
  not_none h t e = omega (arith, ap node_count e, nodes_beside h (alone t), some_node t)

  lead_on : {l : Trees} (h : Trees) (t : Tree) → l ≡ followed_by h t → IsLiveHedge g l → LeadSomewhere g (followed_by h t)
  lead_on h t e empty_is_live = absurd (not_none h t e)
  lead_on h t e (are_live a p l) = subst (LeadSomewhere g) e l

  -- the last tree of a live list, and what stands before it
  pub live_last : (h : Trees) (t : Tree) → IsLiveHedge g (followed_by h t) → IsLiveTree g t
  live_last h t l =
      let ((lawful, normal), patterns) = live_parts l in
      let (front, back, meet) = (apart_followed h t).0 ((normal_apart (followed_by h t)).0 normal) in
      ((((lawful_beside h (alone t)).0 lawful).1, (normal_apart (alone t)).1 back), (have_alone t).0 ((have_beside h (alone t)).0 patterns).1)

  pub live_front : (h : Trees) (t : Tree) → IsLiveHedge g (followed_by h t) → IsLiveHedge g h
  live_front h t l =
      let ((lawful, normal), patterns) = live_parts l in
      let (front, back, meet) = (apart_followed h t).0 ((normal_apart (followed_by h t)).0 normal) in
      let (k, j, low, high, leads) = lead_on h t refl l in
      let (i, first, second) = leads_split g input h leads in
      are_live (((lawful_beside h (alone t)).0 lawful).0, (normal_apart h).1 front) ((have_beside h (alone t)).0 patterns).0 (k, i, low, high, first)

  -- the children of a live element
  pub live_inside : (n : ExpandedName) (h : Trees) → IsLiveTree g (an_element n h) → IsLiveHedge g h
  live_inside n h ((lawful, normal), (k, (e, at, inside, matches))) =
      let apart : IsApart h = ((normal_apart (element n h none)).0 normal).0 in
      let same : normal_form h ≡ h = (normal_apart h).1 apart in
      let (low, high) = number_within g.elements k e at in
      let (y, leads, acc) = (leads_exactly g input k e.content h (a_content at)).0 (subst (λ w. Matches g.elements w e.content) (sym same) matches) in
      are_live (lawful.1, same) (led_have g false apart leads) (k, first_state g input k + y, low, high, leads)

module _ (x : Triple) (is : IsTriple x) where
  pub text_live : (s : List ℕ) → IsText s → is_white_space_only s ≡ false → IsLiveTree x.input (a_text s) ↔ IsTextLive x
  text_live s lawful ink = (λ l. l.1, λ l. (((lawful, tt), (normal_apart (text s none)).1 (refl, ink, tt)), l))

  pub append_live : (h : Trees) (t : Tree) (r : HedgeRow) (s : TreeRow) → IsLiveHedge x.input h → IsLiveTree x.input t → IsRowOfHedge x h r → IsRowOfTree x t s
      → IsLiveHedge x.input (followed_by h t) ↔ IsLiveAppend x r s
  append_live h t r s live tree a b = (to, of)
    where
      ends : (r.ends && s.is_text) ≡ (ends_in_text h && is_text t)
      ends = λ i. a.ends i && b.is_text i

      to : IsLiveHedge x.input (followed_by h t) → IsLiveAppend x r s
      to l =
          let (front, back, meet) = (apart_followed h t).0 ((normal_apart (followed_by h t)).0 (live_parts x.input l).0.1) in
          let (k, j, low, high, leads) = lead_on x.input h t refl l in
          let (i, there, on) = (append_states x is h t r s (tree_apart x.input t tree) a b j).1 (k, low, high, leads) in
          (ends ∙ meet, (i, j, there, on))

      of : IsLiveAppend x r s → IsLiveHedge x.input (followed_by h t)
      of (meet, (i, j, there, on)) =
          let (k, low, high, leads) = (append_states x is h t r s (tree_apart x.input t tree) a b j).0 (i, there, on) in
          are_live (
            (lawful_beside h (alone t)).1 ((live_parts x.input live).0.0, tree.0.0),
            (normal_apart (followed_by h t)).1 ((apart_followed h t).1 (live_apart x.input h live, tree_apart x.input t tree, sym ends ∙ meet)),
          )
          ((have_beside x.input h (alone t)).1 ((live_parts x.input live).1, (have_alone x.input t).1 tree.1)) (k, j, low, high, leads)

  pub wrap_live : (n : ExpandedName) (h : Trees) (r : HedgeRow) → IsName n → IsLiveHedge x.input h → IsRowOfHedge x h r → IsLiveTree x.input (an_element n h) ↔ IsLiveWrap x (symbol_of x.symbols n) r
  wrap_live n h r name live a = (to, of)
    where
      apart : IsApart h
      apart = live_apart x.input h live

      to : IsLiveTree x.input (an_element n h) → IsLiveWrap x (symbol_of x.symbols n) r
      to (lawful, (k, e)) = (k, (wrap_patterns x is n h r apart a k).1 e)

      of : IsLiveWrap x (symbol_of x.symbols n) r → IsLiveTree x.input (an_element n h)
      of (k, e) = (((name, (live_parts x.input live).0.0, tt), (normal_apart (element n h none)).1 (apart, tt)), (k, (wrap_patterns x is n h r apart a k).0 e))

  -- the names that stand for symbols
  pub fresh_told : (a : ℕ) → a < symbol_count x.symbols → symbol_of x.symbols (fresh_name x.symbols a) ≡ a
  fresh_told a low =
      subst (λ w. a < symbol_count w → symbol_of w (fresh_name w a) ≡ a) (sym is.symbols)
      (λ l. symbol_told (symbols_of x.input x.output (sheet x)) (are_symbols x.input x.output (sheet x)) a l (fresh_name (symbols_of x.input x.output (sheet x)) a) refl) low

  -- a document is one tree
  pub document_alone : (doc : Trees) → IsDocument doc → (t : Tree) × (doc ≡ alone t) × AreOfDocuments (alone t)
  document_alone none d = absurd d.0
  document_alone (text s rest) d = absurd d.0
  document_alone (element n kids rest) d =
      let same : element n kids rest ≡ alone (an_element n kids) = ap (element n kids) d.0 in
      (an_element n kids, same, (subst AreLawful same d.1, subst IsNormal same d.2))

  -- valid documents are live
  pub document_live : (doc : Trees) → IsValid x.input doc → (t : Tree) × (doc ≡ alone t) × IsLiveTree x.input t
  document_live none v = absurd v.0.0
  document_live (text s rest) v = absurd v.0.0
  document_live (element n kids rest) v =
      let one : rest ≡ none = v.0.0 in
      let same : element n kids rest ≡ alone (an_element n kids) = ap (element n kids) one in
      let (k, a, e) = alternative_of x.input n kids x.input.start is.start (subst (λ w. Matches x.input.elements w x.input.start) same v.1) in
      (an_element n kids, same, ((subst AreLawful same v.0.1, subst IsNormal same v.0.2), (k, e)))

  any_of_all : (f : ℕ → Bool) (ks : List ℕ) (k : ℕ) → Has ks k → f k ≡ true → list_any f ks ≡ true
  any_of_all f [] k h e = absurd h
  any_of_all f (j ∷ ks) k (inl same) e = let now : f j ≡ true = ap f same ∙ e in ap (λ w. w || list_any f ks) now
  any_of_all f (j ∷ ks) k (inr h) e = by (f j) (any_of_all f ks k h e)
    where
      by : (b : Bool) → list_any f ks ≡ true → (b || list_any f ks) ≡ true
      by true a = refl
      by false a = a

  one_of_any : (f : ℕ → Bool) (ks : List ℕ) → list_any f ks ≡ true → (k : ℕ) × Has ks k × (f k ≡ true)
  one_of_any f [] e = absurd (true≢false (sym e))
  one_of_any f (j ∷ ks) e = by (f j) refl e (one_of_any f ks)
    where
      by : (b : Bool) → f j ≡ b → (b || list_any f ks) ≡ true → (list_any f ks ≡ true → (k : ℕ) × Has ks k × (f k ≡ true)) → (k : ℕ) × Has (j ∷ ks) k × (f k ≡ true)
      by true a b later = (j, inl refl, a)
      by false a b later = let (k, h, c) = later b in (k, inr h, c)

  pub admitted_told : (t : Tree) (r : TreeRow) → AreOfDocuments (alone t) → IsRowOfTree x t r → IsValid x.input (alone t) ↔ IsTrue (is_admitted x r)
  admitted_told (a_text s) r lawful a = (λ v. absurd v.0.0, of)
    where
      of : IsTrue (is_admitted x r) → IsValid x.input (text s none)
      of e = let (k, h, f) = one_of_any (λ k. is_alternative k x.input.start) r.patterns e in absurd ((a.patterns k).0 (contains_from_has r.patterns k h))
  admitted_told (an_element n kids) r lawful a = (to, of)
    where
      to : IsValid x.input (element n kids none) → IsTrue (is_admitted x r)
      to v =
          let (k, f, e) = alternative_of x.input n kids x.input.start is.start v.1 in
          any_of_all (λ k. is_alternative k x.input.start) r.patterns k (has_from_contains r.patterns k ((a.patterns k).1 e)) f

      of : IsTrue (is_admitted x r) → IsValid x.input (element n kids none)
      of e =
          let (k, h, f) = one_of_any (λ k. is_alternative k x.input.start) r.patterns e in
          ((refl, lawful.0, lawful.1), matches_alternative x.input n kids x.input.start is.start k f ((a.patterns k).0 (contains_from_has r.patterns k h)))
