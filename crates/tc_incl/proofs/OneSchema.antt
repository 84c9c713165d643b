-- States and element patterns of one schema: they commute with putting trees together.
use Rattle.std.proofs.Common.{◌≡◌, ◌↔◌, inl, inr, ℕ, ◌+◌, List, [], ◌∷◌, Bool, true, false, ◌||◌, IsTrue, refl, ap, ◌∙◌, sym, subst, Some, Contains}
use Rattle.std.specs.List.{list_any}
use Rattle.std.proofs.lemmas.Bool.{true≢false}
use Rattle.tc_model.specs.Names.{ExpandedName}
use Rattle.tc_model.specs.Trees.{Trees, none, text, element, normal_form}
use Rattle.tc_model.specs.Chains.{Tree, an_element, a_text}
use Rattle.tc_model.specs.TreesApart.{alone, followed_by, is_text, IsApart}
use Rattle.tc_model.specs.LiveTrees.{AreOfDocuments}
use Rattle.tc_model.specs.Grammars.{Grammar, ElementPattern, element_at, in_class}
use Rattle.tc_model.specs.Matching.{Matches}
use Rattle.tc_model.specs.SimplifiesLaws.{IsStart}
use Rattle.tc_model.specs.Validity.{IsValid}
use Rattle.tc_model.specs.States.{input, text_leaf, ref_leaf, first_state, a_content, IsElementOf, IsEdge, Leads, at_end, past_white, by_text, by_element, is_alternative}
use Rattle.tc_model.specs.Symbols.{Mention, symbol_of, fresh_name}
use Rattle.tc_model.proofs.TreesApart.{normal_apart}
use Rattle.tc_model.proofs.StatesExact.{sound}
use Rattle.tc_alpha.proofs.Members.{Has, has_from_contains, contains_from_has}
use Rattle.tc_hedge.proofs.Leading.{run_of_leads, run_of_none, run_of_element, leads_beside, leads_split, leads_exactly}
use Rattle.tc_hedge.proofs.SetsRuns.{alternative_of, matches_alternative}
use Rattle.tc_rows.proofs.Inside.{number_within, one_content}
use Rattle.tc_incl.specs.Rows.{IsLedTo, IsPatternOf, AreStatesOf, ArePatternsOf}
use Rattle.tc_incl.specs.Arithmetic.{TreeLeads, AreBegun, AreNext, IsPatternAround, AreAround, is_start}

-- a class holds a name where it holds the name that stands for its symbol
abbrev pub IsBlind : Grammar → List Mention → Type 0
IsBlind g symbols = (n : ExpandedName) (k : ℕ) (e : ElementPattern) → element_at g.elements k ≡ Some e → in_class e.names n ≡ in_class e.names (fresh_name symbols (symbol_of symbols n))

any_of_all : (f : ℕ → Bool) (ks : List ℕ) (k : ℕ) → Has ks k → f k ≡ true → list_any f ks ≡ true
any_of_all f [] k h e = absurd h
any_of_all f (j ∷ ks) k (inl same) e = let now : f j ≡ true = ap f same ∙ e in ap (λ w. w || list_any f ks) now
any_of_all f (j ∷ ks) k (inr h) e = by (f j) (any_of_all f ks k h e)
  where
    by : (b : Bool) → list_any f ks ≡ true → (b || list_any f ks) ≡ true
    by true a = refl
    by false a = a

one_of_any : (f : ℕ → Bool) (ks : List ℕ) → list_any f ks ≡ true → (k : ℕ) × Has ks k × (f k ≡ true)
one_of_any f [] e = absurd (true≢false (sym e))
one_of_any f (j ∷ ks) e = by (f j) refl e (one_of_any f ks)
  where
    by : (b : Bool) → f j ≡ b → (b || list_any f ks) ≡ true → (list_any f ks ≡ true → (k : ℕ) × Has ks k × (f k ≡ true)) → (k : ℕ) × Has (j ∷ ks) k × (f k ≡ true)
    by true a b later = (j, inl refl, a)
    by false a b later = let (k, h, c) = later b in (k, inr h, c)

module _ (g : Grammar) where
  -- a tree leads as its patterns say
  pub tree_leads : (t : Tree) (is : Bool) (patterns : List ℕ) → is ≡ is_text t → IsApart (alone t) → ArePatternsOf g t patterns → (i j : ℕ) → TreeLeads g is patterns i j ↔ Leads g input i (alone t) j
  tree_leads (a_text w) is patterns flag apart row i j = (to, of)
    where
      to : TreeLeads g is patterns i j → Leads g input i (text w none) j
      to (inl (e, edge)) = by_text apart.1 edge at_end
      to (inr (e, k)) = absurd (true≢false (sym flag ∙ e))

      of : Leads g input i (text w none) j → TreeLeads g is patterns i j
      of (past_white white l) = absurd (true≢false (sym white ∙ apart.1))
      of (by_text other edge l) = inl (flag, subst (λ v. IsEdge g input i text_leaf v) (run_of_none g input refl (run_of_leads g input l)) edge)
  tree_leads (an_element n kids) is patterns flag apart row i j = (to, of)
    where
      normal : normal_form kids ≡ kids
      normal = (normal_apart kids).1 apart.0

      to : TreeLeads g is patterns i j → Leads g input i (element n kids none) j
      to (inl (e, edge)) = absurd (true≢false (sym e ∙ flag))
      to (inr (e, (k, there, edge))) = by_element (subst (λ w. IsElementOf g.elements k n w) (sym normal) ((row k).0 there)) edge at_end

      of : Leads g input i (element n kids none) j → TreeLeads g is patterns i j
      of l =
          let (v, k, takes, edge, r) = run_of_element g input refl (run_of_leads g input l) in
          inr (flag, (k, (row k).1 (subst (λ w. IsElementOf g.elements k n w) normal takes), subst (λ w. IsEdge g input i (ref_leaf k) w) (run_of_none g input refl r) edge))

  -- where trees lead with one more behind them
  pub next_led : (h : Trees) (t : Tree) (states : List ℕ) (is : Bool) (patterns : List ℕ) → is ≡ is_text t → IsApart (alone t) → AreStatesOf g h states → ArePatternsOf g t patterns
      → (j : ℕ) → ((i : ℕ) × Contains states i × TreeLeads g is patterns i j) ↔ IsLedTo g (followed_by h t) j
  next_led h t states is patterns flag apart a b j = (to, of)
    where
      to : (i : ℕ) × Contains states i × TreeLeads g is patterns i j → IsLedTo g (followed_by h t) j
      to (i, there, leads) = let (k, low, high, l) = (a i).0 there in (k, low, high, leads_beside g input l ((tree_leads t is patterns flag apart b i j).0 leads))

      of : IsLedTo g (followed_by h t) j → (i : ℕ) × Contains states i × TreeLeads g is patterns i j
      of (k, low, high, l) = let (i, first, second) = leads_split g input h l in (i, (a i).1 (k, low, high, first), (tree_leads t is patterns flag apart b i j).1 second)

  pub next_states : (h : Trees) (t : Tree) (states : List ℕ) (is : Bool) (patterns next : List ℕ) → is ≡ is_text t → IsApart (alone t) → AreStatesOf g h states → ArePatternsOf g t patterns
      → AreNext g states is patterns next → AreStatesOf g (followed_by h t) next
  next_states h t states is patterns next flag apart a b c j =
      (λ there. (next_led h t states is patterns flag apart a b j).0 ((c j).0 there), λ l. (c j).1 ((next_led h t states is patterns flag apart a b j).1 l))

  -- no tree
  pub begun_states : (states : List ℕ) → AreBegun g states → AreStatesOf g none states
  begun_states states c j = (
    λ there. let (k, low, high, e) = (c j).0 there in (k, low, high, subst (λ w. Leads g input (first_state g input k) none w) (sym e) at_end),
    λ l. (c j).1 (l.0, l.1, l.2, sym (run_of_none g input refl (run_of_leads g input l.3))),
  )

  -- a text
  pub text_patterns : (s : List ℕ) (patterns : List ℕ) → patterns ≡ [] → ArePatternsOf g (a_text s) patterns
  text_patterns s patterns e k = (λ there. none_there (subst (λ w. Contains w k) e there), λ f. absurd f)
    where
      none_there : Contains [] k → IsPatternOf g (a_text s) k
      none_there there = has_from_contains [] k there

  -- the element patterns of an element, by where its children lead
  module _ (symbols : List Mention) (blind : IsBlind g symbols) where
    pub around_patterns : (n : ExpandedName) (h : Trees) (states : List ℕ) → IsApart h → AreStatesOf g h states → (k : ℕ) → IsPatternAround g symbols (symbol_of symbols n) states k ↔ IsPatternOf g (an_element n h) k
    around_patterns n h states apart a k = (to, of)
      where
        normal : normal_form h ≡ h
        normal = (normal_apart h).1 apart

        to : IsPatternAround g symbols (symbol_of symbols n) states k → IsElementOf g.elements k n h
        to (e, at, inside, (y, there, acc)) =
            let (i, low, high, l) = (a (first_state g input k + y)).0 there in
            let s = sound e.content in
            let same : i ≡ k = one_content g i k e y h low high at (s.accepted y acc) l in (
              e,
              at,
              subst (λ w. w ≡ true) (sym (blind n k e at)) inside,
              subst (λ w. Matches g.elements w e.content) normal ((leads_exactly g input k e.content h (a_content at)).1 (y, subst (λ w. Leads g input (first_state g input w) h (first_state g input k + y)) same l, acc)),
            )

        of : IsElementOf g.elements k n h → IsPatternAround g symbols (symbol_of symbols n) states k
        of (e, at, inside, matches) =
            let (low, high) = number_within g.elements k e at in
            let (y, l, acc) = (leads_exactly g input k e.content h (a_content at)).0 (subst (λ w. Matches g.elements w e.content) (sym normal) matches) in
            (e, at, subst (λ w. w ≡ true) (blind n k e at) inside, (y, (a (first_state g input k + y)).1 (k, low, high, l), acc))

    pub patterns_around : (n : ExpandedName) (h : Trees) (states patterns : List ℕ) → IsApart h → AreStatesOf g h states → AreAround g symbols (symbol_of symbols n) states patterns → ArePatternsOf g (an_element n h) patterns
    patterns_around n h states patterns apart a c k =
        (λ there. (around_patterns n h states apart a k).0 ((c k).0 there), λ e. (c k).1 ((around_patterns n h states apart a k).1 e))

  -- a document is valid exactly where one of its patterns may start
  pub start_told : IsStart g.start → (t : Tree) (patterns : List ℕ) → AreOfDocuments (alone t) → ArePatternsOf g t patterns → IsValid g (alone t) ↔ IsTrue (is_start g patterns)
  start_told start (a_text s) patterns lawful a = (λ v. absurd v.0.0, of)
    where
      of : IsTrue (is_start g patterns) → IsValid g (text s none)
      of e = let (k, h, f) = one_of_any (λ k. is_alternative k g.start) patterns e in absurd ((a k).0 (contains_from_has patterns k h))
  start_told start (an_element n kids) patterns lawful a = (to, of)
    where
      to : IsValid g (element n kids none) → IsTrue (is_start g patterns)
      to v =
          let (k, f, e) = alternative_of g n kids g.start start v.1 in
          any_of_all (λ k. is_alternative k g.start) patterns k (has_from_contains patterns k ((a k).1 e)) f

      of : IsTrue (is_start g patterns) → IsValid g (element n kids none)
      of e =
          let (k, h, f) = one_of_any (λ k. is_alternative k g.start) patterns e in
          ((refl, lawful.0, lawful.1), matches_alternative g n kids g.start start k f ((a k).0 (contains_from_has patterns k h)))

  -- valid documents are one element, which has a pattern
  pub document_pattern : IsStart g.start → (n : ExpandedName) (kids : Trees) → Matches g.elements (element n kids none) g.start → (k : ℕ) × IsElementOf g.elements k n kids
  document_pattern start n kids m = let (k, f, e) = alternative_of g n kids g.start start m in (k, e)
