-- Well-formed schemas and a well-formed stylesheet that keep the limits have a triple.
use Rattle.std.proofs.Common.{◌≡◌, inl, inr, ℕ, zero, suc, ◌+◌, ◌<◌, ◌≤◌, List, [], ◌∷◌, refl, ap, sym, ◌∙◌, subst, map, sum, length, Some, slice_get, Contains, All, arith}
use Rattle.std.proofs.lemmas.List.Elements.{All-head, All-tail}
use Rattle.std.proofs.lemmas.List.Sums.{sum_by-cons}
use Rattle.std.proofs.lemmas.Option.{same_Some}
use Rattle.tc_model.specs.Grammars.{Grammar, IsGrammar}
use Rattle.tc_model.specs.Numberings.{predicates_of, letters_of_elements}
use Rattle.tc_model.specs.PathStates.{first_state, next_state, path_of_rules}
use Rattle.tc_model.specs.Sheets.{Body, Rule, Sheet, CallFreeBody}
use Rattle.tc_model.specs.SimplifiesLaws.{IsStart}
use Rattle.tc_model.specs.StateCounts.{PathUse, blocks_of, all_count, some_item, reached, PassNone}
use Rattle.tc_model.specs.Symbols.{Mention, symbols_of}
use Rattle.tc_model.specs.WellFormed.{IsRule, IsSheet, ForEach, eaches_of}
use Rattle.tc_model.proofs.TotalUnfolds.{body_unfolds}
use Rattle.tc_alpha.proofs.Members.{has_from_contains, Has}
use Rattle.tc_rules.specs.Eaches.{Each}
use Rattle.tc_rules.specs.Graphs.{Graph, IsGraphOf}
use Rattle.tc_rules.specs.RulesView.{RulesView, IsTold, count_states}
use Rattle.tc_rules.specs.States.{AllInline}
use Rattle.tc_rules.proofs.Collected.{in_sheet, each_number}
use Rattle.tc_rules.proofs.SelectStates.{count_cons, settles}
use Rattle.tc_rows.specs.Triples.{Triple, IsTriple}
use Rattle.tc_close.specs.Triples.{IsTripleOf, TriplesAreThere}
use Rattle.tc_close.proofs.Choosing.{Chosen, choose_each}
use Rattle.tc_close.proofs.Reaching.{has_graph}
use Rattle.tc_close.proofs.Least.{low_or_high}

regroup : (a b k : ℕ) → (a + b) + k ≡ a + (b + k)
regroup a b k = omega arith

turn : (a b k : ℕ) → (a + b) + k ≡ b + (a + k)
turn a b k = omega arith

at_most : (n k : ℕ) → ((n < k) → ⊥) → k ≤ n
at_most n k not_less = elim (low_or_high n k) [ inl l ↦ absurd (not_less l) | inr l ↦ l ]

module _ (s : Sheet) (is : IsSheet s) where
  -- the body of the for-each of a number
  abbrev IsBodyAt : ℕ → Body → Type 0
  IsBodyAt i b = (f : ForEach) × Contains (eaches_of s) f × (f.number ≡ i) × (f.body ≡ b)

  bodies_at : Chosen IsBodyAt s.eaches
  bodies_at = choose_each IsBodyAt s.eaches (λ i l. let (f, c, e) = is.each_number i l in (f.body, (f, c, e, refl)))

  abbrev without_path : ForEach → Each
  without_path f = record { number = f.number; body = f.body }

  map_has : (fs : List ForEach) (f : ForEach) → Has fs f → Has (map without_path fs) (without_path f)
  map_has [] f h = absurd h
  map_has (g ∷ fs) f (inl e) = inl (ap without_path e)
  map_has (g ∷ fs) f (inr h) = inr (map_has fs f h)

  number_low : (f : ForEach) → Contains (eaches_of s) f → f.number < s.eaches
  number_low f c =
      each_number s is (without_path f) (subst (λ w. Has w (without_path f)) (in_sheet s) (map_has (eaches_of s) f (has_from_contains (eaches_of s) f c)))

  eaches_told : (f : ForEach) → Contains (eaches_of s) f → slice_get bodies_at.all f.number ≡ Some f.body
  eaches_told f c =
      let (b, at, (g, d, number, body)) = bodies_at.each f.number (number_low f c) in
      at ∙ ap Some (sym body ∙ ap (λ (w : ForEach). w.body) (is.same_eaches g f d c number))

  all_inline : (rs : List Rule) → All (IsRule s) rs → (ps : List CallFreeBody) × AllInline s.named rs ps
  all_inline [] a = ([], tt)
  all_inline (r ∷ rs) a =
      let (p, u) = body_unfolds s is r.body (All-head (IsRule s) r rs a).body in
      let (ps, v) = all_inline rs (All-tail (IsRule s) r rs a) in
      (p ∷ ps, (u, v))

module _ (symbols : List Mention) (s : Sheet) where
  abbrev found : PathUse → ℕ → ℕ
  found b n = length (reached symbols s some_item b.path n)

  abbrev found_of : List PathUse → ℕ → ℕ
  found_of bs n = sum (map (λ b. found b n) bs)

  found_cons : (b : PathUse) (bs : List PathUse) (n : ℕ) → found_of (b ∷ bs) n ≡ found b n + found_of bs n
  found_cons b bs n = sum_by-cons (λ x. x) (found b n) (map (λ b. found b n) bs)

  -- graphs of all blocks, with as many states as some round finds, and all later ones
  record Selected (bs : List PathUse) : Type 0 where
    pub graphs : List Graph
    pub all : length graphs ≡ length bs
    pub each : (i : ℕ) (b : PathUse) → slice_get bs i ≡ Some b → (g : Graph) × (slice_get graphs i ≡ Some g) × IsGraphOf symbols (predicates_of s) some_item b.path g
    pub round : ℕ
    pub count : (k : ℕ) → found_of bs (round + k) ≡ count_states graphs

  select_each : (most : ℕ) (bs : List PathUse) → ((n : ℕ) → found_of bs n ≤ most) → Selected bs
  select_each most [] few = record { graphs = []; all = refl; each = λ i b e. absurd (cc); round = 0; count = λ k. refl }
  select_each most (b ∷ bs) few =
      let (g, is) = has_graph symbols (predicates_of s) some_item b.path most (λ n. omega (arith, few n, found_cons b bs n)) in
      let more = select_each most bs (λ n. omega (arith, few n, found_cons b bs n)) in
      let here = is.states.found.0 in
      let each : (i : ℕ) (c : PathUse) → slice_get (b ∷ bs) i ≡ Some c → (h : Graph) × (slice_get (g ∷ more.graphs) i ≡ Some h) × IsGraphOf symbols (predicates_of s) some_item c.path h =
      elim [ zero ↦ λ c e. (g, refl, subst (λ (w : PathUse). IsGraphOf symbols (predicates_of s) some_item w.path g) (same_Some b c e) is) | suc i ↦ λ c e. more.each i c e ]
      in
      let count : (k : ℕ) → found_of (b ∷ bs) ((here + more.round) + k) ≡ count_states (g ∷ more.graphs) = λ k.
      let first : found b ((here + more.round) + k) ≡ length g.states =
      ap (found b) (regroup here more.round k)
      ∙ ap length (settles some_item (next_state symbols (predicates_of s) b.path) (letters_of_elements symbols (predicates_of s)) (first_state b.path) g.states is.states (more.round + k))
      in
      let later : found_of bs ((here + more.round) + k) ≡ count_states more.graphs = ap (found_of bs) (turn here more.round k) ∙ more.count (here + k) in
      omega (arith, first, later, found_cons b bs ((here + more.round) + k), count_cons g more.graphs)
      in
      record { graphs = g ∷ more.graphs; all = ap suc more.all; each = each; round = here + more.round; count = count }

  few_selected : (most : ℕ) (bs : List PathUse) → ((n : ℕ) → found_of bs n ≤ most) → (a : Selected bs) → count_states a.graphs ≤ most
  few_selected most bs few a = omega (arith, few (a.round + 0), a.count 0)

module _ (i o : Grammar) (s : Sheet) (input : IsGrammar i) (start : IsStart i.start) (output : IsGrammar o) (is : IsSheet s) (none : PassNone (symbols_of i o s) s) where
  abbrev symbols : List Mention
  symbols = symbols_of i o s

  few_above : (n : ℕ) → length (reached symbols s all_count (path_of_rules s.rules) n) ≤ 64
  few_above n = at_most 64 (length (reached symbols s all_count (path_of_rules s.rules) n)) (λ l. none.1 (n, l))

  few_selects : (n : ℕ) → found_of symbols s (blocks_of s) n ≤ 4096
  few_selects n = at_most 4096 (found_of symbols s (blocks_of s) n) (λ l. none.2 (n, l))

  above : (g : Graph) × IsGraphOf symbols (predicates_of s) all_count (path_of_rules s.rules) g
  above = has_graph symbols (predicates_of s) all_count (path_of_rules s.rules) 64 few_above

  selected : Selected symbols s (blocks_of s)
  selected = select_each symbols s 4096 (blocks_of s) few_selects

  abbrev rules : RulesView
  rules = record { sheet = s; predicates = predicates_of s; eaches = (bodies_at s is).all; ancestors = above.0; selects = selected.graphs }

  few_ancestors : length above.0.states ≤ 64
  few_ancestors =
      let at = above.1.states.found in
      subst (λ w. length w ≤ 64) (sym at.1) (few_above at.0)

  told : IsTold symbols rules
  told = record {
    well_formed = is;
    symbols_are = (i, o, refl);
    predicates_are = refl;
    few_predicates = at_most 6 (length (predicates_of s)) none.0;
    eaches_are = eaches_told s is;
    all_eaches = (bodies_at s is).count;
    ancestors = above.1;
    few_ancestors = few_ancestors;
    selects = selected.each;
    all_selects = selected.all;
    few_selects = few_selected symbols s 4096 (blocks_of s) few_selects selected;
  }

  pub triple_there : (x : Triple) × IsTripleOf i o s x
  triple_there =
      let (bodies, inline) = all_inline s is s.rules is.rules in
      let x : Triple = record { input = i; output = o; symbols = symbols; rules = rules; bodies = bodies } in
      let well : IsTriple x = record { input = input; start = start; output = output; symbols = refl; rules = told; bodies = inline } in
      (x, record { triple = well; input = refl; output = refl; stylesheet = refl })

pub triples_are_there : TriplesAreThere
triples_are_there i o s input start output is none = triple_there i o s input start output is none
