-- The grammar of a schema without faults, and how large it is.
use Rattle.std.proofs.Common.{◌≡◌, ◌⊎◌, inl, inr, ℕ, suc, ◌+◌, Bool, true, false, List, [], ◌∷◌, ◌++◌, refl, ap, ◌∙◌, sym, subst, arith, length, map, sum, Option, None, Some, get_or, max}
use Rattle.std.specs.List.{AllByRecursion, flat_map}
use Rattle.std.proofs.lemmas.List.Sums.{sum_by-cons}
use Rattle.tc_model.specs.CompactSyntaxTrees.{SyntaxPattern, SyntaxPatterns, empty, not_allowed, text, attribute, ref, element, mixed, optional, zero_or_more, one_or_more, group, choice, interleave, no_more, more, Definition, Syntax}
use Rattle.tc_model.specs.CompactSyntaxLawful.{IsLawfulSyntax}
use Rattle.tc_model.specs.Grammars as g
use Rattle.tc_model.specs.Grammars.{ElementPattern, Grammar}
use Rattle.tc_model.specs.Views as seen
use Rattle.tc_model.specs.Simplifies.{Element, name_class, Becomes, ElementsBecome, no_element, next, Simplifies}
use Rattle.tc_model.specs.SimplifiesParts.{pattern_of, nodes_in, nodes_in_all, nodes_of, Reached}
use Rattle.tc_model.specs.SimplifiesParts as m
use Rattle.tc_model.specs.SimplifiesFaults.{first_answer, undefined_reference, unless_defined, IsFaultless}
use Rattle.tc_model.specs.SimplifiesCounts.{pattern_nodes, pattern_depth, grammar_nodes, grammar_depth, greatest}
use Rattle.tc_model.specs.declared.grammar.Pat.{Pat}
use Rattle.tc_model.specs.declared.grammar.Pat.TheVariants.{NotAllowed}
use Rattle.tc_model.proofs.SimplifiesUnique.{Has, here, there}
use Rattle.tc_model.proofs.CompactSyntaxClassesUnique.{some_none}
use Rattle.tc_rnc.specs.Views as see
use Rattle.tc_simple.specs.Becoming.{becomes, made_in}
use Rattle.tc_graph.specs.Graph.{Leads, is_marked}
use Rattle.tc_simple.specs.Nodes.{nodes, nodes_of_all, link_rows, elements_of}
use Rattle.tc_simple.specs.Orders.{Refers, IsOrderly, IsSize, AreSized, AreMade}
use Rattle.tc_simple.specs.Sizes.{capped, leaf, two, size_of, size_in}
use Rattle.tc_simple.specs.Tables.{number_of}
use Rattle.tc_simple.specs.Totals.{total_of, element_patterns_of}
use Rattle.tc_simple.specs.declared.counts.Size.{Size}
use Rattle.tc_graph.specs.declared.cycles.State.{State}
use Rattle.tc_simple.specs.declared.groups.Table.{Table}
use Rattle.tc_simple.proofs.Standing.{has_left, has_right, node_below}
use Rattle.tc_simple.proofs.Reaching.{reached_at, edge_in, number_is, below_reached}
use Rattle.tc_simple.specs.Resolves.{Resolves}
use Rattle.tc_simple.proofs.Resolving.{state_of, orderly}
use Rattle.tc_simple.proofs.Numbering.{written, all_elements, elements_reached, elements_ascend}
use Rattle.tc_simple.proofs.Ordered.{becomes_so, sized_so}

pub none_answers : (f : SyntaxPattern → Option ℕ) (xs : List SyntaxPattern) (o : Option ℕ) (x : SyntaxPattern) → first_answer f xs o ≡ None → Has xs x → f x ≡ None
none_answers f xs o x e h = by h e
  where
    some_none' : {p : ℕ} → Some p ≡ None → ⊥
    some_none' h = cc

    both : (a : Option ℕ) (z : Option ℕ) → elim a as (λ _. Option ℕ) [ Some place ↦ Some place | None ↦ z ] ≡ None → (a ≡ None) × (z ≡ None)
    both None z e = (refl, e)
    both (Some p) z e = absurd (some_none' e)

    by : {xs : List SyntaxPattern} {x : SyntaxPattern} → Has xs x → first_answer f xs o ≡ None → f x ≡ None
    by (here {x = x} {xs = xs}) e = (both (f x) (first_answer f xs o) e).0
    by (there {y = y} {xs = xs} k) e = by k (both (f y) (first_answer f xs o) e).1

mutual
  pub nodes_same : (p : SyntaxPattern) → nodes true p ≡ nodes_in p
  nodes_same empty = refl
  nodes_same not_allowed = refl
  nodes_same text = refl
  nodes_same attribute = refl
  nodes_same (ref n place) = refl
  nodes_same (element place c p) = ap (λ z. element place c p ∷ z) (nodes_same p)
  nodes_same (mixed p) = ap (λ z. mixed p ∷ z) (nodes_same p)
  nodes_same (optional p) = ap (λ z. optional p ∷ z) (nodes_same p)
  nodes_same (zero_or_more p) = ap (λ z. zero_or_more p ∷ z) (nodes_same p)
  nodes_same (one_or_more p) = ap (λ z. one_or_more p ∷ z) (nodes_same p)
  nodes_same (group ps) = ap (λ z. group ps ∷ z) (all_nodes_same ps)
  nodes_same (choice ps) = ap (λ z. choice ps ∷ z) (all_nodes_same ps)
  nodes_same (interleave ps) = ap (λ z. interleave ps ∷ z) (all_nodes_same ps)

  all_nodes_same : (ps : SyntaxPatterns) → nodes_of_all true ps ≡ nodes_in_all ps
  all_nodes_same no_more = refl
  all_nodes_same (more p ps) = ap (λ z. z ++ nodes_of_all true ps) (nodes_same p) ∙ ap (λ z. nodes_in p ++ z) (all_nodes_same ps)

pub in_all_nodes : {ds : List Definition} {d : Definition} {q : SyntaxPattern} → Has ds d → Has (nodes_in d.body) q → Has (flat_map (λ d. nodes_in d.body) ds) q
in_all_nodes (here {x = d} {xs = ds}) k = has_left (nodes_in d.body) (flat_map (λ d. nodes_in d.body) ds) k
in_all_nodes (there {y = d} {xs = ds} h) k = has_right (nodes_in d.body) (flat_map (λ d. nodes_in d.body) ds) (in_all_nodes h k)

module _ (s : Syntax) (t : Table) (start : ℕ) (marks : List Bool) (states : List State) (order : List ℕ) (r : Resolves s t start marks states order) (lawful : IsLawfulSyntax s) (faultless : IsFaultless s) where
  abbrev es : List Element
  es = elements_of t marks s.definitions

  reference_defined : (n : List ℕ) (place : ℕ) → Reached s (ref n place) → (q : SyntaxPattern) × (pattern_of s n ≡ Some q)
  reference_defined n place reached =
      let (d, defined, m, stands) = written s t start marks states order r (ref n place) reached refl in
      let all = in_all_nodes defined (subst (λ z. Has z (ref n place)) (nodes_same d.body) stands) in
      by (pattern_of s n) refl (none_answers (undefined_reference s) (nodes_of s) (unless_defined s [] s.end) (ref n place) faultless.defined all)
    where
      by : (o : Option SyntaxPattern) → pattern_of s n ≡ o → unless_defined s n place ≡ None → (q : SyntaxPattern) × (pattern_of s n ≡ Some q)
      by (Some q) e h = (q, e)
      by None e h = absurd (some_none (ap (λ x. elim x as (λ _. Option ℕ) [ Some p ↦ None | None ↦ Some place ]) e) h)

  -- a name to which something refers that is reached
  named : (q : SyntaxPattern) → Reached s q → (n : List ℕ) (place : ℕ) → Has (nodes false q) (ref n place) → (j : ℕ) × (number_of t n ≡ Some j) × (is_marked marks j ≡ true)
  named q reached n place h =
      let is_reached = by (node_below s q (ref n place) h) in
      let (p, e) = reference_defined n place is_reached in
      let (j, is) = number_is s t r.table n p e in
      let (k, lead, at) = reached_at s t r.table start r.begins is_reached in
      (j, is, (r.reach.exact j).1 (on lead (edge_in s t r.table true k j place n at is)))
    where
      by : (ref n place ≡ q) ⊎ m.Below s q (ref n place) → Reached s (ref n place)
      by (inl e) = subst (λ z. Reached s z) (sym e) reached
      by (inr b) = below_reached s t r.table b reached

      on : {k j : ℕ} → Leads (link_rows t true) start k → Rattle.tc_graph.specs.Graph.Edge (link_rows t true) k j → Leads (link_rows t true) start j
      on {k} {j} (inl e) a = inr (Rattle.tc_graph.specs.Graph.edge (subst (λ z. Rattle.tc_graph.specs.Graph.Edge (link_rows t true) z j) e a))
      on (inr p) a = inr (Rattle.tc_graph.specs.Graph.further p a)

  pub is_orderly : IsOrderly s t marks states order
  is_orderly = orderly s t start marks states order r faultless.acyclic (λ k n mark refers. by k n mark refers)
    where
      by : (k : ℕ) (n : List ℕ) → is_marked marks k ≡ true → Refers t k n → (j : ℕ) × (number_of t n ≡ Some j)
      by k n mark (p, at, (place, stands)) =
          let reached = Rattle.tc_simple.proofs.Reaching.pattern_reached s t r.table start r.begins k p ((r.reach.exact k).0 mark) at in
          let (j, is, m) = named (see.pattern p) reached n place (Rattle.tc_model.proofs.SimplifiesUnique.has_from_index (nodes false (see.pattern p)) (ref n place) stands) in
          (j, is)

  -- what patterns become that are reached
  module _ (made : List Pat) (are : AreMade s es t marks states (length order) made) where
    made_so : (q : SyntaxPattern) → Reached s q → Becomes s es q (becomes (made_in t made) es q)
    made_so q reached = becomes_so s es (made_in t made) q (λ n place h. by n (named q reached n place h))
      where
        by : (n : List ℕ) → (j : ℕ) × (number_of t n ≡ Some j) × (is_marked marks j ≡ true) → (p : SyntaxPattern) × (pattern_of s n ≡ Some p) × Becomes s es p (made_in t made n)
        by n (j, e, m) =
            let (p, got, is) = r.table.present n j e in
            let (c, done, small) = state_of s t start marks states order r j p got in
            (see.pattern p, is, subst (λ z. Becomes s es (see.pattern p) z) (sym (ap (λ k. elim k as (λ _. g.Pattern) [ Some i ↦ seen.pattern (get_or made i NotAllowed) | None ↦ g.not_allowed ]) e)) (are j c p m done small got))

    elements_so : (fs : List Element) → AllByRecursion (λ e. Reached s (element e.place e.names e.content)) fs → ElementsBecome s es fs (element_patterns_of t made es fs)
    elements_so [] h = no_element
    elements_so (e ∷ fs) (a, h) = next (made_so e.content (m.content a)) (elements_so fs h)

    pub is_grammar : (grammar : Grammar) → grammar.start ≡ seen.pattern (get_or made start NotAllowed) → grammar.elements ≡ element_patterns_of t made es es → Simplifies s grammar
    is_grammar grammar begins rest =
        let (p, got, is) = r.table.present [] start r.begins in
        let (c, done, small) = state_of s t start marks states order r start p got in
        let all = elements_reached s t start marks states order r es (λ e h. h) in
        record {
          faultless = faultless;
          is_grammar = record {
            numbered = es;
            start = see.pattern p;
            ascending = elements_ascend s t marks lawful.in_order;
            reached = all;
            all = all_elements s t start marks states order r;
            is_start = is;
            start_becomes = subst (λ z. Becomes s es (see.pattern p) z) (sym begins) (are start c p ((r.reach.exact start).1 (inl refl)) done small got);
            elements_become = subst (λ z. ElementsBecome s es es z) (sym rest) (elements_so es all);
          };
        }

  -- how large the grammar is
  module _ (sizes : List Size) (are : AreSized s es t marks states (length order) sizes) where
    size_so : (q : SyntaxPattern) → Reached s q → IsSize s es q (size_of (size_in t sizes) q)
    size_so q reached = sized_so s es (size_in t sizes) q (λ n place h. by n (named q reached n place h))
      where
        by : (n : List ℕ) → (j : ℕ) × (number_of t n ≡ Some j) × (is_marked marks j ≡ true) → (p : SyntaxPattern) × (pattern_of s n ≡ Some p) × IsSize s es p (size_in t sizes n)
        by n (j, e, m) =
            let (p, got, is) = r.table.present n j e in
            let (c, done, small) = state_of s t start marks states order r j p got in
            (see.pattern p, is, subst (λ z. IsSize s es (see.pattern p) z) (sym (ap (λ k. elim k as (λ _. Size) [ Some i ↦ get_or sizes i leaf | None ↦ leaf ]) e)) (are j c p m done small got))

    -- a size of a front, with the elements that are left
    abbrev Whole : List Element → Size → ℕ → ℕ → Type 0
    Whole fs z count deep = (ps : List ElementPattern) × ElementsBecome s es fs ps × (z.nodes ≡ capped (count + sum (map (λ e. pattern_nodes e.content) ps))) × (z.depth ≡ capped (max deep (greatest (map (λ e. pattern_depth e.content) ps))))

    total_so : (fs : List Element) (z : Size) (count deep : ℕ) → AllByRecursion (λ e. Reached s (element e.place e.names e.content)) fs → z.nodes ≡ capped count → z.depth ≡ capped deep → Whole fs (total_of t sizes z fs) count deep
    total_so [] z count deep h e f = ([], no_element, omega (arith, e), omega (arith, f))
    total_so (x ∷ fs) z count deep (a, h) e f =
        let (p, b, k) = size_so x.content (m.content a) in
        let both : Size = two z (size_of (size_in t sizes) x.content) in
        let (ps, c, i, j) = total_so fs both (count + pattern_nodes p) (max deep (pattern_depth p)) h (omega (arith, e, k.nodes)) (omega (arith, f, k.depth)) in
        (record { names = name_class x.names; content = p } ∷ ps, next {ps = ps} b c, omega (arith, i, sum_by-cons (λ (n : ℕ). n) (pattern_nodes p) (map (λ (e : ElementPattern). pattern_nodes e.content) ps)), omega (arith, j))

    pub has_grammar : (z : Size) → z ≡ total_of t sizes (get_or sizes start leaf) es
        → (grammar : Grammar) × Simplifies s grammar × (z.nodes ≡ capped (grammar_nodes grammar)) × (z.depth ≡ capped (grammar_depth grammar)) × (length grammar.elements ≡ length es)
    has_grammar z is =
        let (p, got, begins) = r.table.present [] start r.begins in
        let (c, done, small) = state_of s t start marks states order r start p got in
        let (q, b, k) = are start c p ((r.reach.exact start).1 (inl refl)) done small got in
        let all = elements_reached s t start marks states order r es (λ e h. h) in
        let (ps, rest, i, j) = total_so es (get_or sizes start leaf) (pattern_nodes q) (pattern_depth q) all k.nodes k.depth in
        let grammar : Grammar = record { start = q; elements = ps } in (
          grammar,
          record {
            faultless = faultless;
            is_grammar = record {
              numbered = es;
              start = see.pattern p;
              ascending = elements_ascend s t marks lawful.in_order;
              reached = all;
              all = all_elements s t start marks states order r;
              is_start = begins;
              start_becomes = b;
              elements_become = rest;
            };
          },
          ◌∙◌ {c = capped (grammar_nodes grammar)} (ap (λ y. y.nodes) is) i,
          ◌∙◌ {c = capped (grammar_depth grammar)} (ap (λ y. y.depth) is) j,
          counted rest,
        )
      where
        counted : {fs : List Element} {ps : List ElementPattern} → ElementsBecome s es fs ps → length ps ≡ length fs
        counted no_element = refl
        counted (next b c) = ap (λ n. suc n) (counted c)
