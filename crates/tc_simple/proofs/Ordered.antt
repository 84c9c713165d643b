-- How sizes and patterns are worked out, each after those to which it refers.
use Rattle.std.proofs.Common.{◌≡◌, ◌≢◌, ◌⊎◌, inl, inr, ℕ, zero, suc, ◌+◌, ◌<◌, ◌≤◌, Bool, true, false, List, [], ◌∷◌, refl, ap, ◌∙◌, sym, subst, arith, length, get_or, set, slice_index, None, Some, MatchBool, eqb, get_or-set_other, get_or-set_same, length-set}
use Rattle.std.proofs.lemmas.Bool.{cases_lt, eqb-true, eqb-false, true≢false}
use Rattle.tc_model.specs.CompactSyntaxTrees.{SyntaxPattern, empty, not_allowed, text, attribute, ref, element, mixed, optional, zero_or_more, one_or_more, group, choice, interleave, SyntaxPatterns, no_more, more, Syntax}
use Rattle.tc_model.specs.Grammars as g
use Rattle.tc_model.specs.Views as seen
use Rattle.tc_model.specs.Simplifies.{Element, Becomes, AllBecome, an_empty, a_not_allowed, a_text, an_attribute, a_reference, an_element, a_mixed, an_optional, a_zero_or_more, a_one_or_more, a_group, a_choice, an_interleave, none_left, one_more, both, number_at}
use Rattle.tc_model.specs.SimplifiesParts.{pattern_of}
use Rattle.tc_model.specs.SimplifiesCounts.{pattern_nodes, pattern_depth, patterns_nodes, patterns_depth}
use Rattle.tc_model.specs.declared.grammar.Pat.{Pat}
use Rattle.tc_model.specs.declared.grammar.Pat.TheVariants.{NotAllowed}
use Rattle.tc_model.proofs.SimplifiesUnique.{Has, here, there}
use Rattle.tc_model.proofs.CompactSyntaxClassesUnique.{same_some}
use Rattle.tc_rnc.specs.Views as see
use Rattle.tc_rnc.specs.declared.syntax.SPat.{SPat}
use Rattle.tc_simple.specs.Becoming.{becomes, all_become, made_in}
use Rattle.tc_graph.specs.Graph.{is_marked}
use Rattle.tc_simple.specs.Nodes.{nodes, nodes_of_all, pattern_at}
use Rattle.tc_simple.specs.Orders.{IsOrderly, PutsSize, PutsPattern, IsSize, Measures, AreSized, AreMade}
use Rattle.tc_simple.specs.Sizes.{capped, leaf, above, two, size_of, sizes_of, size_in}
use Rattle.tc_graph.specs.Walks.{state_at}
use Rattle.tc_simple.specs.declared.counts.Size.{Size}
use Rattle.tc_graph.specs.declared.cycles.State.{State}
use Rattle.tc_graph.specs.declared.cycles.State.TheVariants.{Done}
use Rattle.tc_simple.specs.declared.groups.Table.{Table}
use Rattle.tc_simple.proofs.Standing.{has_left, has_right, has_contains}

-- what patterns become, where what they refer to does
module _ (s : Syntax) (es : List Element) (f : List ℕ → g.Pattern) where
  abbrev Given : SyntaxPattern → Type 0
  Given p = (n : List ℕ) (place : ℕ) → Has (nodes false p) (ref n place) → (q : SyntaxPattern) × (pattern_of s n ≡ Some q) × Becomes s es q (f n)

  abbrev AllGiven : SyntaxPatterns → Type 0
  AllGiven ps = (n : List ℕ) (place : ℕ) → Has (nodes_of_all false ps) (ref n place) → (q : SyntaxPattern) × (pattern_of s n ≡ Some q) × Becomes s es q (f n)

  mutual
    pub becomes_so : (p : SyntaxPattern) → Given p → Becomes s es p (becomes f es p)
    becomes_so empty h = an_empty
    becomes_so not_allowed h = a_not_allowed
    becomes_so text h = a_text
    becomes_so attribute h = an_attribute
    becomes_so (ref n place) h = let (q, e, b) = h n place here in a_reference e b
    becomes_so (element place c p) h = an_element
    becomes_so (mixed p) h = a_mixed (becomes_so p (λ n place k. h n place (there k)))
    becomes_so (optional p) h = an_optional (becomes_so p (λ n place k. h n place (there k)))
    becomes_so (zero_or_more p) h = a_zero_or_more (becomes_so p (λ n place k. h n place (there k)))
    becomes_so (one_or_more p) h = a_one_or_more (becomes_so p (λ n place k. h n place (there k)))
    becomes_so (group ps) h = a_group (all_become_so ps (λ n place k. h n place (there k)))
    becomes_so (choice ps) h = a_choice (all_become_so ps (λ n place k. h n place (there k)))
    becomes_so (interleave ps) h = an_interleave (all_become_so ps (λ n place k. h n place (there k)))

    all_become_so : (ps : SyntaxPatterns) → AllGiven ps → AllBecome s es ps (all_become f es ps)
    all_become_so no_more h = none_left
    all_become_so (more p ps) h =
        one_more (becomes_so p (λ n place k. h n place (has_left (nodes false p) (nodes_of_all false ps) k))) (all_become_so ps (λ n place k. h n place (has_right (nodes false p) (nodes_of_all false ps) k)))

-- a size is that of patterns side by side
record MeasuresAll (z : Size) (ps : g.Patterns) : Type 0 where
  nodes : z.nodes ≡ capped (patterns_nodes ps)
  depth : z.depth ≡ capped (patterns_depth ps)

measures_leaf : (p : g.Pattern) → pattern_nodes p ≡ 1 → pattern_depth p ≡ 1 → Measures leaf p
measures_leaf p e f = record { nodes = omega (arith, e); depth = omega (arith, f) }

measures_both : (a b : Size) (p q : g.Pattern) (r : g.Pattern) → Measures a p → Measures b q → pattern_nodes r ≡ 1 + patterns_nodes (both p q) → pattern_depth r ≡ 1 + patterns_depth (both p q) → Measures (above (two a b)) r
measures_both a b p q r h k e f = record {
  nodes = omega (arith, h.nodes, k.nodes, e);
  depth = omega (arith, h.depth, k.depth, f);
}

measures_above : (a : Size) (p : g.Pattern) → Measures a p → Measures (above a) (g.one_or_more p)
measures_above a p h = record { nodes = omega (arith, h.nodes); depth = omega (arith, h.depth) }

measures_list : (a : Size) (ps : g.Patterns) (r : g.Pattern) → MeasuresAll a ps → pattern_nodes r ≡ 1 + patterns_nodes ps → pattern_depth r ≡ 1 + patterns_depth ps → Measures (above a) r
measures_list a ps r h e f = record { nodes = omega (arith, h.nodes, e); depth = omega (arith, h.depth, f) }

-- the size of what a pattern becomes, where what it refers to has one
abbrev AllSized : Syntax → List Element → SyntaxPatterns → Size → Type 0
AllSized s es qs z = (ps : g.Patterns) × AllBecome s es qs ps × MeasuresAll z ps

measures_joined : (a b : Size) (p : g.Pattern) (ps : g.Patterns) → Measures a p → MeasuresAll b ps → MeasuresAll (two a b) (g.more p ps)
measures_joined a b p ps h k = record { nodes = omega (arith, h.nodes, k.nodes); depth = omega (arith, h.depth, k.depth) }

module _ (s : Syntax) (es : List Element) (z : List ℕ → Size) where
  abbrev SizesGiven : List SyntaxPattern → Type 0
  SizesGiven ns = (n : List ℕ) (place : ℕ) → Has ns (ref n place) → (q : SyntaxPattern) × (pattern_of s n ≡ Some q) × IsSize s es q (z n)

  mutual
    pub sized_so : (p : SyntaxPattern) → SizesGiven (nodes false p) → IsSize s es p (size_of z p)
    sized_so empty h = (g.empty, an_empty, measures_leaf g.empty refl refl)
    sized_so not_allowed h = (g.not_allowed, a_not_allowed, measures_leaf g.not_allowed refl refl)
    sized_so text h = (g.text, a_text, measures_leaf g.text refl refl)
    sized_so attribute h = (g.empty, an_attribute, measures_leaf g.empty refl refl)
    sized_so (ref n place) h = let (q, e, (p, b, m)) = h n place here in (p, a_reference e b, m)
    sized_so (element place c p) h = (g.ref (number_at es place), an_element, measures_leaf (g.ref (number_at es place)) refl refl)
    sized_so (mixed p) h =
        let (r, b, m) = sized_so p (λ n place k. h n place (there k)) in
        (g.interleave (both g.text r), a_mixed b, measures_both leaf (size_of z p) g.text r (g.interleave (both g.text r)) (measures_leaf g.text refl refl) m refl refl)
    sized_so (optional p) h =
        let (r, b, m) = sized_so p (λ n place k. h n place (there k)) in
        (g.choice (both r g.empty), an_optional b, measures_both (size_of z p) leaf r g.empty (g.choice (both r g.empty)) m (measures_leaf g.empty refl refl) refl refl)
    sized_so (zero_or_more p) h =
        let (r, b, m) = sized_so p (λ n place k. h n place (there k)) in (
          g.choice (both (g.one_or_more r) g.empty),
          a_zero_or_more b,
          measures_both (above (size_of z p)) leaf (g.one_or_more r) g.empty (g.choice (both (g.one_or_more r) g.empty)) (measures_above (size_of z p) r m) (measures_leaf g.empty refl refl) refl refl,
        )
    sized_so (one_or_more p) h = let (r, b, m) = sized_so p (λ n place k. h n place (there k)) in (g.one_or_more r, a_one_or_more b, measures_above (size_of z p) r m)
    sized_so (group ps) h = let (rs, b, m) = all_sized_so ps (λ n place k. h n place (there k)) in (g.group rs, a_group b, measures_list (sizes_of z ps) rs (g.group rs) m refl refl)
    sized_so (choice ps) h = let (rs, b, m) = all_sized_so ps (λ n place k. h n place (there k)) in (g.choice rs, a_choice b, measures_list (sizes_of z ps) rs (g.choice rs) m refl refl)
    sized_so (interleave ps) h = let (rs, b, m) = all_sized_so ps (λ n place k. h n place (there k)) in (g.interleave rs, an_interleave b, measures_list (sizes_of z ps) rs (g.interleave rs) m refl refl)

    all_sized_so : (ps : SyntaxPatterns) → SizesGiven (nodes_of_all false ps) → AllSized s es ps (sizes_of z ps)
    all_sized_so no_more h = (g.no_more, none_left, record { nodes = refl; depth = refl })
    all_sized_so (more p ps) h =
        let (r, b, m) = sized_so p (λ n place k. h n place (has_left (nodes false p) (nodes_of_all false ps) k)) in
        let (rs, c, k) = all_sized_so ps (λ n place k. h n place (has_right (nodes false p) (nodes_of_all false ps) k)) in
        (g.more r rs, one_more b c, measures_joined (size_of z p) (sizes_of z ps) r rs m k)

-- one step of the order
index_default : {X : Type 0} (xs : List X) (k : ℕ) (d e : X) → k < length xs → get_or xs k d ≡ get_or xs k e
index_default [] k d e h = absurd (omega (arith, h))
index_default (x ∷ xs) zero d e h = refl
index_default (x ∷ xs) (suc k) d e h = index_default xs k d e (omega (arith, h))

same_or_not : (m n : ℕ) → (m ≡ n) ⊎ (m ≢ n)
same_or_not m n = by (eqb m n) refl
  where
    by : (b : Bool) → eqb m n ≡ b → (m ≡ n) ⊎ (m ≢ n)
    by true e = inl (eqb-true m n e)
    by false e = inr (eqb-false m n e)

done_is : {c d : ℕ} → Done c ≡ Done d → c ≡ d
done_is e = cc

module _ (s : Syntax) (es : List Element) (t : Table) (marks : List Bool) (states : List State) (order : List ℕ) (o : IsOrderly s t marks states order) (c : ℕ) (small : c < length order) where
  abbrev v : ℕ
  v = slice_index order c

  earlier_is_other : (k d : ℕ) → state_at states k ≡ Done d → d < c → k ≢ v
  earlier_is_other k d e l is = omega (arith, l, done_is (sym e ∙ (ap (state_at states) is ∙ o.ordered c small)))

  -- what is known of a name to which a definition refers
  given_pattern : (made : List Pat) → AreMade s es t marks states c made → (p : SPat) → is_marked marks v ≡ true → pattern_at t v ≡ Some p → (n : List ℕ) (place : ℕ) → Has (nodes false (see.pattern p)) (ref n place)
      → (q : SyntaxPattern) × (pattern_of s n ≡ Some q) × Becomes s es q (made_in t made n)
  given_pattern made h p m at n place stands =
      let (j, d, e, marked, done, less) = o.earlier v c n m (o.ordered c small) (p, at, (place, has_contains stands)) in
      let (q, got, is) = o.table.present n j e in
      (see.pattern q, is, subst (λ z. Becomes s es (see.pattern q) z) (sym (ap (λ k. elim k as (λ _. g.Pattern) [ Some i ↦ seen.pattern (get_or made i NotAllowed) | None ↦ g.not_allowed ]) e)) (h j d q marked done less got))

  pub made_step : (old new : List Pat) → v < length old → AreMade s es t marks states c old → PutsPattern t marks es v old new → AreMade s es t marks states (c + 1) new
  made_step old new inside h puts k d p m e l at = by (is_marked marks v) refl puts (cases_lt d c)
    where
      is_v : c ≤ d → k ≡ v
      is_v low =
          let same : d ≡ c = omega (arith, low, l) in
          sym (o.alone k d m e) ∙ ap (slice_index order) same

      by : (b : Bool) → is_marked marks v ≡ b → MatchBool b ((p : SPat) × (q : Pat) × (pattern_at t v ≡ Some p) × (new ≡ set old v q) × (seen.pattern q ≡ becomes (made_in t old) es (see.pattern p))) (new ≡ old)
          → (d < c) ⊎ (c ≤ d) → Becomes s es (see.pattern p) (seen.pattern (get_or new k NotAllowed))
      by false mv is (inl less) = subst (λ z. Becomes s es (see.pattern p) (seen.pattern (get_or z k NotAllowed))) (sym is) (h k d p m e less at)
      by false mv is (inr low) = absurd (true≢false (sym m ∙ (ap (is_marked marks) (is_v low) ∙ mv)))
      by true mv (r, q, found, is, value) (inl less) =
          subst (λ z. Becomes s es (see.pattern p) (seen.pattern z)) (sym (ap (λ z. get_or z k NotAllowed) is ∙ get_or-set_other old v k q NotAllowed (earlier_is_other k d e less))) (h k d p m e less at)
      by true mv (r, q, found, is, value) (inr low) =
          let same : r ≡ p = same_some found (ap (pattern_at t) (sym (is_v low)) ∙ at) in
          let here_is : get_or new k NotAllowed ≡ q = ap (λ z. get_or new z NotAllowed) (is_v low) ∙ (ap (λ z. get_or z v NotAllowed) is ∙ get_or-set_same old v q NotAllowed inside) in
          let made = becomes_so s es (made_in t old) (see.pattern r) (given_pattern old h r mv found) in
          subst (λ z. Becomes s es z (seen.pattern (get_or new k NotAllowed))) (ap see.pattern same) (subst (λ z. Becomes s es (see.pattern r) z) (sym (ap seen.pattern here_is ∙ value)) made)

  given_size : (sizes : List Size) → AreSized s es t marks states c sizes → (p : SPat) → is_marked marks v ≡ true → pattern_at t v ≡ Some p → (n : List ℕ) (place : ℕ) → Has (nodes false (see.pattern p)) (ref n place)
      → (q : SyntaxPattern) × (pattern_of s n ≡ Some q) × IsSize s es q (size_in t sizes n)
  given_size sizes h p m at n place stands =
      let (j, d, e, marked, done, less) = o.earlier v c n m (o.ordered c small) (p, at, (place, has_contains stands)) in
      let (q, got, is) = o.table.present n j e in
      (see.pattern q, is, subst (λ z. IsSize s es (see.pattern q) z) (sym (ap (λ k. elim k as (λ _. Size) [ Some i ↦ get_or sizes i leaf | None ↦ leaf ]) e)) (h j d q marked done less got))

  pub size_step : (old new : List Size) → v < length old → AreSized s es t marks states c old → PutsSize t marks v old new → AreSized s es t marks states (c + 1) new
  size_step old new inside h puts k d p m e l at = by (is_marked marks v) refl puts (cases_lt d c)
    where
      is_v : c ≤ d → k ≡ v
      is_v low =
          let same : d ≡ c = omega (arith, low, l) in
          sym (o.alone k d m e) ∙ ap (slice_index order) same

      by : (b : Bool) → is_marked marks v ≡ b → MatchBool b ((p : SPat) × (pattern_at t v ≡ Some p) × (new ≡ set old v (size_of (size_in t old) (see.pattern p)))) (new ≡ old)
          → (d < c) ⊎ (c ≤ d) → IsSize s es (see.pattern p) (get_or new k leaf)
      by false mv is (inl less) = subst (λ z. IsSize s es (see.pattern p) (get_or z k leaf)) (sym is) (h k d p m e less at)
      by false mv is (inr low) = absurd (true≢false (sym m ∙ (ap (is_marked marks) (is_v low) ∙ mv)))
      by true mv (r, found, is) (inl less) =
          let q : Size = size_of (size_in t old) (see.pattern r) in
          subst (λ z. IsSize s es (see.pattern p) z) (sym (ap (λ z. get_or z k leaf) is ∙ get_or-set_other old v k q leaf (earlier_is_other k d e less))) (h k d p m e less at)
      by true mv (r, found, is) (inr low) =
          let q : Size = size_of (size_in t old) (see.pattern r) in
          let same : r ≡ p = same_some found (ap (pattern_at t) (sym (is_v low)) ∙ at) in
          let here_is : get_or new k leaf ≡ q = ap (λ z. get_or new z leaf) (is_v low) ∙ (ap (λ z. get_or z v leaf) is ∙ get_or-set_same old v q leaf inside) in
          let sized = sized_so s es (size_in t old) (see.pattern r) (given_size old h r mv found) in
          subst (λ z. IsSize s es z (get_or new k leaf)) (ap see.pattern same) (subst (λ z. IsSize s es (see.pattern r) z) (sym here_is) sized)

pub size_put : (t : Table) (marks : List Bool) (k : ℕ) (p : SPat) (old new : List Size) → is_marked marks k ≡ true → pattern_at t k ≡ Some p → new ≡ set old k (size_of (size_in t old) (see.pattern p)) → PutsSize t marks k old new
size_put t marks k p old new e at is = subst (λ b. MatchBool b ((p : SPat) × (pattern_at t k ≡ Some p) × (new ≡ set old k (size_of (size_in t old) (see.pattern p)))) (new ≡ old)) (sym e) (p, at, is)

pub pattern_put : (t : Table) (marks : List Bool) (es : List Element) (k : ℕ) (p : SPat) (q : Pat) (old new : List Pat) → is_marked marks k ≡ true → pattern_at t k ≡ Some p → new ≡ set old k q
    → seen.pattern q ≡ becomes (made_in t old) es (see.pattern p) → PutsPattern t marks es k old new
pattern_put t marks es k p q old new e at is value =
    subst (λ b. MatchBool b ((p : SPat) × (q : Pat) × (pattern_at t k ≡ Some p) × (new ≡ set old k q) × (seen.pattern q ≡ becomes (made_in t old) es (see.pattern p))) (new ≡ old)) (sym e) (p, q, at, is, value)

pub puts_size_length : (t : Table) (marks : List Bool) (k : ℕ) (old new : List Size) → PutsSize t marks k old new → length new ≡ length old
puts_size_length t marks k old new puts = by (is_marked marks k) puts
  where
    by : (b : Bool) → MatchBool b ((p : SPat) × (pattern_at t k ≡ Some p) × (new ≡ set old k (size_of (size_in t old) (see.pattern p)))) (new ≡ old) → length new ≡ length old
    by true (p, at, is) = ap length is ∙ length-set old k (size_of (size_in t old) (see.pattern p))
    by false is = ap length is

pub puts_pattern_length : (t : Table) (marks : List Bool) (es : List Element) (k : ℕ) (old new : List Pat) → PutsPattern t marks es k old new → length new ≡ length old
puts_pattern_length t marks es k old new puts = by (is_marked marks k) puts
  where
    by : (b : Bool) → MatchBool b ((p : SPat) × (q : Pat) × (pattern_at t k ≡ Some p) × (new ≡ set old k q) × (seen.pattern q ≡ becomes (made_in t old) es (see.pattern p))) (new ≡ old) → length new ≡ length old
    by true (p, q, at, is, value) = ap length is ∙ length-set old k q
    by false is = ap length is
