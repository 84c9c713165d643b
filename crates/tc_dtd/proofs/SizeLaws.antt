-- The sizes of what declarations become.
use Rattle.std.proofs.Common.{Some, None, ◌≡◌, ◌+◌, ◌<◌, ◌≤◌, ℕ, List, [], ◌∷◌, refl, ap, ◌∙◌, sym, arith, map, length, max}
use Rattle.std.specs.Prelude.{sum}
use Rattle.std.proofs.lemmas.List.{length-map}
use Rattle.std.proofs.lemmas.List.Sums.{sum_by-cons}
use Rattle.tc_model.specs.Grammars as g
use Rattle.tc_model.specs.Grammars.{Pattern, Patterns}
use Rattle.tc_model.specs.Simplifies.{both}
use Rattle.tc_model.specs.SimplifiesCounts.{pattern_nodes, patterns_nodes, pattern_depth, patterns_depth, grammar_nodes, grammar_depth, greatest, Passes, IsWithinCounts}
use Rattle.tc_model.specs.SimplifiesCounts as counted
use Rattle.tc_dtd.specs.Declarations as d
use Rattle.tc_dtd.specs.Declarations.{Particle, Particles, Content, nothing, anything, mixed, children, Declaration}
use Rattle.tc_dtd.specs.DtdGrammar.{reference, references, with_texts, particle_pattern, particle_patterns, content_pattern, element_pattern, grammar_with, number_of}
use Rattle.tc_dtd.specs.Sizes.{capped, leaf, above, two, size_of, sizes_of, many_leaves, content_size, total_from, total_of}
use Rattle.tc_dtd.specs.declared.sizes.Size.{Size}

record Measures (z : Size) (p : Pattern) : Type 0 where
  nodes : z.nodes ≡ capped (pattern_nodes p)
  depth : z.depth ≡ capped (pattern_depth p)

record MeasuresAll (z : Size) (ps : Patterns) : Type 0 where
  nodes : z.nodes ≡ capped (patterns_nodes ps)
  depth : z.depth ≡ capped (patterns_depth ps)

measures_leaf : (p : Pattern) → pattern_nodes p ≡ 1 → pattern_depth p ≡ 1 → Measures leaf p
measures_leaf p e f = record { nodes = omega (arith, e); depth = omega (arith, f) }

measures_both : (a b : Size) (p q r : Pattern) → Measures a p → Measures b q → pattern_nodes r ≡ 1 + patterns_nodes (both p q) → pattern_depth r ≡ 1 + patterns_depth (both p q) → Measures (above (two a b)) r
measures_both a b p q r h k e f = record { nodes = omega (arith, h.nodes, k.nodes, e); depth = omega (arith, h.depth, k.depth, f) }

measures_above : (a : Size) (p : Pattern) → Measures a p → Measures (above a) (g.one_or_more p)
measures_above a p h = record { nodes = omega (arith, h.nodes); depth = omega (arith, h.depth) }

measures_list : (a : Size) (ps : Patterns) (r : Pattern) → MeasuresAll a ps → pattern_nodes r ≡ 1 + patterns_nodes ps → pattern_depth r ≡ 1 + patterns_depth ps → Measures (above a) r
measures_list a ps r h e f = record { nodes = omega (arith, h.nodes, e); depth = omega (arith, h.depth, f) }

measures_joined : (a b : Size) (p : Pattern) (ps : Patterns) → Measures a p → MeasuresAll b ps → MeasuresAll (two a b) (g.more p ps)
measures_joined a b p ps h k = record { nodes = omega (arith, h.nodes, k.nodes); depth = omega (arith, h.depth, k.depth) }

module _ (kept : List Declaration) where
  reference_leaf : (n : List ℕ) → (pattern_nodes (reference kept n) ≡ 1) × (pattern_depth (reference kept n) ≡ 1)
  reference_leaf n = elim (number_of kept n) as (λ o. (pattern_nodes (elim o [ Some k ↦ g.ref k | None ↦ g.not_allowed ]) ≡ 1) × (pattern_depth (elim o [ Some k ↦ g.ref k | None ↦ g.not_allowed ]) ≡ 1)) [
    | Some k ↦ (refl, refl)
    | None ↦ (refl, refl)
  ]

  mutual
    measured : (p : Particle) → Measures (size_of p) (particle_pattern kept p)
    measured (d.named n) = let (e, f) = reference_leaf n in measures_leaf (reference kept n) e f
    measured (d.sequence ps) = measures_list (sizes_of ps) (particle_patterns kept ps) (g.group (particle_patterns kept ps)) (measured_all ps) refl refl
    measured (d.choice ps) = measures_list (sizes_of ps) (particle_patterns kept ps) (g.choice (particle_patterns kept ps)) (measured_all ps) refl refl
    measured (d.optional p) =
        let r = particle_pattern kept p in
        measures_both (size_of p) leaf r g.empty (g.choice (both r g.empty)) (measured p) (measures_leaf g.empty refl refl) refl refl
    measured (d.zero_or_more p) =
        let r = particle_pattern kept p in
        measures_both (above (size_of p)) leaf (g.one_or_more r) g.empty (g.choice (both (g.one_or_more r) g.empty)) (measures_above (size_of p) r (measured p)) (measures_leaf g.empty refl refl) refl refl
    measured (d.one_or_more p) = measures_above (size_of p) (particle_pattern kept p) (measured p)

    measured_all : (ps : Particles) → MeasuresAll (sizes_of ps) (particle_patterns kept ps)
    measured_all d.no_more = record { nodes = refl; depth = refl }
    measured_all (d.more p ps) = measures_joined (size_of p) (sizes_of ps) (particle_pattern kept p) (particle_patterns kept ps) (measured p) (measured_all ps)

  references_count : (ns : List (List ℕ)) → (patterns_nodes (references kept ns) ≡ length ns) × (patterns_depth (references kept ns) ≤ 1)
  references_count [] = (refl, omega arith)
  references_count (n ∷ ns) =
      let (e, f) = reference_leaf n in let (i, j) = references_count ns in
      (omega (arith, e, i), omega (arith, f, j))

  texts_measured : (ns : List (List ℕ)) → Measures (many_leaves (length ns)) (with_texts (references kept ns))
  texts_measured ns =
      let (e, f) = references_count ns in
      let inner : Size = record { nodes = capped (length ns + 1); depth = 1 } in
      let all = references kept ns in
      let first : MeasuresAll inner (g.more g.text all) = record { nodes = omega (arith, e); depth = omega (arith, f) } in
      let one = g.choice (g.more g.text all) in
      measures_both (above (above inner)) leaf (g.one_or_more one) g.empty (with_texts all) (measures_above (above inner) one (measures_list inner (g.more g.text all) one first refl refl)) (measures_leaf g.empty refl refl) refl refl

  content_measured : (c : Content) → Measures (content_size (length kept) c) (content_pattern kept c)
  content_measured nothing = measures_leaf g.empty refl refl
  content_measured anything =
      let m = texts_measured (map (λ x. x.name) kept) in
      let same = length-map kept (λ x. x.name) in
      record { nodes = ap (λ n. (many_leaves n).nodes) (sym same) ∙ m.nodes; depth = ap (λ n. (many_leaves n).depth) (sym same) ∙ m.depth }
  content_measured (mixed []) = measures_leaf g.text refl refl
  content_measured (mixed (n ∷ ns)) = texts_measured (n ∷ ns)
  content_measured (children p) = measured p

  record Total (z : Size) (count deep : ℕ) (xs : List Declaration) : Type 0 where
    nodes : z.nodes ≡ capped (count + sum (map (λ e. pattern_nodes e.content) (map (element_pattern kept) xs)))
    depth : z.depth ≡ capped (max deep (greatest (map (λ e. pattern_depth e.content) (map (element_pattern kept) xs))))

  total_so : (xs : List Declaration) (z : Size) (count deep : ℕ) → z.nodes ≡ capped count → z.depth ≡ capped deep → Total (total_from (length kept) z xs) count deep xs
  total_so [] z count deep e f = record { nodes = omega (arith, e); depth = omega (arith, f) }
  total_so (x ∷ xs) z count deep e f =
      let c = content_measured x.content in
      let a = pattern_nodes (content_pattern kept x.content) in
      let b = pattern_depth (content_pattern kept x.content) in
      let n : (two z (content_size (length kept) x.content)).nodes ≡ capped (count + a) = omega (arith, e, c.nodes) in
      let m : (two z (content_size (length kept) x.content)).depth ≡ capped (max deep b) = omega (arith, f, c.depth) in
      let r = total_so xs (two z (content_size (length kept) x.content)) (count + a) (max deep b) n m in
      let s = sum (map (λ e. pattern_nodes e.content) (map (element_pattern kept) xs)) in
      let d = greatest (map (λ e. pattern_depth e.content) (map (element_pattern kept) xs)) in
      let i : (count + a) + s ≡ count + (a + s) = omega arith in
      let j : max (max deep b) d ≡ max deep (max b d) = omega arith in
      let more = sum_by-cons (λ (n : ℕ). n) a (map (λ (e : g.ElementPattern). pattern_nodes e.content) (map (element_pattern kept) xs)) in
      record { nodes = r.nodes ∙ ap capped (i ∙ ap (λ n. count + n) (sym more)); depth = r.depth ∙ ap capped j }

  -- the whole grammar
  pub counts : (root : List ℕ) → ((total_of (length kept) kept).nodes ≡ capped (grammar_nodes (grammar_with kept root))) × ((total_of (length kept) kept).depth ≡ capped (grammar_depth (grammar_with kept root)))
      × (length (grammar_with kept root).elements ≡ length kept)
  counts root =
      let (e, f) = reference_leaf root in
      let r = total_so kept leaf 1 1 (omega arith) (omega arith) in
      (omega (arith, r.nodes, e), omega (arith, r.depth, f), length-map kept (element_pattern kept))

-- which count is passed

size_same : (kept : List Declaration) (n : ℕ) (z : Size) → n ≡ length kept → z ≡ total_of n kept → z ≡ total_of (length kept) kept
size_same kept n z e f = f ∙ ap (λ m. total_of m kept) e

module _ (kept : List Declaration) (n : ℕ) (z : Size) (e : n ≡ length kept) (f : z ≡ total_of n kept) where
  z_nodes : z.nodes ≡ (total_of (length kept) kept).nodes
  z_nodes = ap (λ (w : Size). w.nodes) (size_same kept n z e f)

  z_depth : z.depth ≡ (total_of (length kept) kept).depth
  z_depth = ap (λ (w : Size). w.depth) (size_same kept n z e f)

  pub passes_nodes : 65536 < z.nodes → (root : List ℕ) → Passes (grammar_with kept root) counted.nodes
  passes_nodes h root = let (i, j, k) = counts kept root in omega (arith, h, z_nodes, i)

  pub passes_depth : z.nodes ≤ 65536 → 2000 < z.depth → (root : List ℕ) → Passes (grammar_with kept root) counted.depth
  passes_depth g h root = let (i, j, k) = counts kept root in (omega (arith, g, z_nodes, i), omega (arith, h, z_depth, j))

  pub passes_elements : z.nodes ≤ 65536 → z.depth ≤ 2000 → 256 < n → (root : List ℕ) → Passes (grammar_with kept root) counted.elements
  passes_elements g h l root = let (i, j, k) = counts kept root in (omega (arith, g, z_nodes, i), omega (arith, h, z_depth, j), omega (arith, l, e, k))

  pub within_counts : z.nodes ≤ 65536 → z.depth ≤ 2000 → n ≤ 256 → (root : List ℕ) → IsWithinCounts (grammar_with kept root)
  within_counts g h l root =
      let (i, j, k) = counts kept root in
      record { nodes = omega (arith, g, z_nodes, i); depth = omega (arith, h, z_depth, j); elements = omega (arith, l, e, k) }
