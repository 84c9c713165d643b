-- The grammar of declarations allows the documents that are valid for them.
use Rattle.std.proofs.Common.{◌≡◌, ◌≢◌, inl, inr, ◌↔◌, ℕ, List, [], ◌∷◌, refl, sym, subst, arith, Option, Some, None, map, length}
use Rattle.std.specs.List.{Contains, AllByRecursion}
use Rattle.std.proofs.lemmas.List.Elements.{Contains-append_left, Contains-append_right, Contains-append_cases, All-from_recursion}
use Rattle.tc_model.specs.Names.{IsNcName}
use Rattle.tc_model.specs.Trees.{Trees, none, text, element}
use Rattle.tc_model.specs.Grammars as g
use Rattle.tc_model.specs.Grammars.{Pattern, Patterns, ElementPattern, IsPattern, ArePatterns, IsElementPattern, IsGrammar}
use Rattle.tc_model.specs.Matching.{Matches}
use Rattle.tc_model.specs.SimplifiesLaws.{IsStart}
use Rattle.tc_model.specs.Validity.{IsValid}
use Rattle.tc_dtd.specs.Declarations as d
use Rattle.tc_dtd.specs.Declarations.{Particle, Particles, Content, nothing, anything, mixed, children, Declaration, declared, names_in, names_in_all, IsParticle, AreParticles, IsContent, AreDeclarations}
use Rattle.tc_dtd.specs.DtdValidity as v
use Rattle.tc_dtd.specs.DtdValidity.{Allows, a_name, a_sequence, a_choice, an_option, no_option, some, at_least_one, AllowsAll, all_end, all_more, AllowsOne, AllowsRepeated, no_part, one_part, AreElements, AreAmong, AllowsChildren, AreAsDeclared, IsRootNamed, IsDtdValid}
use Rattle.tc_dtd.specs.DtdGrammar.{mentioned, IsReached, at_root, within, Keeps, number_of, reference, references, with_texts, particle_pattern, particle_patterns, content_pattern, element_pattern, grammar_with, IsGrammarOfDtd}
use Rattle.tc_dtd.proofs.NamedLaws.{in_none, in_first, in_rest, numbered, declared_name, kept_declared, declared_kept, kept_all}
use Rattle.tc_dtd.proofs.MatchLaws.{AreMatched, those, reference_matched, matched_reference, content_matched, matched_content}

-- the names that a particle allows stand in it

mutual
  allowed_names : (p : Particle) (ns : List (List ℕ)) (n : List ℕ) → Allows p ns → Contains ns n → Contains (names_in p) n
  allowed_names p ns n a_name i = i
  allowed_names p ns n (a_sequence {ps = ps} a) i = all_names ps ns n a i
  allowed_names p ns n (a_choice {ps = ps} a) i = one_names ps ns n a i
  allowed_names p ns n (an_option {p = q} a) i = allowed_names q ns n a i
  allowed_names p ns n no_option i = absurd (in_none n i)
  allowed_names p ns n (some {p = q} r) i = some_names q ns n r i
  allowed_names p ns n (at_least_one {p = q} {ls = ls} {ms = ms} e a r) i =
      elim (Contains-append_cases ls ms n (subst (λ w. Contains w n) e i)) [ inl k ↦ allowed_names q ls n a k | inr k ↦ some_names q ms n r k ]

  all_names : (ps : Particles) (ns : List (List ℕ)) (n : List ℕ) → AllowsAll ps ns → Contains ns n → Contains (names_in_all ps) n
  all_names ps ns n all_end i = i
  all_names ps ns n (all_more {p = q} {ps = qs} {ls = ls} {ms = ms} e a b) i =
      elim (Contains-append_cases ls ms n (subst (λ w. Contains w n) e i)) [
        | inl k ↦ Contains-append_left (names_in q) (names_in_all qs) n (allowed_names q ls n a k)
        | inr k ↦ Contains-append_right (names_in q) (names_in_all qs) n (all_names qs ms n b k)
      ]

  one_names : (ps : Particles) (ns : List (List ℕ)) (n : List ℕ) → AllowsOne ps ns → Contains ns n → Contains (names_in_all ps) n
  one_names ps ns n (v.here {p = q} {ps = qs} a) i = Contains-append_left (names_in q) (names_in_all qs) n (allowed_names q ns n a i)
  one_names ps ns n (v.there {p = q} {ps = qs} a) i = Contains-append_right (names_in q) (names_in_all qs) n (one_names qs ns n a i)

  some_names : (p : Particle) (ns : List (List ℕ)) (n : List ℕ) → AllowsRepeated p ns → Contains ns n → Contains (names_in p) n
  some_names p ns n no_part i = absurd (in_none n i)
  some_names p ns n (one_part {ls = ls} {ms = ms} e a r) i =
      elim (Contains-append_cases ls ms n (subst (λ w. Contains w n) e i)) [ inl k ↦ allowed_names p ls n a k | inr k ↦ some_names p ms n r k ]

module _ (dtd : List Declaration) (root : List ℕ) (kept : List Declaration) (keeps : Keeps dtd root dtd kept) where
  abbrev AreReached : Trees → Type 0
  AreReached none = Unit {0}
  AreReached (text s rest) = AreReached rest
  AreReached (element n kids rest) = IsReached dtd root n.local × AreReached rest

  as_declared : (h : Trees) → AreMatched kept h → AreAsDeclared dtd h
  as_declared none m = tt
  as_declared (text s rest) m = as_declared rest m
  as_declared (element n kids rest) ((u, (c, e, m)), ms) =
      let inside = content_matched kept c kids m in
      ((u, (c, (kept_declared dtd root dtd kept n.local c keeps e).0, inside.0)), as_declared kids inside.1, as_declared rest ms)

  named_reached : (n : List ℕ) (c : Content) → IsReached dtd root n → declared dtd n ≡ Some c → (kids : Trees) (ns : List (List ℕ)) → AreElements kids ns
      → ((m : List ℕ) → Contains ns m → Contains (mentioned dtd c) m) → AreReached kids
  named_reached n c r e none ns a f = tt
  named_reached n c r e (text s rest) ns a f = absurd a
  named_reached n c r e (element l kids rest) ns (ms, i, a) f = (
    within r e (f l.local (subst (λ w. Contains w l.local) (sym i) (in_first l.local ms))),
    named_reached n c r e rest ms a (λ m k. f m (subst (λ w. Contains w m) (sym i) (in_rest l.local ms m k))),
  )

  among_reached : (n : List ℕ) (c : Content) → IsReached dtd root n → declared dtd n ≡ Some c → (kids : Trees) → AreAmong (mentioned dtd c) kids → AreReached kids
  among_reached n c r e none a = tt
  among_reached n c r e (text s rest) a = among_reached n c r e rest a
  among_reached n c r e (element l kids rest) a = (within r e a.0, among_reached n c r e rest a.1)

  declared_among : (h : Trees) → AreAsDeclared dtd h → AreAmong (map (λ x. x.name) dtd) h
  declared_among none a = tt
  declared_among (text s rest) a = declared_among rest a
  declared_among (element n kids rest) ((u, (c, e, k)), inside, a) = (declared_name dtd n.local c e, declared_among rest a)

  inside_reached : (n : List ℕ) (c : Content) → IsReached dtd root n → declared dtd n ≡ Some c → (kids : Trees) → AllowsChildren c kids → AreAsDeclared dtd kids → AreReached kids
  inside_reached n nothing r e kids k a = subst AreReached (sym k) tt
  inside_reached n anything r e kids k a = among_reached n anything r e kids (declared_among kids a)
  inside_reached n (mixed ns) r e kids k a = among_reached n (mixed ns) r e kids k
  inside_reached n (children p) r e kids (ns, k, b) a = named_reached n (children p) r e kids ns k (λ m i. allowed_names p ns m b i)

  are_matched : (h : Trees) → AreAsDeclared dtd h → AreReached h → AreMatched kept h
  are_matched none a r = tt
  are_matched (text s rest) a r = are_matched rest a r
  are_matched (element n kids rest) ((u, (c, e, k)), inside, a) (r, rs) =
      ((u, (c, declared_kept dtd root dtd kept n.local c keeps r e, matched_content kept c kids k (are_matched kids inside (inside_reached n.local c r e kids k inside)))), are_matched rest a rs)

  valid_here : (h : Trees) → IsValid (grammar_with kept root) h → IsDtdValid dtd root h
  valid_here h (is, m) =
      let r = reference_matched kept root h m in
      record {
        is_document = is;
        named = subst (IsRootNamed root) (sym r.alone) r.named;
        elements = as_declared h (subst (AreMatched kept) (sym r.alone) (r.matched, tt));
      }

  valid_there : (h : Trees) → IsDtdValid dtd root h → IsValid (grammar_with kept root) h
  valid_there none is = absurd is.named
  valid_there (text s rest) is = absurd is.named
  valid_there (element n kids rest) is =
      let alone : rest ≡ none = is.is_document.0 in
      let reached : IsReached dtd root n.local = subst (IsReached dtd root) (sym is.named) at_root in
      let ends : AreReached rest = subst AreReached (sym alone) tt in
      let m = are_matched (element n kids rest) is.elements (reached, ends) in (
        is.is_document,
        subst (λ z. Matches (those kept) (element n kids z) (reference kept root)) (sym alone)
            (subst (λ w. Matches (those kept) (element n kids none) (reference kept w)) is.named (matched_reference kept n kids m.0)),
      )

pub law_of_validity : (dtd : List Declaration) (root : List ℕ) (grammar : g.Grammar) → IsGrammarOfDtd dtd root grammar → (h : Trees) → IsValid grammar h ↔ IsDtdValid dtd root h
law_of_validity dtd root grammar is h = (
  (λ k. valid_here dtd root is.kept is.keeps_reached h (subst (λ x. IsValid x h) is.is_grammar k)),
  (λ k. subst (λ x. IsValid x h) (sym is.is_grammar) (valid_there dtd root is.kept is.keeps_reached h k)),
)

-- the grammar is well-formed

module _ (kept : List Declaration) where
  abbrev many : ℕ
  many = length (map (element_pattern kept) kept)

  a_reference : (n : List ℕ) → IsPattern many (reference kept n)
  a_reference n = by (number_of kept n) refl
    where
      by : (k : Option ℕ) → number_of kept n ≡ k → IsPattern many (elim k [ Some k ↦ g.ref k | None ↦ g.not_allowed ])
      by (Some k) i = let r = numbered (element_pattern kept) kept n k i in (omega (arith, r.from_one), r.within)
      by None i = tt

  some_references : (ns : List (List ℕ)) → ArePatterns many (references kept ns)
  some_references [] = tt
  some_references (n ∷ ns) = (a_reference n, some_references ns)

  not_none : (p : Pattern) (ps : Patterns) → g.more p ps ≢ g.no_more
  not_none p ps e = cc

  texts_too : (ns : List (List ℕ)) → IsPattern many (with_texts (references kept ns))
  texts_too ns =
      (not_none (g.one_or_more (g.choice (g.more g.text (references kept ns)))) (g.more g.empty g.no_more), ((not_none g.text (references kept ns), (tt, some_references ns)), (tt, tt)))

  same_end : (ps : Particles) → (ps ≢ d.no_more) → particle_patterns kept ps ≢ g.no_more
  same_end d.no_more n e = n refl
  same_end (d.more p ps) n e = cc

  mutual
    a_particle : (p : Particle) → IsParticle p → IsPattern many (particle_pattern kept p)
    a_particle (d.named n) is = a_reference n
    a_particle (d.sequence ps) is = (same_end ps is.0, some_particles ps is.1)
    a_particle (d.choice ps) is = (same_end ps is.0, some_particles ps is.1)
    a_particle (d.optional p) is = (not_none (particle_pattern kept p) (g.more g.empty g.no_more), (a_particle p is, (tt, tt)))
    a_particle (d.zero_or_more p) is = (not_none (g.one_or_more (particle_pattern kept p)) (g.more g.empty g.no_more), (a_particle p is, (tt, tt)))
    a_particle (d.one_or_more p) is = a_particle p is

    some_particles : (ps : Particles) → AreParticles ps → ArePatterns many (particle_patterns kept ps)
    some_particles d.no_more is = tt
    some_particles (d.more p ps) is = (a_particle p is.0, some_particles ps is.1)

  a_content : (c : Content) → IsContent c → IsPattern many (content_pattern kept c)
  a_content nothing is = tt
  a_content anything is = texts_too (map (λ x. x.name) kept)
  a_content (mixed []) is = tt
  a_content (mixed (n ∷ ns)) is = texts_too (n ∷ ns)
  a_content (children p) is = a_particle p is

  some_elements : (xs : List Declaration) → AllByRecursion (λ x. IsNcName x.name) xs → AllByRecursion (λ x. IsContent x.content) xs
      → AllByRecursion (IsElementPattern many) (map (element_pattern kept) xs)
  some_elements [] a b = tt
  some_elements (x ∷ xs) a b = ((((([], refl, refl), λ e. cc), a.0), a_content x.content b.0), some_elements xs a.1 b.1)

pub law_of_grammar : (dtd : List Declaration) (root : List ℕ) (grammar : g.Grammar) → AreDeclarations dtd → IsGrammarOfDtd dtd root grammar → IsGrammar grammar × IsStart grammar.start
law_of_grammar dtd root grammar are is =
    let kept = is.kept in
    let well : IsGrammar (grammar_with kept root) = (
      a_reference kept root,
      All-from_recursion (IsElementPattern (length (map (element_pattern kept) kept))) (map (element_pattern kept) kept)
          (some_elements kept kept
          (kept_all (λ x. IsNcName x.name) dtd root dtd kept is.keeps_reached are.names) (kept_all (λ x. IsContent x.content) dtd root dtd kept is.keeps_reached are.contents)),
    ) in
    subst (λ (x : g.Grammar). IsGrammar x × IsStart x.start) (sym is.is_grammar) (well, starts kept root)
  where
    starts : (kept : List Declaration) (root : List ℕ) → IsStart (reference kept root)
    starts kept root = by (number_of kept root)
      where
        by : (k : Option ℕ) → IsStart (elim k [ Some k ↦ g.ref k | None ↦ g.not_allowed ])
        by (Some k) = tt
        by None = tt
