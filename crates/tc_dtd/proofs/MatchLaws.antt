-- What the patterns of contents match: their elements by their names, where each element is as its element pattern has it.
use Rattle.std.proofs.Common.{◌≡◌, ◌⊎◌, inl, inr, ℕ, List, [], ◌∷◌, ◌++◌, refl, ap, ◌∙◌, sym, subst, Option, Some, None, map, bytes_eq}
use Rattle.std.specs.List.{Contains}
use Rattle.std.proofs.lemmas.Bool.{and_parts, and_from}
use Rattle.tc_model.specs.Names.{ExpandedName}
use Rattle.tc_model.specs.Trees.{Trees, none, text, element, beside}
use Rattle.tc_model.specs.Grammars as g
use Rattle.tc_model.specs.Grammars.{Pattern, Patterns, ElementPattern}
use Rattle.tc_model.specs.Matching.{AreTexts, Matches, m_choice, m_group, m_empty, m_text, m_one_or_more, m_ref, InOrder, order_end, order_more, OneOf, here, there, Repeated, once, again}
use Rattle.tc_dtd.specs.Declarations as d
use Rattle.tc_dtd.specs.Declarations.{Particle, Particles, Content, nothing, anything, mixed, children, Declaration, declared}
use Rattle.tc_dtd.specs.DtdValidity as v
use Rattle.tc_dtd.specs.DtdValidity.{Allows, a_name, a_sequence, a_choice, an_option, no_option, some, at_least_one, AllowsAll, all_end, all_more, AllowsOne, AllowsRepeated, no_part, one_part, AreElements, AreAmong, AllowsChildren}
use Rattle.tc_dtd.specs.DtdGrammar.{number_of, reference, references, with_texts, particle_pattern, particle_patterns, content_pattern, element_pattern}
use Rattle.tc_dtd.proofs.NamedLaws.{in_cons, in_first, in_rest, in_none, same_bytes, bytes_same, Numbered, numbered, has_number, element_numbered, declared_name}

module _ (kept : List Declaration) where
  abbrev pub those : List ElementPattern
  those = map (element_pattern kept) kept

  -- an element is as the element pattern of its name has it
  abbrev pub IsMatched : ExpandedName → Trees → Type 0
  IsMatched n kids = (n.uri ≡ []) × ((c : Content) × (declared kept n.local ≡ Some c) × Matches those kids (content_pattern kept c))

  abbrev pub AreMatched : Trees → Type 0
  AreMatched none = Unit {0}
  AreMatched (text s rest) = AreMatched rest
  AreMatched (element n kids rest) = IsMatched n kids × AreMatched rest

  -- what a reference matches
  pub record IsNamed (n : List ℕ) (h : Trees) : Type 0 where
    pub name : ExpandedName
    pub kids : Trees
    pub alone : h ≡ element name kids none
    pub named : name.local ≡ n
    pub matched : IsMatched name kids

  nothing_allowed : (h : Trees) → Matches those h g.not_allowed → ⊥
  nothing_allowed h m = elim m [ ]

  pub reference_matched : (n : List ℕ) (h : Trees) → Matches those h (reference kept n) → IsNamed n h
  reference_matched n h m = by (number_of kept n) refl m
    where
      of_pattern : (k : ℕ) (l : ExpandedName) (kids : Trees) (e : ElementPattern) → (r : Numbered (element_pattern kept) kept n k) → g.element_at those k ≡ Some e → g.InClass e.names l → Matches those kids e.content
          → IsNamed n (element l kids none)
      of_pattern k l kids e r at named m =
          let is : e ≡ element_pattern kept r.x = let two : Some e ≡ Some (element_pattern kept r.x) = sym at ∙ element_numbered r in cc in
          let both = and_parts (bytes_eq [] l.uri) (bytes_eq r.x.name l.local) (subst (λ (z : ElementPattern). g.InClass z.names l) is named) in
          let same = same_bytes r.x.name l.local both.1 in
          record {
            name = l;
            kids = kids;
            alone = refl;
            named = sym same ∙ r.named;
            matched = (
              sym (same_bytes [] l.uri both.0),
              (r.x.content, ap (declared kept) (sym same ∙ r.named) ∙ r.is_declared, subst (λ (z : ElementPattern). Matches those kids z.content) is m),
            );
          }

      a_ref : (k : ℕ) (h : Trees) → number_of kept n ≡ Some k → Matches those h (g.ref k) → IsNamed n h
      a_ref k h i (m_ref {n = l} {c = kids} e at named m) = of_pattern k l kids e (numbered (element_pattern kept) kept n k i) at named m

      by : (k : Option ℕ) → number_of kept n ≡ k → Matches those h (elim k [ Some k ↦ g.ref k | None ↦ g.not_allowed ]) → IsNamed n h
      by (Some k) i m = a_ref k h i m
      by None i m = absurd (nothing_allowed h m)

  pub matched_reference : (n : ExpandedName) (kids : Trees) → IsMatched n kids → Matches those (element n kids none) (reference kept n.local)
  matched_reference n kids (u, (c, e, m)) =
      let (k, i) = has_number kept n.local c e in
      let r = numbered (element_pattern kept) kept n.local k i in
      let is : c ≡ r.x.content = let two : Some c ≡ Some r.x.content = sym e ∙ r.is_declared in cc in
      let named : g.InClass (element_pattern kept r.x).names n =
      and_from (bytes_eq [] n.uri) (bytes_eq r.x.name n.local) (bytes_same [] n.uri (sym u)) (bytes_same r.x.name n.local r.named) in
      subst (λ (o : Option ℕ). Matches those (element n kids none) (elim o [ Some k ↦ g.ref k | None ↦ g.not_allowed ])) (sym i)
      (m_ref (element_pattern kept r.x) (element_numbered r) named (subst (λ z. Matches those kids (content_pattern kept z)) is m))

  -- what stands beside one another

  pub elements_beside : (h k : Trees) (ls ms : List (List ℕ)) → AreElements h ls → AreElements k ms → AreElements (beside h k) (ls ++ ms)
  elements_beside none k ls ms e f = subst (λ ns. AreElements k (ns ++ ms)) (sym e) f
  elements_beside (text s rest) k ls ms e f = absurd e
  elements_beside (element n kids rest) k ls ms (ns, e, a) f = (ns ++ ms, ap (λ w. w ++ ms) e, elements_beside rest k ns ms a f)

  pub matched_beside : (h k : Trees) → AreMatched h → AreMatched k → AreMatched (beside h k)
  matched_beside none k a b = b
  matched_beside (text s rest) k a b = matched_beside rest k a b
  matched_beside (element n kids rest) k a b = (a.0, matched_beside rest k a.1 b)

  pub no_elements : (h : Trees) → AreElements h [] → h ≡ none
  no_elements none e = refl
  no_elements (text s rest) e = absurd e
  no_elements (element n kids rest) (ms, e, a) = absurd (cc)

  pub beside_none : (h : Trees) → beside h none ≡ h
  beside_none none = refl
  beside_none (text s rest) = ap (text s) (beside_none rest)
  beside_none (element n kids rest) = ap (element n kids) (beside_none rest)

  -- trees of so many elements
  pub record Split (h : Trees) (ls ms : List (List ℕ)) : Type 0 where
    pub left : Trees
    pub right : Trees
    pub parts : h ≡ beside left right
    pub left_elements : AreElements left ls
    pub right_elements : AreElements right ms
    pub left_matched : AreMatched left
    pub right_matched : AreMatched right

  pub split : (ls ms : List (List ℕ)) (h : Trees) → AreElements h (ls ++ ms) → AreMatched h → Split h ls ms
  split [] ms h a m = record { left = none; right = h; parts = refl; left_elements = refl; right_elements = a; left_matched = tt; right_matched = m }
  split (l ∷ ls) ms none e m = absurd (cc)
  split (l ∷ ls) ms (text s rest) a m = absurd a
  split (l ∷ ls) ms (element n kids rest) (ns, e, a) m =
      let first : l ≡ n.local = cc in
      let others : ls ++ ms ≡ ns = cc in
      let r = split ls ms rest (subst (AreElements rest) (sym others) a) m.1 in
      record {
        left = element n kids r.left;
        right = r.right;
        parts = ap (element n kids) r.parts;
        left_elements = (ls, ap (λ w. w ∷ ls) first, r.left_elements);
        right_elements = r.right_elements;
        left_matched = (m.0, r.left_matched);
        right_matched = r.right_matched;
      }

  -- particles, from patterns to names

  abbrev pub Spelled : (List (List ℕ) → Type 0) → Trees → Type 0
  Spelled P h = (ns : List (List ℕ)) × AreElements h ns × P ns × AreMatched h

  two_parts : (P Q R : List (List ℕ) → Type 0) (h k l : Trees) → ((ls ms ns : List (List ℕ)) → ns ≡ ls ++ ms → P ls → Q ms → R ns) → l ≡ beside h k → Spelled P h → Spelled Q k → Spelled R l
  two_parts P Q R h k l f e (ls, a, p, m) (ms, b, q, n) =
      subst (Spelled R) (sym e) (ls ++ ms, elements_beside h k ls ms a b, f ls ms (ls ++ ms) refl p q, matched_beside h k m n)

  mapped : (P Q : List (List ℕ) → Type 0) (h : Trees) → ((ns : List (List ℕ)) → P ns → Q ns) → Spelled P h → Spelled Q h
  mapped P Q h f (ns, a, p, m) = (ns, a, f ns p, m)

  nil_right : (ls : List (List ℕ)) → ls ≡ ls ++ []
  nil_right [] = refl
  nil_right (l ∷ ls) = ap (λ w. l ∷ w) (nil_right ls)

  one_more : (p : Particle) (ms : List (List ℕ)) → Allows (d.one_or_more p) ms → AllowsRepeated p ms
  one_more p ms (at_least_one e a r) = one_part e a r

  repeats : (q : Pattern) (p : Particle) → ((h : Trees) → Matches those h q → Spelled (Allows p) h) → (h : Trees) → Repeated those h q → Spelled (Allows (d.one_or_more p)) h
  repeats q p f h (once m) = mapped (Allows p) (Allows (d.one_or_more p)) h (λ ns a. at_least_one (nil_right ns) a no_part) (f h m)
  repeats q p f h (again {h = left} {k = right} e m r) =
      two_parts (Allows p) (Allows (d.one_or_more p)) (Allows (d.one_or_more p)) left right h (λ ls ms ns i a b. at_least_one i a (one_more p ms b)) e (f left m) (repeats q p f right r)

  mutual
    pub spelled : (p : Particle) (h : Trees) → Matches those h (particle_pattern kept p) → Spelled (Allows p) h
    spelled (d.named n) h m =
        let r = reference_matched n h m in
        subst (Spelled (Allows (d.named n))) (sym r.alone) (n ∷ [], ([], ap (λ w. w ∷ []) (sym r.named), refl), a_name, (r.matched, tt))
    spelled (d.sequence ps) h (m_group o) = mapped (AllowsAll ps) (Allows (d.sequence ps)) h (λ ns a. a_sequence a) (spelled_all ps h o)
    spelled (d.choice ps) h (m_choice o) = mapped (AllowsOne ps) (Allows (d.choice ps)) h (λ ns a. a_choice a) (spelled_one ps h o)
    spelled (d.optional p) h (m_choice (here m)) = mapped (Allows p) (Allows (d.optional p)) h (λ ns a. an_option a) (spelled p h m)
    spelled (d.optional p) h (m_choice (there (here m_empty))) = ([], refl, no_option, tt)
    spelled (d.optional p) h (m_choice (there (there o))) = elim o [ ]
    spelled (d.zero_or_more p) h (m_choice (here (m_one_or_more r))) =
        mapped (Allows (d.one_or_more p)) (Allows (d.zero_or_more p)) h (λ ns a. some (one_more p ns a)) (repeats (particle_pattern kept p) p (spelled p) h r)
    spelled (d.zero_or_more p) h (m_choice (there (here m_empty))) = ([], refl, some no_part, tt)
    spelled (d.zero_or_more p) h (m_choice (there (there o))) = elim o [ ]
    spelled (d.one_or_more p) h (m_one_or_more r) = repeats (particle_pattern kept p) p (spelled p) h r

    spelled_all : (ps : Particles) (h : Trees) → InOrder those h (particle_patterns kept ps) → Spelled (AllowsAll ps) h
    spelled_all d.no_more h order_end = ([], refl, all_end, tt)
    spelled_all (d.more p ps) h (order_more {h = left} {k = right} e m o) =
        two_parts (Allows p) (AllowsAll ps) (AllowsAll (d.more p ps)) left right h (λ ls ms ns i a b. all_more i a b) e (spelled p left m) (spelled_all ps right o)

    spelled_one : (ps : Particles) (h : Trees) → OneOf those h (particle_patterns kept ps) → Spelled (AllowsOne ps) h
    spelled_one d.no_more h o = elim o [ ]
    spelled_one (d.more p ps) h (here m) = mapped (Allows p) (AllowsOne (d.more p ps)) h (λ ns a. v.here a) (spelled p h m)
    spelled_one (d.more p ps) h (there o) = mapped (AllowsOne ps) (AllowsOne (d.more p ps)) h (λ ns a. v.there a) (spelled_one ps h o)

  -- and back

  abbrev Some_parts : Particle → Trees → Type 0
  Some_parts p h = (h ≡ none) ⊎ Repeated those h (particle_pattern kept p)

  joined : (p : Particle) (h left right : Trees) → h ≡ beside left right → Matches those left (particle_pattern kept p) → Some_parts p right → Repeated those h (particle_pattern kept p)
  joined p h left right e m (inl i) =
      once (subst (λ z. Matches those z (particle_pattern kept p)) (sym (e ∙ (ap (beside left) i ∙ beside_none left))) m)
  joined p h left right e m (inr r) = again e m r

  mutual
    pub matched : (p : Particle) (ns : List (List ℕ)) (h : Trees) → Allows p ns → AreElements h ns → AreMatched h → Matches those h (particle_pattern kept p)
    matched p ns none (a_name {n = n}) e m = absurd (cc)
    matched p ns (text s rest) (a_name {n = n}) e m = absurd e
    matched p ns (element l kids rest) (a_name {n = n}) (ms, e, a) m =
        let named : n ≡ l.local = cc in
        let ends : ms ≡ [] = cc in
        let alone : rest ≡ none = no_elements rest (subst (AreElements rest) ends a) in
        subst (λ z. Matches those (element l kids z) (reference kept n)) (sym alone)
        (subst (λ w. Matches those (element l kids none) (reference kept w)) (sym named) (matched_reference l kids m.0))
    matched p ns h (a_sequence a) e m = m_group (matched_all _ ns h a e m)
    matched p ns h (a_choice a) e m = m_choice (matched_one _ ns h a e m)
    matched p ns h (an_option {p = q} a) e m = m_choice (here (matched q ns h a e m))
    matched p ns h (no_option {p = q}) e m =
        subst (λ z. Matches those z (particle_pattern kept (d.optional q))) (sym (no_elements h e)) (m_choice (there (here m_empty)))
    matched p ns h (some {p = q} r) e m = by (matched_some q ns h r e m)
      where
        by : Some_parts q h → Matches those h (particle_pattern kept (d.zero_or_more q))
        by (inl i) = subst (λ z. Matches those z (particle_pattern kept (d.zero_or_more q))) (sym i) (m_choice (there (here m_empty)))
        by (inr r) = m_choice (here (m_one_or_more r))
    matched p ns h (at_least_one {p = q} {ls = ls} {ms = ms} i a r) e m =
        let s = split ls ms h (subst (AreElements h) i e) m in
        m_one_or_more (joined q h s.left s.right s.parts (matched q ls s.left a s.left_elements s.left_matched) (matched_some q ms s.right r s.right_elements s.right_matched))

    matched_all : (ps : Particles) (ns : List (List ℕ)) (h : Trees) → AllowsAll ps ns → AreElements h ns → AreMatched h → InOrder those h (particle_patterns kept ps)
    matched_all ps ns h all_end e m = subst (λ z. InOrder those z g.no_more) (sym (no_elements h e)) order_end
    matched_all ps ns h (all_more {p = q} {ps = qs} {ls = ls} {ms = ms} i a b) e m =
        let s = split ls ms h (subst (AreElements h) i e) m in
        order_more s.parts (matched q ls s.left a s.left_elements s.left_matched) (matched_all qs ms s.right b s.right_elements s.right_matched)

    matched_one : (ps : Particles) (ns : List (List ℕ)) (h : Trees) → AllowsOne ps ns → AreElements h ns → AreMatched h → OneOf those h (particle_patterns kept ps)
    matched_one ps ns h (v.here {p = q} a) e m = here (matched q ns h a e m)
    matched_one ps ns h (v.there {ps = qs} a) e m = there (matched_one qs ns h a e m)

    matched_some : (p : Particle) (ns : List (List ℕ)) (h : Trees) → AllowsRepeated p ns → AreElements h ns → AreMatched h → Some_parts p h
    matched_some p ns h no_part e m = inl (no_elements h e)
    matched_some p ns h (one_part {ls = ls} {ms = ms} i a r) e m =
        let s = split ls ms h (subst (AreElements h) i e) m in
        inr (joined p h s.left s.right s.parts (matched p ls s.left a s.left_elements s.left_matched) (matched_some p ms s.right r s.right_elements s.right_matched))

  -- texts and elements

  one_of_matched : (ns : List (List ℕ)) (h : Trees) → OneOf those h (references kept ns) → AreAmong ns h × AreMatched h
  one_of_matched ns h o = by ns o (λ n i. i)
    where
      by : (ms : List (List ℕ)) → OneOf those h (references kept ms) → ((n : List ℕ) → Contains ms n → Contains ns n) → AreAmong ns h × AreMatched h
      by [] o f = elim o [ ]
      by (n ∷ ms) (here m) f =
          let r = reference_matched n h m in
          subst (λ z. AreAmong ns z × AreMatched z) (sym r.alone) ((subst (Contains ns) (sym r.named) (f n (in_first n ms)), tt), (r.matched, tt))
      by (n ∷ ms) (there o) f = by ms o (λ l i. f l (in_rest n ms l i))

  texts_matched : (ns : List (List ℕ)) (h : Trees) → AreTexts h → AreAmong ns h × AreMatched h
  texts_matched ns none t = (tt, tt)
  texts_matched ns (text s rest) t = texts_matched ns rest t
  texts_matched ns (element n kids rest) t = absurd t

  among_beside : (ns : List (List ℕ)) (h k : Trees) → AreAmong ns h → AreAmong ns k → AreAmong ns (beside h k)
  among_beside ns none k a b = b
  among_beside ns (text s rest) k a b = among_beside ns rest k a b
  among_beside ns (element n kids rest) k a b = (a.0, among_beside ns rest k a.1 b)

  each_matched : (ns : List (List ℕ)) (h : Trees) → Matches those h (g.choice (g.more g.text (references kept ns))) → AreAmong ns h × AreMatched h
  each_matched ns h (m_choice (here (m_text t))) = texts_matched ns h t
  each_matched ns h (m_choice (there o)) = one_of_matched ns h o

  all_matched : (ns : List (List ℕ)) (q : Pattern) (h : Trees) → ((h : Trees) → Matches those h q → AreAmong ns h × AreMatched h) → Repeated those h q → AreAmong ns h × AreMatched h
  all_matched ns q h f (once m) = f h m
  all_matched ns q h f (again {h = left} {k = right} e m r) =
      let a = f left m in
      let b = all_matched ns q right f r in
      subst (λ z. AreAmong ns z × AreMatched z) (sym e) (among_beside ns left right a.0 b.0, matched_beside left right a.1 b.1)

  with_texts_matched : (ns : List (List ℕ)) (h : Trees) → Matches those h (with_texts (references kept ns)) → AreAmong ns h × AreMatched h
  with_texts_matched ns h (m_choice (here (m_one_or_more r))) = all_matched ns (g.choice (g.more g.text (references kept ns))) h (each_matched ns) r
  with_texts_matched ns h (m_choice (there (here m_empty))) = (tt, tt)
  with_texts_matched ns h (m_choice (there (there o))) = elim o [ ]

  one_reference : (ns : List (List ℕ)) (n : ExpandedName) (kids : Trees) → Contains ns n.local → IsMatched n kids → OneOf those (element n kids none) (references kept ns)
  one_reference [] n kids i m = absurd (in_none n.local i)
  one_reference (l ∷ ls) n kids i m = by (λ k. one_reference ls n kids k m) (in_cons l ls n.local i)
    where
      by : (Contains ls n.local → OneOf those (element n kids none) (references kept ls)) → (l ≡ n.local) ⊎ Contains ls n.local → OneOf those (element n kids none) (references kept (l ∷ ls))
      by rec (inl e) = here (subst (λ w. Matches those (element n kids none) (reference kept w)) (sym e) (matched_reference n kids m))
      by rec (inr k) = there (rec k)

  abbrev Any_parts : List (List ℕ) → Trees → Type 0
  Any_parts ns h = (h ≡ none) ⊎ Repeated those h (g.choice (g.more g.text (references kept ns)))

  before_parts : (ns : List (List ℕ)) (h left right : Trees) → h ≡ beside left right → Matches those left (g.choice (g.more g.text (references kept ns))) → Any_parts ns right
      → Repeated those h (g.choice (g.more g.text (references kept ns)))
  before_parts ns h left right e m (inl i) =
      once (subst (λ z. Matches those z (g.choice (g.more g.text (references kept ns)))) (sym (e ∙ (ap (beside left) i ∙ beside_none left))) m)
  before_parts ns h left right e m (inr r) = again e m r

  parts_of : (ns : List (List ℕ)) (h : Trees) → AreAmong ns h → AreMatched h → Any_parts ns h
  parts_of ns none a m = inl refl
  parts_of ns (text s rest) a m = inr (before_parts ns (text s rest) (text s none) rest refl (m_choice (here (m_text tt))) (parts_of ns rest a m))
  parts_of ns (element n kids rest) a m =
      inr (before_parts ns (element n kids rest) (element n kids none) rest refl (m_choice (there (one_reference ns n kids a.0 m.0))) (parts_of ns rest a.1 m.1))

  matched_with_texts : (ns : List (List ℕ)) (h : Trees) → AreAmong ns h → AreMatched h → Matches those h (with_texts (references kept ns))
  matched_with_texts ns h a m = by (parts_of ns h a m)
    where
      by : Any_parts ns h → Matches those h (with_texts (references kept ns))
      by (inl i) = subst (λ z. Matches those z (with_texts (references kept ns))) (sym i) (m_choice (there (here m_empty)))
      by (inr r) = m_choice (here (m_one_or_more r))

  among_none : (h : Trees) → AreAmong [] h → AreTexts h
  among_none none a = tt
  among_none (text s rest) a = among_none rest a
  among_none (element n kids rest) a = absurd (in_none n.local a.0)

  matched_names : (h : Trees) → AreMatched h → AreAmong (map (λ x. x.name) kept) h
  matched_names none m = tt
  matched_names (text s rest) m = matched_names rest m
  matched_names (element n kids rest) ((u, (c, e, m)), ms) = (declared_name kept n.local c e, matched_names rest ms)

  -- contents

  pub content_matched : (c : Content) (h : Trees) → Matches those h (content_pattern kept c) → AllowsChildren c h × AreMatched h
  content_matched nothing h m_empty = (refl, tt)
  content_matched anything h m = (tt, (with_texts_matched (map (λ x. x.name) kept) h m).1)
  content_matched (mixed []) h (m_text t) = texts_matched [] h t
  content_matched (mixed (n ∷ ns)) h m = with_texts_matched (n ∷ ns) h m
  content_matched (children p) h m = let (ns, e, a, k) = spelled p h m in ((ns, e, a), k)

  pub matched_content : (c : Content) (h : Trees) → AllowsChildren c h → AreMatched h → Matches those h (content_pattern kept c)
  matched_content nothing h e m = subst (λ z. Matches those z g.empty) (sym e) m_empty
  matched_content anything h e m = matched_with_texts (map (λ x. x.name) kept) h (matched_names h m) m
  matched_content (mixed []) h a m = m_text (among_none h a)
  matched_content (mixed (n ∷ ns)) h a m = matched_with_texts (n ∷ ns) h a m
  matched_content (children p) h (ns, e, a) m = matched p ns h a e m
