-- What elements match the alternatives of a start.
use Rattle.std.proofs.Common.{◌≡◌, ◌⊎◌, inl, inr, ℕ, Bool, true, false, ◌||◌, IsTrue, Some, eq-eqb, refl, subst}
use Rattle.std.proofs.lemmas.Bool.{eqb-true}
use Rattle.tc_model.specs.Names.{ExpandedName}
use Rattle.tc_model.specs.Trees.{Trees, none, element}
use Rattle.tc_model.specs.Grammars as p
use Rattle.tc_model.specs.Grammars.{Grammar, Pattern, Patterns, no_more, more, element_at, InClass}
use Rattle.tc_model.specs.Matching.{Matches, OneOf, m_empty, m_text, m_ref, m_group, m_choice, m_interleave, m_one_or_more, here, there}
use Rattle.tc_model.specs.SimplifiesLaws.{IsStart, AreStarts}
use Rattle.tc_model.specs.States.{IsElementOf, is_alternative, is_one_alternative}

module _ (g : Grammar) (n : ExpandedName) (c : Trees) where
  abbrev Alternative : Pattern → Type 0
  Alternative q = (k : ℕ) × IsTrue (is_alternative k q) × IsElementOf g.elements k n c

  abbrev OneAlternative : Patterns → Type 0
  OneAlternative qs = (k : ℕ) × IsTrue (is_one_alternative k qs) × IsElementOf g.elements k n c

  of_reference : {h : Trees} {q : Pattern} (m : ℕ) → q ≡ p.ref m → h ≡ element n c none → Matches g.elements h q → IsElementOf g.elements m n c
  of_reference m is e (m_choice x) = absurd (cc)
  of_reference m is e (m_group x) = absurd (cc)
  of_reference m is e m_empty = absurd (cc)
  of_reference m is e (m_text x) = absurd (cc)
  of_reference m is e (m_one_or_more x) = absurd (cc)
  of_reference m is e (m_interleave x) = absurd (cc)
  of_reference m is e (m_ref {k} {n = a} {c = d} b at inside content) =
      let number : k ≡ m = cc in
      let name : a ≡ n = cc in
      let kids : d ≡ c = cc in
      (b, subst (λ w. element_at g.elements w ≡ Some b) number at, subst (λ w. InClass b.names w) name inside, subst (λ w. Matches g.elements w b.content) kids content)

  of_choice : {h : Trees} {q : Pattern} (ps : Patterns) → q ≡ p.choice ps → Matches g.elements h q → OneOf g.elements h ps
  of_choice {h} ps is (m_choice {ps = qs} x) = let same : qs ≡ ps = cc in subst (λ w. OneOf g.elements h w) same x
  of_choice ps is (m_group x) = absurd (cc)
  of_choice ps is m_empty = absurd (cc)
  of_choice ps is (m_text x) = absurd (cc)
  of_choice ps is (m_one_or_more x) = absurd (cc)
  of_choice ps is (m_interleave x) = absurd (cc)
  of_choice ps is (m_ref b at inside content) = absurd (cc)

  of_one : {h : Trees} {ps : Patterns} (q : Pattern) (qs : Patterns) → ps ≡ more q qs → OneOf g.elements h ps → Matches g.elements h q ⊎ OneOf g.elements h qs
  of_one {h} q qs is (here {q = r} x) = let same : r ≡ q = cc in inl (subst (λ w. Matches g.elements h w) same x)
  of_one {h} q qs is (there {qs = rs} x) = let same : rs ≡ qs = cc in inr (subst (λ w. OneOf g.elements h w) same x)

  of_none : {h : Trees} {ps : Patterns} → ps ≡ no_more → OneOf g.elements h ps → ⊥
  of_none is (here x) = cc
  of_none is (there x) = cc

  nothing_matches : {h : Trees} {q : Pattern} → q ≡ p.not_allowed → Matches g.elements h q → ⊥
  nothing_matches is (m_choice x) = cc
  nothing_matches is (m_group x) = cc
  nothing_matches is m_empty = cc
  nothing_matches is (m_text x) = cc
  nothing_matches is (m_one_or_more x) = cc
  nothing_matches is (m_interleave x) = cc
  nothing_matches is (m_ref b at inside content) = cc

  or_left : (x y : Bool) → x ≡ true → (x || y) ≡ true
  or_left true y e = refl
  or_left false y e = absurd (cc)

  or_right : (x y : Bool) → y ≡ true → (x || y) ≡ true
  or_right true y e = refl
  or_right false y e = e

  or_cases : (x y : Bool) → (x || y) ≡ true → (x ≡ true) ⊎ (y ≡ true)
  or_cases true y e = inl refl
  or_cases false y e = inr e

  mutual
    pub alternative_of : (q : Pattern) → IsStart q → Matches g.elements (element n c none) q → Alternative q
    alternative_of p.empty start m = absurd start
    alternative_of p.not_allowed start m = absurd (nothing_matches refl m)
    alternative_of p.text start m = absurd start
    alternative_of (p.ref k) start m = (k, eq-eqb k k refl, of_reference k refl refl m)
    alternative_of (p.group ps) start m = absurd start
    alternative_of (p.choice ps) start m = one_alternative_of ps start (of_choice ps refl m)
    alternative_of (p.interleave ps) start m = absurd start
    alternative_of (p.one_or_more q) start m = absurd start

    pub one_alternative_of : (qs : Patterns) → AreStarts qs → OneOf g.elements (element n c none) qs → OneAlternative qs
    one_alternative_of no_more start m = absurd (of_none refl m)
    one_alternative_of (more q qs) start m = elim (of_one q qs refl m) [
      | inl x ↦ let (k, a, e) = alternative_of q start.0 x in (k, or_left (is_alternative k q) (is_one_alternative k qs) a, e)
      | inr x ↦ let (k, a, e) = one_alternative_of qs start.1 x in (k, or_right (is_alternative k q) (is_one_alternative k qs) a, e)
    ]

  mutual
    pub matches_alternative : (q : Pattern) → IsStart q → (k : ℕ) → IsTrue (is_alternative k q) → IsElementOf g.elements k n c → Matches g.elements (element n c none) q
    matches_alternative p.empty start k a e = absurd start
    matches_alternative p.not_allowed start k a e = absurd (cc)
    matches_alternative p.text start k a e = absurd start
    matches_alternative (p.ref m) start k a (b, at, inside, content) = m_ref b (subst (λ w. element_at g.elements w ≡ Some b) (eqb-true k m a) at) inside content
    matches_alternative (p.group ps) start k a e = absurd start
    matches_alternative (p.choice ps) start k a e = m_choice (matches_one_alternative ps start k a e)
    matches_alternative (p.interleave ps) start k a e = absurd start
    matches_alternative (p.one_or_more q) start k a e = absurd start

    pub matches_one_alternative : (qs : Patterns) → AreStarts qs → (k : ℕ) → IsTrue (is_one_alternative k qs) → IsElementOf g.elements k n c → OneOf g.elements (element n c none) qs
    matches_one_alternative no_more start k a e = absurd (cc)
    matches_one_alternative (more q qs) start k a e = elim (or_cases (is_alternative k q) (is_one_alternative k qs) a) [
      | inl x ↦ here (matches_alternative q start.0 k x e)
      | inr x ↦ there (matches_one_alternative qs start.1 k x e)
    ]
