-- The grammar of a text is well-formed.
use Rattle.std.proofs.Common.{◌≡◌, ◌≢◌, inl, inr, ℕ, zero, suc, ◌+◌, ◌≤◌, Bool, true, false, cond, ◌==◌, List, [], ◌∷◌, refl, ap, ◌∙◌, sym, subst, arith, Some, bytes_eq, length}
use Rattle.std.specs.List.{All, AllByRecursion, list_any}
use Rattle.std.proofs.lemmas.Bool.{eq-eqb, true≢false}
use Rattle.tc_model.specs.Grammars as g
use Rattle.tc_model.specs.Grammars.{NameClass, NameClasses, Pattern, Patterns, ElementPattern, Grammar, IsNameClass, AreNameClasses, IsPattern, ArePatterns, IsElementPattern, IsGrammar}
use Rattle.tc_model.specs.CompactSyntaxTrees.{SyntaxClass, of_name, of_namespace, any_name, one_of, SyntaxClasses, no_class, class, SyntaxPattern, empty, not_allowed, text, attribute, ref, element, mixed, optional, zero_or_more, one_or_more, group, choice, interleave, SyntaxPatterns, no_more, more, Definition, Syntax}
use Rattle.tc_model.specs.CompactSyntaxLawful.{IsLawfulClass, AreLawfulClasses, IsLawfulPattern, AreLawfulPatterns, IsLawfulSyntax}
use Rattle.tc_model.specs.SimplifiesParts.{definitions_of, is_choice, bodies_of, joined_definitions, pattern_of, IsAmong, IsOpenPart, Reached, at_start, part, reference, content}
use Rattle.tc_model.specs.Simplifies.{Element, name_class, name_classes, number_at, both, Becomes, an_empty, a_not_allowed, a_text, an_attribute, a_reference, an_element, a_mixed, an_optional, a_zero_or_more, a_one_or_more, a_group, a_choice, an_interleave, AllBecome, none_left, one_more, ElementsBecome, no_element, next}
use Rattle.tc_model.specs.SimplifiesLaws.{HasLawfulSyntax, HasLawfulGrammar}
use Rattle.tc_model.proofs.CompactSyntaxClassesUnique.{same_some, some_none}
use Rattle.tc_model.proofs.CompactSyntaxLawful.{spells_lawful}
use Rattle.tc_model.proofs.SimplifiesUnique.{Has, here, there, has_from_index}

abbrev AllDefined : ℕ → List Definition → Type 0
AllDefined most ds = AllByRecursion (λ d. (d.place ≤ most) × IsLawfulPattern most d.body) ds

-- an empty list of classes stays one, and no other becomes one
some_classes : (cs : SyntaxClasses) → (cs ≡ no_class → ⊥) → name_classes cs ≡ g.no_class → ⊥
some_classes no_class h e = h refl
some_classes (class c cs) h e = cc

mutual
  class_lawful : (most : ℕ) (c : SyntaxClass) → IsLawfulClass most c → IsNameClass (name_class c)
  class_lawful most (of_name n) h = h
  class_lawful most (of_namespace place uri x) (k, a, b) = (a, classes_lawful most x b)
  class_lawful most (any_name place x) (k, h) = classes_lawful most x h
  class_lawful most (one_of cs) (a, b) = (some_classes cs a, classes_lawful most cs b)

  classes_lawful : (most : ℕ) (cs : SyntaxClasses) → AreLawfulClasses most cs → AreNameClasses (name_classes cs)
  classes_lawful most no_class h = tt
  classes_lawful most (class c cs) (a, b) = (class_lawful most c a, classes_lawful most cs b)

chosen_lawful : (most : ℕ) (n : List ℕ) (ds : List Definition) → AllDefined most ds → AllDefined most (definitions_of ds n)
chosen_lawful most n [] h = tt
chosen_lawful most n (d ∷ ds) (a, h) = by (bytes_eq d.name n) (chosen_lawful most n ds h)
  where
    by : (x : Bool) → AllDefined most (definitions_of ds n) → AllDefined most (cond x (d ∷ definitions_of ds n) (definitions_of ds n))
    by true k = (a, k)
    by false k = k

bodies_lawful : (most : ℕ) (ds : List Definition) → AllDefined most ds → AreLawfulPatterns most (bodies_of ds)
bodies_lawful most [] h = tt
bodies_lawful most (d ∷ ds) (a, h) = (a.1, bodies_lawful most ds h)

no_empty : {q : SyntaxPattern} {qs : SyntaxPatterns} → more q qs ≡ no_more → ⊥
no_empty e = cc

joined_lawful : (most : ℕ) (ds : List Definition) (q : SyntaxPattern) → AllDefined most ds → joined_definitions ds ≡ Some q → IsLawfulPattern most q
joined_lawful most [] q h e = absurd (some_none e refl)
joined_lawful most (d ∷ []) q (a, h) e = subst (IsLawfulPattern most) (same_some refl e) a.1
joined_lawful most (d ∷ f ∷ ds) q h e = by (list_any (λ z. is_choice z.joins) (d ∷ f ∷ ds)) e
  where
    bodies : AreLawfulPatterns most (bodies_of (d ∷ f ∷ ds))
    bodies = bodies_lawful most (d ∷ f ∷ ds) h

    by : (x : Bool) → Some (cond x (choice (bodies_of (d ∷ f ∷ ds))) (interleave (bodies_of (d ∷ f ∷ ds)))) ≡ Some q → IsLawfulPattern most q
    by true e = let lawful : IsLawfulPattern most (choice (bodies_of (d ∷ f ∷ ds))) = (λ z. no_empty z, bodies) in subst (IsLawfulPattern most) (same_some refl e) lawful
    by false e = let lawful : IsLawfulPattern most (interleave (bodies_of (d ∷ f ∷ ds))) = (λ z. no_empty z, bodies) in subst (IsLawfulPattern most) (same_some refl e) lawful

pattern_lawful : (s : Syntax) (n : List ℕ) (q : SyntaxPattern) → IsLawfulSyntax s → pattern_of s n ≡ Some q → IsLawfulPattern s.end q
pattern_lawful s n q h e = joined_lawful s.end (definitions_of s.definitions n) q (chosen_lawful s.end n s.definitions h.definitions) e

among_lawful : (most : ℕ) (qs : SyntaxPatterns) (q : SyntaxPattern) → AreLawfulPatterns most qs → IsAmong qs q → IsLawfulPattern most q
among_lawful most no_more q h m = absurd m
among_lawful most (more p ps) q (a, h) (inl e) = subst (IsLawfulPattern most) (sym e) a
among_lawful most (more p ps) q (a, h) (inr m) = among_lawful most ps q h m

part_lawful : (most : ℕ) (p q : SyntaxPattern) → IsLawfulPattern most p → IsOpenPart p q → IsLawfulPattern most q
part_lawful most empty q h m = absurd m
part_lawful most not_allowed q h m = absurd m
part_lawful most text q h m = absurd m
part_lawful most attribute q h m = absurd m
part_lawful most (ref n k) q h m = absurd m
part_lawful most (element k c p) q h m = absurd m
part_lawful most (mixed p) q h m = subst (IsLawfulPattern most) (sym m) h
part_lawful most (optional p) q h m = subst (IsLawfulPattern most) (sym m) h
part_lawful most (zero_or_more p) q h m = subst (IsLawfulPattern most) (sym m) h
part_lawful most (one_or_more p) q h m = subst (IsLawfulPattern most) (sym m) h
part_lawful most (group ps) q h m = among_lawful most ps q h.1 m
part_lawful most (choice ps) q h m = among_lawful most ps q h.1 m
part_lawful most (interleave ps) q h m = among_lawful most ps q h.1 m

reached_lawful : {s : Syntax} {q : SyntaxPattern} → IsLawfulSyntax s → Reached s q → IsLawfulPattern s.end q
reached_lawful {s} {q} h (at_start e) = pattern_lawful s [] q h e
reached_lawful {s} {q} h (part {p = p} r m) = part_lawful s.end p q (reached_lawful h r) m
reached_lawful {s} {q} h (reference {n = n} r e) = pattern_lawful s n q h e
reached_lawful h (content r) = (reached_lawful h r).2

number_bounds : (es : List Element) (e : Element) → Has es e → (1 ≤ number_at es e.place) × (number_at es e.place ≤ length es)
number_bounds es e m = by es e.place m refl
  where
    at : (f : Element) (es : List Element) (place : ℕ) (x : Bool) → (x ≡ false → (1 ≤ number_at es place) × (number_at es place ≤ length es))
        → (1 ≤ cond x 1 (number_at es place + 1)) × (cond x 1 (number_at es place + 1) ≤ length (f ∷ es))
    at f es place true h = (omega arith, omega arith)
    at f es place false h = let both = h refl in (omega (arith, both), omega (arith, both))

    by : {e : Element} (es : List Element) (place : ℕ) → Has es e → e.place ≡ place → (1 ≤ number_at es place) × (number_at es place ≤ length es)
    by [] place m is = elim m [ ]
    by (f ∷ es) place here is = at f es place (f.place == place) (λ k. absurd (true≢false (sym (eq-eqb f.place place is) ∙ k)))
    by (f ∷ es) place (there m) is = at f es place (f.place == place) (λ k. by es place m is)

no_patterns : {p : Pattern} {ps : Patterns} → g.more p ps ≡ g.no_more → ⊥
no_patterns e = cc

both_lawful : (count : ℕ) (p q : Pattern) → IsPattern count p → IsPattern count q → (both p q ≢ g.no_more) × ArePatterns count (both p q)
both_lawful count p q h k = (λ z. no_patterns z, (h, (k, tt)))

-- what is reached becomes a pattern whose references are in range
module _ (s : Syntax) (lawful : IsLawfulSyntax s) (es : List Element)
    (all : (place : ℕ) (c : SyntaxClass) (p : SyntaxPattern) → Reached s (element place c p) → Has es (record { place = place; names = c; content = p })) where
  mutual
    becomes_lawful : {q : SyntaxPattern} {p : Pattern} → Reached s q → Becomes s es q p → IsPattern (length es) p
    becomes_lawful r an_empty = tt
    becomes_lawful r a_not_allowed = tt
    becomes_lawful r a_text = tt
    becomes_lawful r an_attribute = tt
    becomes_lawful r (a_reference e a) = becomes_lawful (reference r e) a
    becomes_lawful r (an_element {place = k} {c = c} {q = q}) = number_bounds es (record { place = k; names = c; content = q }) (all k c q r)
    becomes_lawful r (a_mixed {p = p} a) = both_lawful (length es) g.text p tt (becomes_lawful (part r refl) a)
    becomes_lawful r (an_optional {p = p} a) = both_lawful (length es) p g.empty (becomes_lawful (part r refl) a) tt
    becomes_lawful r (a_zero_or_more {p = p} a) = both_lawful (length es) (g.one_or_more p) g.empty (becomes_lawful (part r refl) a) tt
    becomes_lawful r (a_one_or_more a) = becomes_lawful (part r refl) a
    becomes_lawful r (a_group a) = (some_patterns (reached_lawful lawful r).0 a, all_lawful (λ q m. part r m) a)
    becomes_lawful r (a_choice a) = (some_patterns (reached_lawful lawful r).0 a, all_lawful (λ q m. part r m) a)
    becomes_lawful r (an_interleave a) = (some_patterns (reached_lawful lawful r).0 a, all_lawful (λ q m. part r m) a)

    all_lawful : {qs : SyntaxPatterns} {ps : Patterns} → ((q : SyntaxPattern) → IsAmong qs q → Reached s q) → AllBecome s es qs ps → ArePatterns (length es) ps
    all_lawful at none_left = tt
    all_lawful at (one_more {q = q} a m) = (becomes_lawful (at q (inl refl)) a, all_lawful (λ z k. at z (inr k)) m)

    some_patterns : {qs : SyntaxPatterns} {ps : Patterns} → (qs ≡ no_more → ⊥) → AllBecome s es qs ps → ps ≡ g.no_more → ⊥
    some_patterns h none_left e = h refl
    some_patterns h (one_more a m) e = cc

  elements_lawful : (fs : List Element) (ps : List ElementPattern) → AllByRecursion (λ e. Reached s (element e.place e.names e.content)) fs → ElementsBecome s es fs ps
      → AllByRecursion (IsElementPattern (length es)) ps
  elements_lawful [] ps r no_element = tt
  elements_lawful (f ∷ fs) ps (r, rs) (next {ps = qs} a m) =
      ((class_lawful s.end f.names (reached_lawful lawful r).1, becomes_lawful (content r) a), elements_lawful fs qs rs m)

same_length : {s : Syntax} {es fs : List Element} {ps : List ElementPattern} → ElementsBecome s es fs ps → length ps ≡ length fs
same_length no_element = refl
same_length (next a m) = ap (λ n. suc n) (same_length m)

all_from_recursion : {X : Type 0} (P : X → Type 0) (xs : List X) → AllByRecursion P xs → All P xs
all_from_recursion P [] h k d small = absurd (omega (arith, small))
all_from_recursion P (x ∷ xs) (a, h) zero d small = a
all_from_recursion P (x ∷ xs) (a, h) (suc k) d small = all_from_recursion P xs h k d (omega (arith, small))

pub lawful_syntax : HasLawfulSyntax
lawful_syntax bytes s a = (spells_lawful a, a.end)

pub lawful_grammar : HasLawfulGrammar
lawful_grammar bytes h (s, spells, simplifies) =
    let a = simplifies.is_grammar in
    let lawful = spells_lawful spells in
    let has : (place : ℕ) (c : SyntaxClass) (p : SyntaxPattern) → Reached s (element place c p) → Has a.numbered (record { place = place; names = c; content = p }) =
    λ place c p r. has_from_index a.numbered (record { place = place; names = c; content = p }) (a.all place c p r) in
    let count = sym (same_length a.elements_become) in
    let start = becomes_lawful s lawful a.numbered has (at_start a.is_start) a.start_becomes in
    let elements = elements_lawful s lawful a.numbered has a.numbered h.elements a.reached a.elements_become in
    subst (λ n. IsPattern n h.start × All (IsElementPattern n) h.elements) count (start, all_from_recursion (IsElementPattern (length a.numbered)) h.elements elements)
