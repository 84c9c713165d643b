-- A syntax tree has one grammar, whose start is made of choices, references and `notAllowed`.
use Rattle.std.proofs.Common.{◌≡◌, ◌⊎◌, inl, inr, ℕ, zero, suc, ◌<◌, Bool, true, false, List, [], ◌∷◌, refl, ap, ◌∙◌, sym, subst, arith, Some, length, slice_index_or}
use Rattle.std.specs.List.{AllByRecursion, Contains}
use Rattle.std.proofs.lemmas.Bool.{false≢true}
use Rattle.tc_model.specs.Grammars as g
use Rattle.tc_model.specs.Grammars.{Pattern, Patterns, ElementPattern, Grammar}
use Rattle.tc_model.specs.CompactSyntaxTrees.{SyntaxPattern, empty, text, attribute, element, mixed, optional, zero_or_more, one_or_more, group, interleave, SyntaxPatterns, Definition, Syntax}
use Rattle.tc_model.specs.SimplifiesParts.{definitions_of, joined_definitions, IsAmong, Below, part, reference, further, Reached}
use Rattle.tc_model.specs.SimplifiesFaults.{may_start, first_definition}
use Rattle.tc_model.specs.Simplifies.{Element, name_class, both, Becomes, an_empty, a_not_allowed, a_text, an_attribute, a_reference, an_element, a_mixed, an_optional, a_zero_or_more, a_one_or_more, a_group, a_choice, an_interleave, AllBecome, none_left, one_more, ElementsBecome, no_element, next, AreAscending, IsGrammarOf, Simplifies}
use Rattle.tc_model.specs.RncText.{RncMeans, RncText}
use Rattle.tc_model.specs.SimplifiesLaws.{IsStart, AreStarts, HasOneSyntax, HasOneGrammar, HasOneRncText, HasLawfulStart}
use Rattle.tc_model.proofs.CompactSyntaxClassesUnique.{same_some, some_none}
use Rattle.tc_model.proofs.CompactSyntaxUnique.{spells_unique}

-- an element of a list
pub data Has {X : Type 0} : List X → X → Type 0 where
  here : {x : X} {xs : List X} → Has (x ∷ xs) x
  there : {x y : X} {xs : List X} → Has xs x → Has (y ∷ xs) x

pub has_from_index : {X : Type 0} (xs : List X) (x : X) → Contains xs x → Has xs x
has_from_index {X} xs x c = let (k, small, e) = c in by xs k small e
  where
    by : (ys : List X) (k : ℕ) → k < length ys → slice_index_or ys k x ≡ x → Has ys x
    by [] k small e = absurd (omega (arith, small))
    by (y ∷ ys) zero small e = subst (λ z. Has (y ∷ ys) z) e here
    by (y ∷ ys) (suc k) small e = there (by ys k (omega (arith, small)) e)

pub all_at : {X : Type 0} (P : X → Type 0) {xs : List X} {x : X} → AllByRecursion P xs → Has xs x → P x
all_at P h here = h.0
all_at P h (there m) = all_at P h.1 m

later : (e : Element) {f : Element} {es : List Element} → AllByRecursion (λ z. e.place < z.place) es → Has es f → e.place < f.place
later e h m = all_at (λ z. e.place < z.place) h m

none_has : {X : Type 0} {x : X} → Has [] x → ⊥
none_has h = by refl h
  where
    by : {X : Type 0} {x : X} {xs : List X} → xs ≡ [] → Has xs x → ⊥
    by e here = cc
    by e (there m) = cc

split : {X : Type 0} {x y : X} {xs : List X} → Has (y ∷ xs) x → (x ≡ y) ⊎ Has xs x
split here = inl refl
split (there m) = inr m

-- two ascending lists of the same elements are equal
same_lists : (xs ys : List Element) → AreAscending xs → AreAscending ys → ((e : Element) → Has xs e → Has ys e) → ((e : Element) → Has ys e → Has xs e) → xs ≡ ys
same_lists [] [] a b f h = refl
same_lists [] (y ∷ ys) a b f h = absurd (none_has (h y here))
same_lists (x ∷ xs) [] a b f h = absurd (none_has (f x here))
same_lists (x ∷ xs) (y ∷ ys) a b f h =
    ap (λ z. z ∷ xs) first ∙ ap (λ z. y ∷ z) (same_lists xs ys a.1 b.1 forth back)
  where
    heads : (x ≡ y) ⊎ Has ys x → (y ≡ x) ⊎ Has xs y → x ≡ y
    heads (inl e) m = e
    heads (inr k) (inl e) = sym e
    heads (inr k) (inr m) = absurd (omega (arith, later y b.0 k, later x a.0 m))

    first : x ≡ y
    first = heads (split (f x here)) (split (h y here))

    places : x.place ≡ y.place
    places = ap (λ z. z.place) first

    forth : (e : Element) → Has xs e → Has ys e
    forth e m = by (split (f e (there m)))
      where
        by : (e ≡ y) ⊎ Has ys e → Has ys e
        by (inl is) = absurd (omega (arith, later x a.0 m, ap (λ z. z.place) is, places))
        by (inr k) = k

    back : (e : Element) → Has ys e → Has xs e
    back e m = by (split (h e (there m)))
      where
        by : (e ≡ x) ⊎ Has xs e → Has xs e
        by (inl is) = absurd (omega (arith, later y b.0 m, ap (λ z. z.place) is, places))
        by (inr k) = k

mutual
  becomes_unique : {s : Syntax} {es : List Element} {q : SyntaxPattern} {p r : Pattern} → Becomes s es q p → Becomes s es q r → p ≡ r
  becomes_unique an_empty an_empty = refl
  becomes_unique a_not_allowed a_not_allowed = refl
  becomes_unique a_text a_text = refl
  becomes_unique an_attribute an_attribute = refl
  becomes_unique {s} {es} {r = r} (a_reference e a) (a_reference f b) = becomes_unique a (subst (λ z. Becomes s es z r) (same_some f e) b)
  becomes_unique an_element an_element = refl
  becomes_unique (a_mixed a) (a_mixed b) = ap (λ z. g.interleave (both g.text z)) (becomes_unique a b)
  becomes_unique (an_optional a) (an_optional b) = ap (λ z. g.choice (both z g.empty)) (becomes_unique a b)
  becomes_unique (a_zero_or_more a) (a_zero_or_more b) = ap (λ z. g.choice (both (g.one_or_more z) g.empty)) (becomes_unique a b)
  becomes_unique (a_one_or_more a) (a_one_or_more b) = ap g.one_or_more (becomes_unique a b)
  becomes_unique (a_group a) (a_group b) = ap g.group (all_become_unique a b)
  becomes_unique (a_choice a) (a_choice b) = ap g.choice (all_become_unique a b)
  becomes_unique (an_interleave a) (an_interleave b) = ap g.interleave (all_become_unique a b)

  all_become_unique : {s : Syntax} {es : List Element} {qs : SyntaxPatterns} {ps rs : Patterns} → AllBecome s es qs ps → AllBecome s es qs rs → ps ≡ rs
  all_become_unique none_left none_left = refl
  all_become_unique (one_more {ps = ps} a m) (one_more {p = r} b n) = ap (λ z. g.more z ps) (becomes_unique a b) ∙ ap (g.more r) (all_become_unique m n)

elements_unique : {s : Syntax} {ns es : List Element} {ps rs : List ElementPattern} → ElementsBecome s ns es ps → ElementsBecome s ns es rs → ps ≡ rs
elements_unique no_element no_element = refl
elements_unique (next {e = e} {ps = ps} a m) (next {p = r} b n) =
    let one : Pattern → ElementPattern = λ z. record { names = name_class e.names; content = z } in
    ap (λ z. one z ∷ ps) (becomes_unique a b) ∙ ap (λ z. one r ∷ z) (elements_unique m n)

reached_within : {s : Syntax} {h k : Grammar} (a : IsGrammarOf s h) (b : IsGrammarOf s k) (e : Element) → Has a.numbered e → Has b.numbered e
reached_within {s} a b e m = has_from_index b.numbered e (b.all e.place e.names e.content (all_at (λ z. Reached s (element z.place z.names z.content)) a.reached m))

-- also where it has a fault
pub grammars_unique : {s : Syntax} {h k : Grammar} → IsGrammarOf s h → IsGrammarOf s k → h ≡ k
grammars_unique {s} {h} {k} a b =
    let same = same_lists a.numbered b.numbered a.ascending b.ascending (reached_within a b) (reached_within b a) in
    let start = same_some a.is_start b.is_start in
    let starts = becomes_unique a.start_becomes (subst (λ z. Becomes s z a.start k.start) (sym same) (subst (λ z. Becomes s b.numbered z k.start) (sym start) b.start_becomes)) in
    let elements = elements_unique a.elements_become (subst (λ z. ElementsBecome s z z k.elements) (sym same) b.elements_become) in
    let full : Pattern → List ElementPattern → Grammar = λ z w. record { start = z; elements = w } in
    ap (λ z. full z h.elements) starts ∙ ap (full k.start) elements

pub simplifies_unique : {s : Syntax} {h k : Grammar} → Simplifies s h → Simplifies s k → h ≡ k
simplifies_unique a b = grammars_unique a.is_grammar b.is_grammar

pub one_syntax : HasOneSyntax
one_syntax bytes s t a b = spells_unique a b

pub one_grammar : HasOneGrammar
one_grammar s h k a b = grammars_unique a b

-- a text means one grammar at most, which is the one that it spells
pub one_rnc_meaning : HasOneRncText
one_rnc_meaning bytes h k (s, spells, is) (t, spells', is') = grammars_unique is (subst (λ z. IsGrammarOf z k) (sym (spells_unique spells spells')) is')

pub rnc_means : {bytes : List ℕ} {h : Grammar} → RncText bytes h → RncMeans bytes h
rnc_means (s, spells, a) = (s, spells, a.is_grammar)

pub one_rnc_text : (bytes : List ℕ) (h k : Grammar) → RncText bytes h → RncText bytes k → h ≡ k
one_rnc_text bytes h k a b = one_rnc_meaning bytes h k (rnc_means a) (rnc_means b)

-- where all that stands below `start` may, so does what it becomes
module _ (s : Syntax) (start : SyntaxPattern) (ok : (q : SyntaxPattern) → (q ≡ start) ⊎ Below s start q → may_start q ≡ true) where
  below : {q r : SyntaxPattern} → (q ≡ start) ⊎ Below s start q → Below s q r → (r ≡ start) ⊎ Below s start r
  below {r = r} (inl e) b = inr (subst (λ z. Below s z r) e b)
  below (inr a) b = inr (further a b)

  mutual
    starts : {es : List Element} {q : SyntaxPattern} {p : Pattern} → (q ≡ start) ⊎ Below s start q → Becomes s es q p → IsStart p
    starts at an_empty = absurd (false≢true (ok empty at))
    starts at a_not_allowed = tt
    starts at a_text = absurd (false≢true (ok text at))
    starts at an_attribute = absurd (false≢true (ok attribute at))
    starts at (a_reference e a) = starts (below at (reference e)) a
    starts at an_element = tt
    starts at (a_mixed {q = q} a) = absurd (false≢true (ok (mixed q) at))
    starts at (an_optional {q = q} a) = absurd (false≢true (ok (optional q) at))
    starts at (a_zero_or_more {q = q} a) = absurd (false≢true (ok (zero_or_more q) at))
    starts at (a_one_or_more {q = q} a) = absurd (false≢true (ok (one_or_more q) at))
    starts at (a_group {qs = qs} a) = absurd (false≢true (ok (group qs) at))
    starts at (a_choice {qs = qs} a) = all_start (λ q m. below at (part m)) a
    starts at (an_interleave {qs = qs} a) = absurd (false≢true (ok (interleave qs) at))

    all_start : {es : List Element} {qs : SyntaxPatterns} {ps : Patterns} → ((q : SyntaxPattern) → IsAmong qs q → (q ≡ start) ⊎ Below s start q) → AllBecome s es qs ps → AreStarts ps
    all_start at none_left = tt
    all_start at (one_more {q = q} a m) = (starts (at q (inl refl)) a, all_start (λ r k. at r (inr k)) m)

first_exists : (ds : List Definition) {p : SyntaxPattern} → joined_definitions ds ≡ Some p → (place : ℕ) × (first_definition ds ≡ Some place)
first_exists [] e = absurd (some_none e refl)
first_exists (d ∷ ds) e = (d.place, refl)

pub lawful_start : HasLawfulStart
lawful_start s h a =
    let (place, first) = first_exists (definitions_of s.definitions []) b.is_start in
    starts s b.start (may place first) (inl refl) b.start_becomes
  where
    b : IsGrammarOf s h
    b = a.is_grammar

    may : (place : ℕ) → first_definition (definitions_of s.definitions []) ≡ Some place → (q : SyntaxPattern) → (q ≡ b.start) ⊎ Below s b.start q → may_start q ≡ true
    may place first q at = by (may_start q) refl
      where
        by : (x : Bool) → may_start q ≡ x → may_start q ≡ true
        by true e = e
        by false e = absurd (a.faultless.start place (record { start = b.start; other = q; is_start = b.is_start; below = at; bad = e; first = first }))
