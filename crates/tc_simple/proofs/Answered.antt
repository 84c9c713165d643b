-- The first answer that patterns, classes and definitions give, one after the other.
use Rattle.std.proofs.Common.{◌≡◌, ℕ, zero, suc, ◌+◌, ◌<◌, List, [], ◌∷◌, ◌++◌, refl, ap, ◌∙◌, sym, subst, arith, length, get_or, drop, map, Option, None, Some, Bool, append_assoc, take, ◌≤◌, ◌⊎◌, inl, inr, Result, Ok, Err, IfOk}
use Rattle.std.specs.Result.{OnOk, IsErrAnd}
use Rattle.std.specs.List.{flat_map, filter_map}
use Rattle.std.proofs.lemmas.List.Elements.{Contains-append_left, Contains-push, Contains-push_cases, filter_map-append}
use Rattle.std.proofs.lemmas.List.{append-nil, drop_all, drop_more, map-append, take_more}
use Rattle.std.proofs.lemmas.Grind.{flat_map-append}
use Rattle.std.specs.List.{Contains}
use Rattle.tc_model.specs.CompactSyntaxTrees.{SyntaxPattern, Definition}
use Rattle.tc_model.specs.SimplifiesParts.{nodes_in, nodes_in_all}
use Rattle.tc_model.specs.SimplifiesFaults.{first_answer, first_place, misplaced, misplaced_among}
use Rattle.tc_rnc.specs.Views as see
use Rattle.tc_model.specs.Simplifies.{Element, name_class}
use Rattle.tc_model.specs.Views.{place, element_pattern}
use Rattle.tc_model.specs.declared.grammar.Pat.{Pat}
use Rattle.tc_model.specs.declared.grammar.ElemPat.{ElemPat}
use Rattle.tc_base.specs.declared.Place.{Place}
use Rattle.tc_simple.specs.Nodes.{nodes, nodes_of_all, elements_of, marked_elements, see_element, IsLeast, IsLesser}
use Rattle.tc_simple.specs.Becoming.{becomes, made_in}
use Rattle.tc_simple.specs.Totals.{element_patterns_of}
use Rattle.tc_simple.specs.declared.elements.Elem.{Elem}
use Rattle.tc_simple.specs.declared.groups.Table.{Table}
use Rattle.tc_simple.proofs.Gathering.{more_definitions}
use Rattle.tc_rnc.proofs.Views.{left_pattern, left_class}
use Rattle.tc_rnc.specs.declared.syntax.SPat.{SPat}
use Rattle.tc_rnc.specs.declared.syntax.SClass.{SClass}
use Rattle.tc_rnc.specs.declared.syntax.Def.{Def}

pub same_item : {X : Type 0} (xs : List X) (k : ℕ) (d e : X) → k < length xs → get_or xs k d ≡ get_or xs k e
same_item [] k d e h = absurd (omega (arith, h))
same_item (x ∷ xs) zero d e h = refl
same_item (x ∷ xs) (suc k) d e h = same_item xs k d e (omega (arith, h))

answers_append : (f : SyntaxPattern → Option ℕ) (xs ys : List SyntaxPattern) (o : Option ℕ) → first_answer f (xs ++ ys) o ≡ first_answer f xs (first_answer f ys o)
answers_append f [] ys o = refl
answers_append f (x ∷ xs) ys o = ap (λ z. elim (f x) [ Some place ↦ Some place | None ↦ z ]) (answers_append f xs ys o)

abbrev given : Option ℕ → Option ℕ → Option ℕ
given a z = elim a [ Some place ↦ Some place | None ↦ z ]

-- what is answered where nothing is otherwise
pub no_answer : (f : SyntaxPattern → Option ℕ) (xs : List SyntaxPattern) (o : Option ℕ) → first_answer f xs None ≡ None → first_answer f xs o ≡ o
no_answer f [] o e = refl
no_answer f (x ∷ xs) o e = by (f x) e (no_answer f xs o)
  where
    some_none : {p : ℕ} → Some p ≡ None → ⊥
    some_none h = cc

    by : (a : Option ℕ) → given a (first_answer f xs None) ≡ None → (first_answer f xs None ≡ None → first_answer f xs o ≡ o) → given a (first_answer f xs o) ≡ o
    by None e h = h e
    by (Some p) e h = absurd (some_none e)

pub one_answer : (f : SyntaxPattern → Option ℕ) (xs : List SyntaxPattern) (o : Option ℕ) (p : ℕ) → first_answer f xs None ≡ Some p → first_answer f xs o ≡ Some p
one_answer f [] o p e = absurd (none_some e)
  where
    none_some : {p : ℕ} → None ≡ Some p → ⊥
    none_some h = cc
one_answer f (x ∷ xs) o p e = by (f x) e (one_answer f xs o p)
  where
    by : (a : Option ℕ) → given a (first_answer f xs None) ≡ Some p → (first_answer f xs None ≡ Some p → first_answer f xs o ≡ Some p) → given a (first_answer f xs o) ≡ Some p
    by None e h = h e
    by (Some q) e h = e

pub answer_next : (f : SyntaxPattern → Option ℕ) (xs ys : List SyntaxPattern) (o : Option ℕ) → first_answer f xs None ≡ None → first_answer f (xs ++ ys) o ≡ first_answer f ys o
answer_next f xs ys o e = answers_append f xs ys o ∙ no_answer f xs (first_answer f ys o) e

pub answer_here : (f : SyntaxPattern → Option ℕ) (xs ys : List SyntaxPattern) (o : Option ℕ) (p : ℕ) → first_answer f xs None ≡ Some p → first_answer f (xs ++ ys) o ≡ Some p
answer_here f xs ys o p e = answers_append f xs ys o ∙ one_answer f xs (first_answer f ys o) p e

pub definitions_at : (ds : List Def) (i : ℕ) (d : Def) → i < length ds → map see.definition (drop i ds) ≡ see.definition (get_or ds i d) ∷ map see.definition (drop (i + 1) ds)
definitions_at ds i d h = ap (map see.definition) (drop_more ds i (get_or ds i d) h) ∙ ap (λ z. see.definition z ∷ map see.definition (drop (i + 1) ds)) (sym (same_item ds i d (get_or ds i d) h))

pub patterns_next : (f : SyntaxPattern → Option ℕ) (ps : List SPat) (i : ℕ) (x : SPat) → i < length ps → x ≡ get_or ps i x → None ≡ first_answer f (nodes_in (see.pattern x)) None
    → first_answer f (nodes_in_all (see.patterns (drop i ps))) None ≡ first_answer f (nodes_in_all (see.patterns (drop (i + 1) ps))) None
patterns_next f ps i x h is e =
    ap (λ z. first_answer f (nodes_in_all z) None) (left_pattern ps i x h is) ∙ answer_next f (nodes_in (see.pattern x)) (nodes_in_all (see.patterns (drop (i + 1) ps))) None (sym e)

pub patterns_here : (f : SyntaxPattern → Option ℕ) (ps : List SPat) (i : ℕ) (x : SPat) (p : ℕ) → i < length ps → x ≡ get_or ps i x → Some p ≡ first_answer f (nodes_in (see.pattern x)) None
    → first_answer f (nodes_in_all (see.patterns (drop i ps))) None ≡ Some p
patterns_here f ps i x p h is e =
    ap (λ z. first_answer f (nodes_in_all z) None) (left_pattern ps i x h is) ∙ answer_here f (nodes_in (see.pattern x)) (nodes_in_all (see.patterns (drop (i + 1) ps))) None p (sym e)

-- and the same of definitions
pub definitions_next : (f : SyntaxPattern → Option ℕ) (ds : List Def) (i : ℕ) (d : Def) → i < length ds → None ≡ first_answer f (nodes_in (see.pattern (get_or ds i d).body)) None
    → first_answer f (flat_map (λ z. nodes_in z.body) (map see.definition (drop i ds))) None ≡ first_answer f (flat_map (λ z. nodes_in z.body) (map see.definition (drop (i + 1) ds))) None
definitions_next f ds i d h e =
    ap (λ z. first_answer f (flat_map (λ y. nodes_in y.body) z) None) (definitions_at ds i d h)
    ∙ answer_next f (nodes_in (see.pattern (get_or ds i d).body)) (flat_map (λ z. nodes_in z.body) (map see.definition (drop (i + 1) ds))) None (sym e)

pub definitions_here : (f : SyntaxPattern → Option ℕ) (ds : List Def) (i : ℕ) (d : Def) (p : ℕ) → i < length ds → Some p ≡ first_answer f (nodes_in (see.pattern (get_or ds i d).body)) None
    → first_answer f (flat_map (λ z. nodes_in z.body) (map see.definition (drop i ds))) None ≡ Some p
definitions_here f ds i d p h e =
    ap (λ z. first_answer f (flat_map (λ y. nodes_in y.body) z) None) (definitions_at ds i d h)
    ∙ answer_here f (nodes_in (see.pattern (get_or ds i d).body)) (flat_map (λ z. nodes_in z.body) (map see.definition (drop (i + 1) ds))) None p (sym e)

-- and of the places of classes
place_next : (xs ys : List ℕ) → None ≡ first_place xs → first_place (xs ++ ys) ≡ first_place ys
place_next [] ys e = refl
place_next (x ∷ xs) ys e = absurd (none_some e)
  where
    none_some : {p : ℕ} → None ≡ Some p → ⊥
    none_some h = cc

place_here : (xs ys : List ℕ) (p : ℕ) → Some p ≡ first_place xs → first_place (xs ++ ys) ≡ Some p
place_here [] ys p e = absurd (none_some (sym e))
  where
    none_some : {p : ℕ} → None ≡ Some p → ⊥
    none_some h = cc
place_here (x ∷ xs) ys p e = sym e

pub classes_next : (a b : Bool) (cs : List SClass) (i : ℕ) (x : SClass) → i < length cs → x ≡ get_or cs i x → None ≡ first_place (misplaced a b (see.class x))
    → first_place (misplaced_among a b (see.classes (drop i cs))) ≡ first_place (misplaced_among a b (see.classes (drop (i + 1) cs)))
classes_next a b cs i x h is e =
    ap (λ z. first_place (misplaced_among a b z)) (left_class cs i x h is) ∙ place_next (misplaced a b (see.class x)) (misplaced_among a b (see.classes (drop (i + 1) cs))) e

pub classes_here : (a b : Bool) (cs : List SClass) (i : ℕ) (x : SClass) (p : ℕ) → i < length cs → x ≡ get_or cs i x → Some p ≡ first_place (misplaced a b (see.class x))
    → first_place (misplaced_among a b (see.classes (drop i cs))) ≡ Some p
classes_here a b cs i x p h is e =
    ap (λ z. first_place (misplaced_among a b z)) (left_class cs i x h is) ∙ place_here (misplaced a b (see.class x)) (misplaced_among a b (see.classes (drop (i + 1) cs))) p e

-- what is found in a list of patterns, where one more is looked at
pub found_next : {X : Type 0} (f : SyntaxPattern → Option X) (within : Bool) (ps : List SPat) (i : ℕ) (x : SPat) (old new : List X) → i < length ps → x ≡ get_or ps i x
    → new ≡ old ++ filter_map f (nodes within (see.pattern x))
    → new ++ filter_map f (nodes_of_all within (see.patterns (drop (i + 1) ps))) ≡ old ++ filter_map f (nodes_of_all within (see.patterns (drop i ps)))
found_next f within ps i x old new h is e =
    let rest : List SyntaxPattern = nodes_of_all within (see.patterns (drop (i + 1) ps)) in
    ap (λ z. z ++ filter_map f rest) e
    ∙ (append_assoc old (filter_map f (nodes within (see.pattern x))) (filter_map f rest)
    ∙ (ap (λ z. old ++ z) (sym (filter_map-append f (nodes within (see.pattern x)) rest))
    ∙ ap (λ z. old ++ filter_map f (nodes_of_all within z)) (sym (left_pattern ps i x h is))))

pub elements_next : (t : Table) (marks : List Bool) (defs : List Def) (i : ℕ) (d : Def) (old new : List Element) → i < length defs → new ≡ old ++ marked_elements t marks (see.definition (get_or defs i d))
    → old ≡ elements_of t marks (map see.definition (take i defs)) → new ≡ elements_of t marks (map see.definition (take (i + 1) defs))
elements_next t marks defs i d old new small e is =
    let f = marked_elements t marks in
    let one : Definition = see.definition (get_or defs i d) in
    e ∙ (ap (λ z. z ++ f one) is
    ∙ (ap (λ z. elements_of t marks (map see.definition (take i defs)) ++ z) (sym (append-nil (f one)))
    ∙ (sym (flat_map-append f (map see.definition (take i defs)) (one ∷ []))
    ∙ ap (λ z. elements_of t marks z) (sym (more_definitions defs i d small)))))

-- what elements become, where one more does
pub element_patterns_next : (t : Table) (made : List Pat) (numbered : List Element) (es : List Elem) (i : ℕ) (d : Elem) (p : ElemPat) (out new : List ElemPat) → i < length es
    → map element_pattern out ≡ element_patterns_of t made numbered (map see_element (take i es)) → new ≡ out ++ p ∷ [] → element_pattern p ∷ [] ≡ element_patterns_of t made numbered (see_element (get_or es i d) ∷ [])
    → map element_pattern new ≡ element_patterns_of t made numbered (map see_element (take (i + 1) es))
element_patterns_next t made numbered es i d p out new small before e one =
    let f = element_patterns_of t made numbered in
    ap (map element_pattern) e
    ∙ (map-append element_pattern out (p ∷ [])
    ∙ (ap (λ z. z ++ element_pattern p ∷ []) before
    ∙ (ap (λ z. f (map see_element (take i es)) ++ z) one
    ∙ (sym (map-append (λ (x : Element). record { names = name_class x.names; content = becomes (made_in t made) numbered x.content }) (map see_element (take i es)) (see_element (get_or es i d) ∷ []))
    ∙ ap f (sym (ap (map see_element) (take_more es i d small) ∙ map-append see_element (take i es) (get_or es i d ∷ [])))))))

-- the least place where there is one more
pub least_next : (ps : List Place) (i : ℕ) (d : Place) (first : Option ℕ) (p : ℕ) → i < length ps → IsLeast (map place (take i ps)) first → IsLesser first (place (get_or ps i d)) p
    → IsLeast (map place (take (i + 1) ps)) (Some p)
least_next ps i d first p small h k =
    subst (λ z. IsLeast z (Some p)) (sym (ap (map place) (take_more ps i d small) ∙ map-append place (take i ps) (get_or ps i d ∷ []))) (by first h k)
  where
    front : List ℕ
    front = map place (take i ps)

    x : ℕ
    x = place (get_or ps i d)

    by : (first : Option ℕ) → IsLeast front first → IsLesser first x p → IsLeast (front ++ x ∷ []) (Some p)
    by None none is =
        let only : front ++ x ∷ [] ≡ x ∷ [] = ap (λ z. z ++ x ∷ []) none in
        (subst (λ z. Contains z p) (sym only) (0, omega arith, sym is), λ q c. omega (arith, is, alone x q (subst (λ z. Contains z q) only c)))
      where
        alone : (a b : ℕ) → Contains (a ∷ []) b → a ≡ b
        alone a b (zero, l, e) = e
        alone a b (suc k, l, e) = absurd (omega (arith, l))
    by (Some other) (c, least) (inl (is, low)) =
        (subst (Contains (front ++ x ∷ [])) (sym is) (Contains-push front x), λ q m. at q (Contains-push_cases front x q m))
      where
        at : (q : ℕ) → Contains front q ⊎ (x ≡ q) → p ≤ q
        at q (inl m) = omega (arith, is, low, least q m)
        at q (inr e) = omega (arith, is, e)
    by (Some other) (c, least) (inr (is, low)) =
        (subst (Contains (front ++ x ∷ [])) (sym is) (Contains-append_left front (x ∷ []) other c), λ q m. at q (Contains-push_cases front x q m))
      where
        at : (q : ℕ) → Contains front q ⊎ (x ≡ q) → p ≤ q
        at q (inl m) = omega (arith, is, least q m)
        at q (inr e) = omega (arith, is, low, e)

-- an error that is handed on says nothing of what is read
pub failed_ok : {T E : Type 0} (r : Result T E) (P : T → Type 0) (Q : E → Type 0) → IsErrAnd r Q → IfOk r P
failed_ok (Ok v) P Q h = absurd h
failed_ok (Err e) P Q h = tt

pub failed_on : {T E : Type 0} (r : Result T E) (P : Type 0) (Q : E → Type 0) → IsErrAnd r Q → OnOk r P
failed_on (Ok v) P Q h = absurd h
failed_on (Err e) P Q h = tt

-- what is found once all are looked at
pub found_all : {X : Type 0} (f : SyntaxPattern → Option X) (within : Bool) (ps : List SPat) (i : ℕ) (new all : List X) → length ps ≤ i → new ++ filter_map f (nodes_of_all within (see.patterns (drop i ps))) ≡ all → new ≡ all
found_all f within ps i new all past e =
    sym (append-nil new) ∙ (sym (ap (λ (w : List SPat). new ++ filter_map f (nodes_of_all within (see.patterns w))) (drop_all i ps past)) ∙ e)
