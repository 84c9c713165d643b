-- The names of paths, patterns and tests are lawful where those of the prefixes in scope are.
use Rattle.std.proofs.Common.{◌≡◌, ◌≢◌, ℕ, Bool, true, false, List, [], ◌∷◌, ◌++◌, refl, subst, Some, bytes_eq, if◌then◌else◌}
use Rattle.std.specs.List.{AllByRecursion}
use Rattle.tc_model.specs.Names.{ExpandedName, IsNcName, IsNamespaceName, IsName}
use Rattle.tc_model.specs.RawTrees.{Bound}
use Rattle.tc_model.specs.Sheets.{NodeTest, Steps, no_step, step, Path, no_alternative, Test, Tests, no_test, test}
use Rattle.tc_model.specs.WellFormed.{IsNodeTest, AreSteps, IsPath, IsTest, AreTests, IsMatchPattern}
use Rattle.tc_model.specs.XmlTextScopes.{uri_of}
use Rattle.tc_model.specs.XmlTextLaws.{IsLawfulBound}
use Rattle.tc_model.specs.PathTextTokens.{Token, name, all_of_prefix, mark, number, literal, variable, TokenAt, Tokens}
use Rattle.tc_model.specs.PathTextTokens as t
use Rattle.tc_model.specs.PathTextPhrases as p

-- the local part of a name is an NCName
abbrev pub IsLawful : Token → Type 0
IsLawful (name n) = IsNcName n.local
IsLawful (all_of_prefix q) = Unit {0}
IsLawful (mark m) = Unit {0}
IsLawful number = Unit {0}
IsLawful literal = Unit {0}
IsLawful variable = Unit {0}

abbrev pub AreLawful : List Token → Type 0
AreLawful [] = Unit {0}
AreLawful (u ∷ us) = IsLawful u × AreLawful us

token_lawful : {bs after : List ℕ} {u : Token} → TokenAt bs u after → IsLawful u
token_lawful (t.unprefixed n e) = n.lawful
token_lawful (t.prefixed n m) = m.lawful
token_lawful (t.with_star n) = tt
token_lawful (t.a_mark f m) = tt
token_lawful (t.a_number f) = tt
token_lawful (t.a_literal l) = tt
token_lawful (t.a_variable n) = tt

pub tokens_lawful : {bs : List ℕ} {us : List Token} → Tokens bs us → AreLawful us
tokens_lawful (t.no_more e) = tt
tokens_lawful (t.one_more u us) = (token_lawful u, tokens_lawful us)

pub uri_lawful : (scope : List Bound) (prefix uri : List ℕ) → AllByRecursion IsLawfulBound scope → uri_of scope prefix ≡ Some uri → IsNamespaceName uri
uri_lawful [] prefix uri a e = absurd (cc)
uri_lawful (b ∷ scope) prefix uri a e = by (bytes_eq b.prefix prefix) e (uri_lawful scope prefix uri a.1)
  where
    first_uri : {x y : List ℕ} → Some x ≡ Some y → x ≡ y
    first_uri e = cc

    by : (c : Bool) → (if c then Some b.uri else uri_of scope prefix) ≡ Some uri → (uri_of scope prefix ≡ Some uri → IsNamespaceName uri) → IsNamespaceName uri
    by true f g = subst IsNamespaceName (first_uri f) a.0.uri
    by false f g = g f

pub no_uri : IsNamespaceName []
no_uri = (([], refl, refl), λ e. cc)

conjunction_lawful : (us : Tests) → AreTests us → IsTest (p.conjunction us)
conjunction_lawful no_test a = tt
conjunction_lawful (test u no_test) a = a.0
conjunction_lawful (test u (test v us)) a = a

pub disjunction_lawful : (us : Tests) → AreTests us → IsTest (p.disjunction us)
disjunction_lawful no_test a = tt
disjunction_lawful (test u no_test) a = a.0
disjunction_lawful (test u (test v us)) a = a

-- steps that are dropped, or are some
abbrev IsSome : p.Form → Steps → Type 0
IsSome p.lone ss = ss ≢ no_step
IsSome p.longer ss = ss ≢ no_step
IsSome p.dropped ss = Unit {0}

step_is_some : {deep : Bool} {u : NodeTest} {v : Test} {ss : Steps} → step deep u v ss ≡ no_step → ⊥
step_is_some e = cc

-- alternatives of a pattern
abbrev pub AreAlternatives : List p.Alternative → Type 0
AreAlternatives [] = Unit {0}
AreAlternatives (x ∷ xs) = IsMatchPattern x.pattern × AreAlternatives xs

other_lawful : {ts after : List Token} → p.OtherNodeAt ts after → AreLawful ts → AreLawful after
other_lawful p.a_comment a = a.1.1.1
other_lawful p.an_instruction a = a.1.1.1

some_with : (us : Tests) (deep : Bool) (u : NodeTest) (v : Test) → IsSome (p.form_with us) (step deep u v no_step)
some_with no_test deep u v = λ e. step_is_some e
some_with (test w us) deep u v = λ e. step_is_some e

some_longer : (f : p.Form) (deep : Bool) (u : NodeTest) (v : Test) (ss : Steps) → IsSome (p.lengthened f) (step deep u v ss)
some_longer p.lone deep u v ss = λ e. step_is_some e
some_longer p.longer deep u v ss = λ e. step_is_some e
some_longer p.dropped deep u v ss = tt

before_lawful : (f : p.Form) (ss : Steps) (q : Path) → IsSome f ss → AreSteps ss → IsPath q → IsPath (p.alternative_before f ss q)
before_lawful p.lone ss q s a b = (s, a, b)
before_lawful p.longer ss q s a b = (s, a, b)
before_lawful p.dropped ss q s a b = b

unless_lawful : (f : p.Form) (ss : Steps) (x : _) → IsSome f ss → AreSteps ss → AreAlternatives (p.unless_dropped f ss x)
unless_lawful p.lone ss x k a = ((k, a), tt)
unless_lawful p.longer ss x k a = ((k, a), tt)
unless_lawful p.dropped ss x k a = tt

joined_lawful : (xs ys : List p.Alternative) → AreAlternatives xs → AreAlternatives ys → AreAlternatives (xs ++ ys)
joined_lawful [] ys a b = b
joined_lawful (x ∷ xs) ys a b = (a.0, joined_lawful xs ys a.1 b)

module _ {scope : List Bound} (lawful : AllByRecursion IsLawfulBound scope) where
  means_lawful : {n : _} {m : ExpandedName} → p.NameMeans scope n m → IsNcName n.local → IsName m
  means_lawful p.without_prefix a = (no_uri, a)
  means_lawful (p.with_prefix {b = b} {bs = bs} {uri = uri} e) a = (uri_lawful scope (b ∷ bs) uri lawful e, a)

  node_test_lawful : {ts after : List Token} {u : NodeTest} → p.NodeTestAt scope ts u after → AreLawful ts → IsNodeTest u × AreLawful after
  node_test_lawful (p.a_name m e) a = (means_lawful m a.0, a.1)
  node_test_lawful (p.a_namespace {prefix = prefix} {uri = uri} e) a = (uri_lawful scope prefix uri lawful e, a.1)
  node_test_lawful p.a_star a = (tt, a.1)
  node_test_lawful p.a_text a = (tt, a.1.1.1)
  node_test_lawful p.a_node a = (tt, a.1.1.1)

  child_lawful : {ts after : List Token} {u : NodeTest} → p.ChildAt scope ts u after → AreLawful ts → IsNodeTest u × AreLawful after
  child_lawful (p.abbreviated u) a = node_test_lawful u a
  child_lawful (p.spelled u) a = node_test_lawful u a.1.1

  attribute_test_lawful : {ts after : List Token} → p.AttributeTestAt scope ts after → AreLawful ts → AreLawful after
  attribute_test_lawful (p.a_name m) a = a.1
  attribute_test_lawful (p.a_namespace e) a = a.1
  attribute_test_lawful p.a_star a = a.1

  attribute_lawful : {ts after : List Token} → p.AttributeAt scope ts after → AreLawful ts → AreLawful after
  attribute_lawful (p.abbreviated u) a = attribute_test_lawful u a.1
  attribute_lawful (p.spelled u) a = attribute_test_lawful u a.1.1

  mutual
    steps_lawful : {deep : Bool} {ts after : List Token} {ss : Steps} {f : p.Form} → p.StepsAt scope deep ts ss f after → AreLawful ts → AreSteps ss × IsSome f ss × AreLawful after
    steps_lawful (p.attribute_step u) a = (tt, tt, attribute_lawful u a)
    steps_lawful (p.last_step {us = us} u v l k) a =
        let (x, r) = child_lawful u a in
        let (y, s) = predicates_lawful v r in
        ((x, conjunction_lawful us y, tt), some_with us _ _ _, s)
    steps_lawful (p.child_step {us = us} {form = f} u v w) a =
        let (x, r) = child_lawful u a in
        let (y, s) = predicates_lawful v r in
        let (z, k, o) = steps_lawful w s.1 in
        ((x, conjunction_lawful us y, z), some_longer f _ _ _ _, o)
    steps_lawful (p.descendant_step {us = us} {form = f} u v w) a =
        let (x, r) = child_lawful u a in
        let (y, s) = predicates_lawful v r in
        let (z, k, o) = steps_lawful w s.1 in
        ((x, conjunction_lawful us y, z), some_longer f _ _ _ _, o)

    predicates_lawful : {ts after : List Token} {us : Tests} → p.PredicatesAt scope ts us after → AreLawful ts → AreTests us × AreLawful after
    predicates_lawful (p.no_predicate l) a = (tt, a)
    predicates_lawful (p.predicate {us = us} u v) a =
        let (x, r) = or_lawful u a.1 in
        let (y, s) = predicates_lawful v r.1 in
        ((disjunction_lawful us x, y), s)

    alternative_lawful : {ts after : List Token} {ss : Steps} {f : p.Form} → p.AlternativeAt scope ts ss f after → AreLawful ts → AreSteps ss × IsSome f ss × AreLawful after
    alternative_lawful (p.from_children u) a = steps_lawful u a
    alternative_lawful (p.from_descendants u) a = steps_lawful u a.1.1
    alternative_lawful (p.other_node o) a = (tt, tt, other_lawful o a)

    pub select_lawful : {ts after : List Token} {q : Path} {drops : Bool} → p.SelectAt scope ts q drops after → AreLawful ts → IsPath q × AreLawful after
    select_lawful (p.last_alternative {ss = ss} {form = f} u l) a =
        let (x, k, r) = alternative_lawful u a in (before_lawful f ss no_alternative k x tt, r)
    select_lawful (p.one_alternative {ss = ss} {form = f} {p = q} u v) a =
        let (x, k, r) = alternative_lawful u a in
        let (y, s) = select_lawful v r.1 in
        (before_lawful f ss q k x y, s)

    primary_lawful : {ts after : List Token} {u : Test} → p.PrimaryAt scope ts u after → AreLawful ts → IsTest u × AreLawful after
    primary_lawful (p.a_path s) a = select_lawful s a
    primary_lawful (p.a_negation {us = us} u) a =
        let (x, r) = or_lawful u a.1.1 in (disjunction_lawful us x, r.1)
    primary_lawful p.a_truth a = (tt, a.1.1.1)
    primary_lawful p.a_falsehood a = (tt, a.1.1.1)
    primary_lawful (p.in_parentheses {us = us} u) a =
        let (x, r) = or_lawful u a.1 in (disjunction_lawful us x, r.1)

    and_lawful : {ts after : List Token} {us : Tests} → p.AndAt scope ts us after → AreLawful ts → AreTests us × AreLawful after
    and_lawful (p.last_primary u l) a = let (x, r) = primary_lawful u a in ((x, tt), r)
    and_lawful (p.one_primary u v) a =
        let (x, r) = primary_lawful u a in
        let (y, s) = and_lawful v r.1 in
        ((x, y), s)

    pub or_lawful : {ts after : List Token} {us : Tests} → p.OrAt scope ts us after → AreLawful ts → AreTests us × AreLawful after
    or_lawful (p.last_conjunction {us = us} u l) a = let (x, r) = and_lawful u a in ((conjunction_lawful us x, tt), r)
    or_lawful (p.one_conjunction {us = us} u v) a =
        let (x, r) = and_lawful u a in
        let (y, s) = or_lawful v r.1 in
        ((conjunction_lawful us x, y), s)

  one_lawful : {ts after : List Token} {xs : List p.Alternative} → p.PatternAlternativeAt scope ts xs after → AreLawful ts → AreAlternatives xs × AreLawful after
  one_lawful (p.root_alone e) a = ((tt, tt), a.1)
  one_lawful (p.relative {ss = ss} {form = f} u) a = let (x, k, r) = steps_lawful u a in (unless_lawful f ss _ k x, r)
  one_lawful (p.from_root {ss = ss} {form = f} u) a = let (x, k, r) = steps_lawful u a.1 in (unless_lawful f ss _ k x, r)
  one_lawful (p.below_root {ss = ss} {form = f} u) a = let (x, k, r) = steps_lawful u a.1 in (unless_lawful f ss _ k x, r)
  one_lawful (p.other_node o) a = (tt, other_lawful o a)

  pub pattern_lawful : {ts : List Token} {xs : List p.Alternative} → p.PatternAt scope ts xs → AreLawful ts → AreAlternatives xs
  pattern_lawful (p.last_alternative u) a = (one_lawful u a).0
  pattern_lawful (p.one_alternative {alternatives = xs} {others = ys} u v) a =
      let (x, r) = one_lawful u a in joined_lawful xs ys x (pattern_lawful v r.1)
