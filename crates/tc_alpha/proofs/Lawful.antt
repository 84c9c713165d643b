-- What well-formed schemas and stylesheets mention is lawful.
use Rattle.std.proofs.Common.{◌≡◌, ℕ, List, [], ◌∷◌, ◌++◌, length, ap, inl, inr, flat_map}
use Rattle.tc_model.specs.Names.{ExpandedName, IsName, IsNamespaceName}
use Rattle.tc_model.specs.Grammars as g
use Rattle.tc_model.specs.Grammars.{NameClass, NameClasses, no_class, class, Grammar, ElementPattern, IsNameClass, AreNameClasses, IsElementPattern, IsGrammar}
use Rattle.tc_model.specs.Sheets as s
use Rattle.tc_model.specs.WellFormed.{IsNodeTest, AreSteps, IsPath, IsTest, AreTests, IsMatchPattern, IsBody, AreBranches, IsRule, IsSheet}
use Rattle.tc_model.specs.Symbols.{Mention, a_name, a_namespace, mention_cmp, mentions_of_name, mentions_in_class, mentions_in_classes, mentions_in_grammar, mentions_of_test, in_steps, in_path, in_test, in_tests, in_pattern, in_body, in_branches, mentions_in_sheet, with_namespace, mentions_in, in_order, symbols_of, AreSymbols}
use Rattle.tc_alpha.proofs.Orders.{total, same}
use Rattle.tc_alpha.proofs.Members.{Has, Every, every_member, every_append, every_from_all, has_from_in_order, in_order_has, in_order_rises, has_from_contains, contains_from_has}

abbrev pub IsLawful : Mention → Type 0
IsLawful (a_name n) = IsName n
IsLawful (a_namespace uri) = IsNamespaceName uri

abbrev AreLawful : List Mention → Type 0
AreLawful xs = Every IsLawful xs

join : (xs ys : List Mention) → AreLawful xs → AreLawful ys → AreLawful (xs ++ ys)
join = every_append IsLawful

mutual
  lawful_class : (c : NameClass) → IsNameClass c → AreLawful (mentions_in_class c)
  lawful_class (g.of_name n) h = (h, tt)
  lawful_class (g.of_namespace u except) h = (h.0, lawful_classes except h.1)
  lawful_class (g.any_name except) h = lawful_classes except h
  lawful_class (g.one_of classes) h = lawful_classes classes h.1

  lawful_classes : (cs : NameClasses) → AreNameClasses cs → AreLawful (mentions_in_classes cs)
  lawful_classes no_class h = tt
  lawful_classes (class c cs) h = join (mentions_in_class c) (mentions_in_classes cs) (lawful_class c h.0) (lawful_classes cs h.1)

lawful_elements : (count : ℕ) (es : List ElementPattern) → Every (IsElementPattern count) es → AreLawful (flat_map (λ e. mentions_in_class e.names) es)
lawful_elements count [] h = tt
lawful_elements count (e ∷ es) h = join (mentions_in_class e.names) (flat_map (λ x. mentions_in_class x.names) es) (lawful_class e.names h.0.0) (lawful_elements count es h.1)

lawful_grammar : (x : Grammar) → IsGrammar x → AreLawful (mentions_in_grammar x)
lawful_grammar x h = lawful_elements (length x.elements) x.elements (every_from_all (IsElementPattern (length x.elements)) x.elements h.1)

lawful_node_test : (t : s.NodeTest) → IsNodeTest t → AreLawful (mentions_of_test t)
lawful_node_test (s.of_name n) h = (h, tt)
lawful_node_test (s.of_namespace u) h = (h, tt)
lawful_node_test s.any_element h = tt
lawful_node_test s.any_text h = tt
lawful_node_test s.any_node h = tt

abbrev steps_in : s.Steps → List Mention
steps_in = in_steps mentions_of_test mentions_of_name

abbrev path_in : s.Path → List Mention
path_in = in_path mentions_of_test mentions_of_name

abbrev test_in : s.Test → List Mention
test_in = in_test mentions_of_test mentions_of_name

abbrev tests_in : s.Tests → List Mention
tests_in = in_tests mentions_of_test mentions_of_name

abbrev pattern_in : s.MatchPattern → List Mention
pattern_in = in_pattern mentions_of_test mentions_of_name

abbrev body_in : s.Body → List Mention
body_in = in_body mentions_of_test mentions_of_name

abbrev branches_in : s.Branches → List Mention
branches_in = in_branches mentions_of_test mentions_of_name

mutual
  lawful_steps : (ss : s.Steps) → AreSteps ss → AreLawful (steps_in ss)
  lawful_steps s.no_step h = tt
  lawful_steps (s.step deep t when ss) h =
      join (mentions_of_test t) (test_in when ++ steps_in ss) (lawful_node_test t h.0) (join (test_in when) (steps_in ss) (lawful_test when h.1) (lawful_steps ss h.2))

  lawful_path : (p : s.Path) → IsPath p → AreLawful (path_in p)
  lawful_path s.no_alternative h = tt
  lawful_path (s.alternative ss p) h = join (steps_in ss) (path_in p) (lawful_steps ss h.1) (lawful_path p h.2)

  lawful_test : (t : s.Test) → IsTest t → AreLawful (test_in t)
  lawful_test s.always h = tt
  lawful_test s.never h = tt
  lawful_test (s.has p) h = lawful_path p h
  lawful_test (s.negated t) h = lawful_test t h
  lawful_test (s.all_of ts) h = lawful_tests ts h
  lawful_test (s.any_of ts) h = lawful_tests ts h

  lawful_tests : (ts : s.Tests) → AreTests ts → AreLawful (tests_in ts)
  lawful_tests s.no_test h = tt
  lawful_tests (s.test t ts) h = join (test_in t) (tests_in ts) (lawful_test t h.0) (lawful_tests ts h.1)

lawful_pattern : (p : s.MatchPattern) → IsMatchPattern p → AreLawful (pattern_in p)
lawful_pattern s.root_pattern h = tt
lawful_pattern (s.steps_pattern ss) h = lawful_steps ss h.1

module _ (sheet : s.Sheet) where
  mutual
    lawful_body : (b : s.Body) → IsBody sheet b → AreLawful (body_in b)
    lawful_body s.no_instruction h = tt
    lawful_body (s.put_text x b) h = lawful_body b h.1
    lawful_body (s.put_element n i b) h = (h.0, join (body_in i) (body_in b) (lawful_body i h.1) (lawful_body b h.2))
    lawful_body (s.copy i b) h = join (body_in i) (body_in b) (lawful_body i h.0) (lawful_body b h.1)
    lawful_body (s.apply p k b) h = join (path_in p) (body_in b) (lawful_path p h.0) (lawful_body b h.2)
    lawful_body (s.call k b) h = lawful_body b h.1
    lawful_body (s.value p b) h = join (path_in p) (body_in b) (lawful_path p h.0) (lawful_body b h.1)
    lawful_body (s.value_of_self b) h = lawful_body b h
    lawful_body (s.choose x b) h = join (branches_in x) (body_in b) (lawful_branches x h.0) (lawful_body b h.1)
    lawful_body (s.for_each k p i b) h =
        join (path_in p) (body_in i ++ body_in b) (lawful_path p h.1) (join (body_in i) (body_in b) (lawful_body i h.2) (lawful_body b h.3))

    lawful_branches : (x : s.Branches) → AreBranches sheet x → AreLawful (branches_in x)
    lawful_branches (s.otherwise b) h = lawful_body b h
    lawful_branches (s.branch t b x) h =
        join (test_in t) (body_in b ++ branches_in x) (lawful_test t h.0) (join (body_in b) (branches_in x) (lawful_body b h.1) (lawful_branches x h.2))

  lawful_rules : (rs : List s.Rule) → Every (IsRule sheet) rs → AreLawful (flat_map (λ r. pattern_in r.pattern ++ body_in r.body) rs)
  lawful_rules [] h = tt
  lawful_rules (r ∷ rs) h =
      join (pattern_in r.pattern ++ body_in r.body) (flat_map (λ x. pattern_in x.pattern ++ body_in x.body) rs)
      (join (pattern_in r.pattern) (body_in r.body) (lawful_pattern r.pattern (IsRule.pattern h.0)) (lawful_body r.body (IsRule.body h.0))) (lawful_rules rs h.1)

  lawful_named : (bs : List s.Body) → Every (IsBody sheet) bs → AreLawful (flat_map (λ b. body_in b) bs)
  lawful_named [] h = tt
  lawful_named (b ∷ bs) h = join (body_in b) (flat_map (λ x. body_in x) bs) (lawful_body b h.0) (lawful_named bs h.1)

lawful_sheet : (x : s.Sheet) → IsSheet x → AreLawful (mentions_in_sheet x)
lawful_sheet x h =
    join (flat_map (λ r. pattern_in r.pattern ++ body_in r.body) x.rules) (flat_map (λ b. body_in b) x.named)
    (lawful_rules x x.rules (every_from_all (IsRule x) x.rules (IsSheet.rules h)))
    (lawful_named x x.named (every_from_all (IsBody x) x.named (IsSheet.named h)))

with_namespaces : (ms : List Mention) → AreLawful ms → AreLawful (flat_map with_namespace ms)
with_namespaces [] h = tt
with_namespaces (a_name n ∷ ms) h = (h.0, (h.0.0, with_namespaces ms h.1))
with_namespaces (a_namespace u ∷ ms) h = (h.0, with_namespaces ms h.1)

closed : (ms : List Mention) (n : ExpandedName) → Has (flat_map with_namespace ms) (a_name n) → Has (flat_map with_namespace ms) (a_namespace n.uri)
closed [] n h = absurd h
closed (a_name k ∷ ms) n (inl e) = let is : k ≡ n = cc in inr (inl (ap (λ (w : ExpandedName). a_namespace w.uri) is))
closed (a_name k ∷ ms) n (inr (inl e)) = cc
closed (a_name k ∷ ms) n (inr (inr h)) = inr (inr (closed ms n h))
closed (a_namespace u ∷ ms) n (inl e) = cc
closed (a_namespace u ∷ ms) n (inr h) = inr (closed ms n h)

-- what all symbols have in common
pub are_symbols : (input output : Grammar) (x : s.Sheet) → AreSymbols (symbols_of input output x)
are_symbols input output x =
    let ms = flat_map with_namespace (mentions_in input output x) in
    record {
      rise = in_order_rises total same ms;
      closed = λ n h. contains_from_has (in_order mention_cmp ms) (a_namespace n.uri) (in_order_has total same ms (a_namespace n.uri) (closed (mentions_in input output x) n (has_from_in_order total same ms (a_name n) (has_from_contains (in_order mention_cmp ms) (a_name n) h))));
    }

-- those of well-formed schemas and a well-formed stylesheet are lawful
pub are_lawful : (input output : Grammar) (x : s.Sheet) → IsGrammar input → IsGrammar output → IsSheet x → (m : Mention) → Has (symbols_of input output x) m → IsLawful m
are_lawful input output x a b c m h =
    let ms = flat_map with_namespace (mentions_in input output x) in
    let all : AreLawful ms =
    with_namespaces (mentions_in input output x) (join (mentions_in_grammar input) (mentions_in_grammar output ++ mentions_in_sheet x) (lawful_grammar input a) (join (mentions_in_grammar output) (mentions_in_sheet x) (lawful_grammar output b) (lawful_sheet x c)))
    in
    every_member IsLawful ms m all (has_from_in_order total same ms m h)
