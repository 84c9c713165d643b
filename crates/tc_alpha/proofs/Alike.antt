-- Names of one symbol are alike.
use Rattle.std.proofs.Common.{◌≡◌, ℕ, ◌<◌, ◌≤◌, List, [], ◌∷◌, ◌++◌, length, Some, slice_get, refl, ap, sym, subst, ◌∙◌, ◌⊎◌, inl, inr, Bool, true, false, cond, not, ◌&&◌, ◌||◌, arith, ltb, flat_map, bytes_eq}
use Rattle.std.specs.Prelude.{nat_lt}
use Rattle.std.proofs.lemmas.Bool.Decides.{nat_tests}
use Rattle.std.proofs.lemmas.Slice.Eq.{bytes_eq-Decides}
use Rattle.tc_model.specs.Names.{ExpandedName, same_name}
use Rattle.tc_model.specs.Trees.{Trees}
use Rattle.tc_model.specs.Grammars as g
use Rattle.tc_model.specs.Grammars.{NameClass, NameClasses, no_class, class, in_class, in_some_class, Grammar, ElementPattern}
use Rattle.tc_model.specs.Chains.{an_element}
use Rattle.tc_model.specs.Paths.{passes}
use Rattle.tc_model.specs.Sheets as s
use Rattle.tc_model.specs.Symbols.{Mention, a_name, a_namespace, mentions_of_name, mentions_in_class, mentions_in_classes, mentions_in_grammar, mentions_of_test, in_steps, in_path, in_test, in_tests, in_pattern, in_body, in_branches, in_sheet, mentions_in_sheet, node_tests, with_namespace, mentions_in, symbols_of, place_of, symbol_of, AreAlike, IsAlikeBySymbol}
use Rattle.tc_alpha.proofs.Orders.{total, same, same_parts}
use Rattle.tc_alpha.proofs.Members.{Has, Every, every_from_members, every_append, every_front, every_back, all_from_every, in_order_has, has_back}
use Rattle.tc_alpha.proofs.Places.{place_le, place_has, placed}

-- a mention tells two names apart or not
abbrev pub Agrees : ExpandedName → ExpandedName → Mention → Type 0
Agrees n m (a_name k) = same_name k n ≡ same_name k m
Agrees n m (a_namespace u) = bytes_eq u n.uri ≡ bytes_eq u m.uri

same_bytes : (xs ys : List ℕ) → bytes_eq xs ys ≡ true → xs ≡ ys
same_bytes xs ys e = (bytes_eq-Decides xs ys).0 e

is_false : (b : Bool) → (b ≡ true → ⊥) → b ≡ false
is_false true h = absurd (h refl)
is_false false h = refl

both_true : (a b : Bool) → (a && b) ≡ true → (a ≡ true) × (b ≡ true)
both_true true b e = (refl, e)
both_true false b e = cc

same_name_is : (k n : ExpandedName) → same_name k n ≡ true → k ≡ n
same_name_is k n e =
    let both = both_true (bytes_eq k.uri n.uri) (bytes_eq k.local n.local) e in
    same_parts k n (same_bytes k.uri n.uri both.0) (same_bytes k.local n.local both.1)

-- not among them
abbrev Misses : List Mention → Mention → Type 0
Misses xs m = Has xs m → ⊥

misses : (m : Mention) (xs : List Mention) → place_of m xs ≡ length xs → Misses xs m
misses m xs e h = let there = place_has m xs h in omega arith

-- whether a mention is among them
pub either : (m : Mention) (xs : List Mention) → (place_of m xs < length xs) ⊎ (place_of m xs ≡ length xs)
either m xs =
    let most = place_le m xs in
    elim (ltb (place_of m xs) (length xs)) as (λ t. ltb (place_of m xs) (length xs) ≡ t → (place_of m xs < length xs) ⊎ (place_of m xs ≡ length xs)) [
      | true ↦ λ e. inl (low (place_of m xs) (length xs) e)
      | false ↦ λ e. inr (last (place_of m xs) (length xs) e most)
    ] refl
  where
    low : (a b : ℕ) → ltb a b ≡ true → a < b
    low a b e = grind (arith, nat_tests)

    last : (a b : ℕ) → ltb a b ≡ false → a ≤ b → a ≡ b
    last a b e h = grind (arith, nat_tests)

pub is_taken : (a b : ℕ) → a < b → nat_lt a b ≡ true
is_taken a b h = grind (arith, nat_tests)

pub is_free : (a b : ℕ) → a ≡ b → nat_lt a b ≡ false
is_free a b h = grind (arith, nat_tests)

-- the symbol of a name that is mentioned, and of one that is not
pub own_symbol : (xs : List Mention) (n : ExpandedName) → place_of (a_name n) xs < length xs → symbol_of xs n ≡ place_of (a_name n) xs
own_symbol xs n h = ap (λ b. cond b (place_of (a_name n) xs) (place_of (a_namespace n.uri) xs)) (is_taken (place_of (a_name n) xs) (length xs) h)

pub shared_symbol : (xs : List Mention) (n : ExpandedName) → place_of (a_name n) xs ≡ length xs → symbol_of xs n ≡ place_of (a_namespace n.uri) xs
shared_symbol xs n h = ap (λ b. cond b (place_of (a_name n) xs) (place_of (a_namespace n.uri) xs)) (is_free (place_of (a_name n) xs) (length xs) h)

other_names : (xs : List Mention) (n : ExpandedName) → Misses xs (a_name n) → (k : ExpandedName) → Has xs (a_name k) → same_name k n ≡ false
other_names xs n missed k h = is_false (same_name k n) (λ e. missed (subst (λ w. Has xs (a_name w)) (same_name_is k n e) h))

other_namespaces : (xs : List Mention) (v : List ℕ) → Misses xs (a_namespace v) → (u : List ℕ) → Has xs (a_namespace u) → bytes_eq u v ≡ false
other_namespaces xs v missed u h = is_false (bytes_eq u v) (λ e. missed (subst (λ w. Has xs (a_namespace w)) (same_bytes u v e) h))

module _ (xs : List Mention) (n m : ExpandedName) where
  -- two names that are not mentioned, in namespaces that no mention tells apart
  unmentioned : Misses xs (a_name n) → Misses xs (a_name m) → ((u : List ℕ) → Has xs (a_namespace u) → bytes_eq u n.uri ≡ bytes_eq u m.uri) → (x : Mention) → Has xs x → Agrees n m x
  unmentioned a b spaces (a_name k) h = other_names xs n a k h ∙ sym (other_names xs m b k h)
  unmentioned a b spaces (a_namespace u) h = spaces u h

  one_name : n ≡ m → (x : Mention) → Agrees n m x
  one_name e (a_name k) = ap (same_name k) e
  one_name e (a_namespace u) = ap (λ (w : ExpandedName). bytes_eq u w.uri) e

  -- what stands at one place is one mention
  one_place : (x y : Mention) → place_of x xs ≡ place_of y xs → place_of x xs < length xs → x ≡ y
  one_place x y e h =
      let a : slice_get xs (place_of x xs) ≡ Some x = placed x xs h in
      let b : slice_get xs (place_of y xs) ≡ Some y = placed y xs (subst (λ k. k < length xs) e h) in
      let c : slice_get xs (place_of x xs) ≡ slice_get xs (place_of y xs) = ap (slice_get xs) e in
      cc

  spaces_agree : place_of (a_namespace n.uri) xs ≡ place_of (a_namespace m.uri) xs → (u : List ℕ) → Has xs (a_namespace u) → bytes_eq u n.uri ≡ bytes_eq u m.uri
  spaces_agree e u h =
      elim (either (a_namespace n.uri) xs) [
        | inl low ↦
            let one : a_namespace n.uri ≡ a_namespace m.uri = one_place (a_namespace n.uri) (a_namespace m.uri) e low in
            let uris : n.uri ≡ m.uri = cc in
            ap (bytes_eq u) uris
        | inr last ↦
            other_namespaces xs n.uri (misses (a_namespace n.uri) xs last) u h
            ∙ sym (other_namespaces xs m.uri (misses (a_namespace m.uri) xs (sym e ∙ last)) u h)
      ]

  -- names of one symbol are told apart by no mention
  pub agree : symbol_of xs n ≡ symbol_of xs m → (x : Mention) → Has xs x → Agrees n m x
  agree e x h =
      elim (either (a_name n) xs) [
        | inl low ↦ elim (either (a_name m) xs) [
          | inl low2 ↦
              let one : a_name n ≡ a_name m = one_place (a_name n) (a_name m) (sym (own_symbol xs n low) ∙ (e ∙ own_symbol xs m low2)) low in
              let is : n ≡ m = cc in
              one_name is x
          | inr last2 ↦
              let one : a_name n ≡ a_namespace m.uri = one_place (a_name n) (a_namespace m.uri) (sym (own_symbol xs n low) ∙ (e ∙ shared_symbol xs m last2)) low in
              let never : ⊥ = cc in
              absurd never
        ]
        | inr last ↦ elim (either (a_name m) xs) [
          | inl low2 ↦
              let one : a_name m ≡ a_namespace n.uri = one_place (a_name m) (a_namespace n.uri) (sym (own_symbol xs m low2) ∙ (sym e ∙ shared_symbol xs n last)) low2 in
              let never : ⊥ = cc in
              absurd never
          | inr last2 ↦ unmentioned (misses (a_name n) xs last) (misses (a_name m) xs last2) (spaces_agree (sym (shared_symbol xs n last) ∙ (e ∙ shared_symbol xs m last2))) x h
        ]
      ]

module _ (n m : ExpandedName) where
  mutual
    class_agrees : (c : NameClass) → Every (Agrees n m) (mentions_in_class c) → in_class c n ≡ in_class c m
    class_agrees (g.of_name k) h = h.0
    class_agrees (g.of_namespace u except) h = ap (λ b. b && not (in_some_class except n)) h.0 ∙ ap (λ b. bytes_eq u m.uri && not b) (classes_agree except h.1)
    class_agrees (g.any_name except) h = ap not (classes_agree except h)
    class_agrees (g.one_of classes) h = classes_agree classes h

    classes_agree : (cs : NameClasses) → Every (Agrees n m) (mentions_in_classes cs) → in_some_class cs n ≡ in_some_class cs m
    classes_agree no_class h = refl
    classes_agree (class c cs) h =
        ap (λ b. b || in_some_class cs n) (class_agrees c (every_front (Agrees n m) (mentions_in_class c) (mentions_in_classes cs) h))
        ∙ ap (λ b. in_class c m || b) (classes_agree cs (every_back (Agrees n m) (mentions_in_class c) (mentions_in_classes cs) h))

  elements_agree : (es : List ElementPattern) → Every (Agrees n m) (flat_map (λ e. mentions_in_class e.names) es) → Every (λ (e : ElementPattern). in_class e.names n ≡ in_class e.names m) es
  elements_agree [] h = tt
  elements_agree (e ∷ es) h = (
    class_agrees e.names (every_front (Agrees n m) (mentions_in_class e.names) (flat_map (λ x. mentions_in_class x.names) es) h),
    elements_agree es (every_back (Agrees n m) (mentions_in_class e.names) (flat_map (λ x. mentions_in_class x.names) es) h),
  )

  abbrev Passes : s.NodeTest → Type 0
  Passes t = (kids : Trees) → passes t (an_element n kids) ≡ passes t (an_element m kids)

  test_agrees : (t : s.NodeTest) → Every (Agrees n m) (mentions_of_test t) → Passes t
  test_agrees (s.of_name k) h kids = h.0
  test_agrees (s.of_namespace u) h kids = h.0
  test_agrees s.any_element h kids = refl
  test_agrees s.any_text h kids = refl
  test_agrees s.any_node h kids = refl

-- what holds of all that a stylesheet's node tests give holds of the node tests
module _ {X : Type 0} (of_test : s.NodeTest → List X) (of_element : ExpandedName → List X) (Q : X → Type 0) (P : s.NodeTest → Type 0) (gives : (t : s.NodeTest) → Every Q (of_test t) → P t) where
  abbrev one : s.NodeTest → List s.NodeTest
  one t = t ∷ []

  abbrev without : ExpandedName → List s.NodeTest
  without n = []

  abbrev from_steps : s.Steps → List X
  from_steps ss = in_steps of_test of_element ss

  abbrev from_path : s.Path → List X
  from_path p = in_path of_test of_element p

  abbrev from_test : s.Test → List X
  from_test t = in_test of_test of_element t

  abbrev from_tests : s.Tests → List X
  from_tests ts = in_tests of_test of_element ts

  abbrev from_body : s.Body → List X
  from_body b = in_body of_test of_element b

  abbrev from_branches : s.Branches → List X
  from_branches x = in_branches of_test of_element x

  abbrev to_steps : s.Steps → List s.NodeTest
  to_steps ss = in_steps one without ss

  abbrev to_path : s.Path → List s.NodeTest
  to_path p = in_path one without p

  abbrev to_test : s.Test → List s.NodeTest
  to_test t = in_test one without t

  abbrev to_tests : s.Tests → List s.NodeTest
  to_tests ts = in_tests one without ts

  abbrev to_body : s.Body → List s.NodeTest
  to_body b = in_body one without b

  abbrev to_branches : s.Branches → List s.NodeTest
  to_branches x = in_branches one without x

  -- of two parts joined, from each part
  both : (xs ys : List X) (us vs : List s.NodeTest) → (Every Q xs → Every P us) → (Every Q ys → Every P vs) → Every Q (xs ++ ys) → Every P (us ++ vs)
  both xs ys us vs f g h = every_append P us vs (f (every_front Q xs ys h)) (g (every_back Q xs ys h))

  mutual
    steps_give : (ss : s.Steps) → Every Q (from_steps ss) → Every P (to_steps ss)
    steps_give s.no_step h = tt
    steps_give (s.step deep t when ss) h =
        (gives t (every_front Q (of_test t) (from_test when ++ from_steps ss) h), both (from_test when) (from_steps ss) (to_test when) (to_steps ss) (test_gives when) (steps_give ss) (every_back Q (of_test t) (from_test when ++ from_steps ss) h))

    path_gives : (p : s.Path) → Every Q (from_path p) → Every P (to_path p)
    path_gives s.no_alternative h = tt
    path_gives (s.alternative ss p) h = both (from_steps ss) (from_path p) (to_steps ss) (to_path p) (steps_give ss) (path_gives p) h

    test_gives : (t : s.Test) → Every Q (from_test t) → Every P (to_test t)
    test_gives s.always h = tt
    test_gives s.never h = tt
    test_gives (s.has p) h = path_gives p h
    test_gives (s.negated t) h = test_gives t h
    test_gives (s.all_of ts) h = tests_give ts h
    test_gives (s.any_of ts) h = tests_give ts h

    tests_give : (ts : s.Tests) → Every Q (from_tests ts) → Every P (to_tests ts)
    tests_give s.no_test h = tt
    tests_give (s.test t ts) h = both (from_test t) (from_tests ts) (to_test t) (to_tests ts) (test_gives t) (tests_give ts) h

  pattern_gives : (p : s.MatchPattern) → Every Q (in_pattern of_test of_element p) → Every P (in_pattern one without p)
  pattern_gives s.root_pattern h = tt
  pattern_gives (s.steps_pattern ss) h = steps_give ss h

  mutual
    body_gives : (b : s.Body) → Every Q (from_body b) → Every P (to_body b)
    body_gives s.no_instruction h = tt
    body_gives (s.put_text x b) h = body_gives b h
    body_gives (s.put_element n i b) h =
        both (from_body i) (from_body b) (to_body i) (to_body b) (body_gives i) (body_gives b) (every_back Q (of_element n) (from_body i ++ from_body b) h)
    body_gives (s.copy i b) h = both (from_body i) (from_body b) (to_body i) (to_body b) (body_gives i) (body_gives b) h
    body_gives (s.apply p k b) h = both (from_path p) (from_body b) (to_path p) (to_body b) (path_gives p) (body_gives b) h
    body_gives (s.call k b) h = body_gives b h
    body_gives (s.value p b) h = both (from_path p) (from_body b) (to_path p) (to_body b) (path_gives p) (body_gives b) h
    body_gives (s.value_of_self b) h = body_gives b h
    body_gives (s.choose x b) h = both (from_branches x) (from_body b) (to_branches x) (to_body b) (branches_give x) (body_gives b) h
    body_gives (s.for_each k p i b) h =
        both (from_path p) (from_body i ++ from_body b) (to_path p) (to_body i ++ to_body b) (path_gives p) (λ w. both (from_body i) (from_body b) (to_body i) (to_body b) (body_gives i) (body_gives b) w) h

    branches_give : (x : s.Branches) → Every Q (from_branches x) → Every P (to_branches x)
    branches_give (s.otherwise b) h = body_gives b h
    branches_give (s.branch t b x) h =
        both (from_test t) (from_body b ++ from_branches x) (to_test t) (to_body b ++ to_branches x) (test_gives t) (λ w. both (from_body b) (from_branches x) (to_body b) (to_branches x) (body_gives b) (branches_give x) w) h

  abbrev from_rule : s.Rule → List X
  from_rule r = in_pattern of_test of_element r.pattern ++ from_body r.body

  abbrev to_rule : s.Rule → List s.NodeTest
  to_rule r = in_pattern one without r.pattern ++ to_body r.body

  rule_gives : (r : s.Rule) → Every Q (from_rule r) → Every P (to_rule r)
  rule_gives r h = both (in_pattern of_test of_element r.pattern) (from_body r.body) (in_pattern one without r.pattern) (to_body r.body) (pattern_gives r.pattern) (body_gives r.body) h

  rules_give : (rs : List s.Rule) → Every Q (flat_map from_rule rs) → Every P (flat_map to_rule rs)
  rules_give [] h = tt
  rules_give (r ∷ rs) h = both (from_rule r) (flat_map from_rule rs) (to_rule r) (flat_map to_rule rs) (rule_gives r) (rules_give rs) h

  bodies_give : (bs : List s.Body) → Every Q (flat_map from_body bs) → Every P (flat_map to_body bs)
  bodies_give [] h = tt
  bodies_give (b ∷ bs) h = both (from_body b) (flat_map from_body bs) (to_body b) (flat_map to_body bs) (body_gives b) (bodies_give bs) h

  pub sheet_gives : (x : s.Sheet) → Every Q (in_sheet of_test of_element x) → Every P (in_sheet one without x)
  sheet_gives x h =
      both (flat_map from_rule x.rules) (flat_map from_body x.named) (flat_map to_rule x.rules) (flat_map to_body x.named) (rules_give x.rules) (bodies_give x.named) h

-- what is mentioned is so together with its namespace
pub has_with_namespace : (ms : List Mention) (x : Mention) → Has ms x → Has (flat_map with_namespace ms) x
has_with_namespace [] x h = absurd h
has_with_namespace (y ∷ ms) x (inr h) = has_back (with_namespace y) (flat_map with_namespace ms) x (has_with_namespace ms x h)
has_with_namespace (a_name k ∷ ms) x (inl e) = inl e
has_with_namespace (a_namespace u ∷ ms) x (inl e) = inl e

pub alike : IsAlikeBySymbol
alike input output sheet n m e =
    let ms = mentions_in input output sheet in
    let of_all : Every (Agrees n m) ms =
    every_from_members (Agrees n m) ms (λ x h. agree (symbols_of input output sheet) n m e x (in_order_has total same (flat_map with_namespace ms) x (has_with_namespace ms x h)))
    in
    let after = every_back (Agrees n m) (mentions_in_grammar input) (mentions_in_grammar output ++ mentions_in_sheet sheet) of_all in
    record {
      in_input = all_from_every (λ (x : ElementPattern). in_class x.names n ≡ in_class x.names m) input.elements (elements_agree n m input.elements (every_front (Agrees n m) (mentions_in_grammar input) (mentions_in_grammar output ++ mentions_in_sheet sheet) of_all));
      in_output = all_from_every (λ (x : ElementPattern). in_class x.names n ≡ in_class x.names m) output.elements (elements_agree n m output.elements (every_front (Agrees n m) (mentions_in_grammar output) (mentions_in_sheet sheet) after));
      pass = all_from_every (Passes n m) (node_tests sheet) (sheet_gives mentions_of_test mentions_of_name (Agrees n m) (Passes n m) (test_agrees n m) sheet (every_back (Agrees n m) (mentions_in_grammar output) (mentions_in_sheet sheet) after));
    }

-- what a symbol tells of its name
pub alike_told : (xs : List Mention) (n : ExpandedName) (k : ℕ) → k ≡ symbol_of xs n → (input output : Grammar) (sheet : s.Sheet) → xs ≡ symbols_of input output sheet → (m : ExpandedName) → k ≡ symbol_of xs m
    → AreAlike input output sheet n m
alike_told xs n k is input output sheet stands m one =
    alike input output sheet n m (subst (λ ys. symbol_of ys n ≡ symbol_of ys m) stands (sym is ∙ one))
