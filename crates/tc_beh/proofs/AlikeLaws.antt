-- Symbols that nothing tells apart are alike by all steps, and wrap alike.
use Rattle.std.proofs.Common.{◌≡◌, ◌⊎◌, inl, inr, ℕ, zero, suc, List, [], ◌∷◌, ◌++◌, ◌&&◌, refl, sym, ◌∙◌, subst, map, Some, None, All}
use Rattle.std.proofs.lemmas.Option.{slice_get_within, get_or_from_slice_get}
use Rattle.tc_model.specs.Names.{ExpandedName}
use Rattle.tc_model.specs.Trees.{Trees, none}
use Rattle.tc_model.specs.Chains.{an_element}
use Rattle.tc_model.specs.Grammars.{ElementPattern, element_at, in_class}
use Rattle.tc_model.specs.Paths.{passes}
use Rattle.tc_model.specs.Sheets as s
use Rattle.tc_model.specs.Sheets.{NodeTest, Steps, Path, Test, Sheet}
use Rattle.tc_model.specs.Symbols.{Mention, fresh_name, node_tests, in_steps}
use Rattle.tc_model.specs.Letters.{of_symbol, is_marked}
use Rattle.tc_model.specs.Numberings.{Move, moves_of, looks_of}
use Rattle.tc_model.specs.StateCounts.{PathUse, blocks_of}
use Rattle.tc_alpha.proofs.Members.{Has, Every, every_member, every_from_all, all_from_every, every_from_members, has_either, has_from_contains, contains_from_has}
use Rattle.tc_rules.specs.Graphs.{steps_fit, path_fits}
use Rattle.tc_rows.specs.Alike as r
use Rattle.tc_rows.specs.Triples.{Triple, sheet, predicates}
use Rattle.tc_rows.proofs.Alike.{alike_wrap_alike}
use Rattle.tc_beh.specs.AlikeSymbols.{AreAlike, AlikeWrapAlike, AreAsked, Asks, itself, no_test_of, classes_holding, tests_passed, key}
use Rattle.tc_beh.proofs.TestsUsed.{OfPath, OfMove, of_step, of_alternative, patterns_used, moves_used, looks_used}
use Rattle.tc_beh.proofs.KeyLists.{map_same, same_map, two_same}

-- elements of both names pass a node test, or neither does
abbrev pub Same : ExpandedName → ExpandedName → NodeTest → Type 0
Same n m t = passes t (an_element n none) ≡ passes t (an_element m none)

-- a node test sees no children
deaf : (t : NodeTest) (n : ExpandedName) (h : Trees) → passes t (an_element n h) ≡ passes t (an_element n none)
deaf (s.of_name m) n h = refl
deaf (s.of_namespace u) n h = refl
deaf s.any_element n h = refl
deaf s.any_text n h = refl
deaf s.any_node n h = refl

-- the same steps fit
module _ (symbols : List Mention) (predicates : List Test) (a b marks : ℕ) where
  steps_same : (ss : Steps) → Every (Same (fresh_name symbols a) (fresh_name symbols b)) (in_steps itself no_test_of ss)
      → steps_fit symbols predicates ss (record { kind = of_symbol a; marks = marks }) ≡ steps_fit symbols predicates ss (record { kind = of_symbol b; marks = marks })
  steps_same s.no_step h = refl
  steps_same (s.step deep t when ss) h =
      let (own, inner, rest) = of_step (Same (fresh_name symbols a) (fresh_name symbols b)) deep t when ss h in
      let others = steps_same ss rest in
      λ i. (own i && is_marked symbols predicates when marks) ∷ others i

  path_same : (p : Path) → OfPath (Same (fresh_name symbols a) (fresh_name symbols b)) p
      → path_fits symbols predicates p (record { kind = of_symbol a; marks = marks }) ≡ path_fits symbols predicates p (record { kind = of_symbol b; marks = marks })
  path_same s.no_alternative h = refl
  path_same (s.alternative ss p) h =
      let (first, rest) = of_alternative (Same (fresh_name symbols a) (fresh_name symbols b)) ss p h in
      let one = steps_same ss first in
      let others = path_same p rest in
      λ i. one i ∷ others i

in_same : (n m : ExpandedName) (es : List ElementPattern) → All (λ e. in_class e.names n ≡ in_class e.names m) es → (k : ℕ) (e : ElementPattern) → element_at es k ≡ Some e → in_class e.names n ≡ in_class e.names m
in_same n m es all zero e at = absurd (cc)
in_same n m es all (suc k) e at =
    subst (λ (d : ElementPattern). in_class d.names n ≡ in_class d.names m) (get_or_from_slice_get es k e e at) (all k e (slice_get_within es k e at))

mapped : {X Y : Type 0} (f : X → Y) (xs : List X) (y : Y) → Has (map f xs) y → (x : X) × Has xs x × (f x ≡ y)
mapped f [] y h = absurd h
mapped f (x ∷ xs) y (inl e) = (x, inl refl, e)
mapped f (x ∷ xs) y (inr h) = let (z, there, e) = mapped f xs y h in (z, inr there, e)

abbrev of_move : Move → PathUse
of_move w = record { path = w.path; mode = Some w.mode }

abbrev of_look : Path → PathUse
of_look p = record { path = p; mode = None }

module _ (x : Triple) (a b : ℕ) (alike : AreAlike x a b) where
  abbrev n : ExpandedName
  n = fresh_name x.symbols a

  abbrev m : ExpandedName
  m = fresh_name x.symbols b

  all_tests : Every (Same n m) (node_tests (sheet x))
  all_tests =
      every_from_members (Same n m) (node_tests (sheet x))
      (λ t h. every_member (λ t. (kids : Trees) → passes t (an_element n kids) ≡ passes t (an_element m kids)) (node_tests (sheet x)) t (every_from_all (λ t. (kids : Trees) → passes t (an_element n kids) ≡ passes t (an_element m kids)) (node_tests (sheet x)) alike.pass) h none)

  path_used : (p : Path) → r.IsUsed x p → OfPath (Same n m) p
  path_used p (inl e) = subst (OfPath (Same n m)) (sym e) (patterns_used (Same n m) (sheet x) all_tests)
  path_used p (inr (used, there, e)) = subst (OfPath (Same n m)) e (by (has_either (map of_move (moves_of (sheet x))) (map of_look (looks_of (sheet x))) used (has_from_contains (blocks_of (sheet x)) used there)))
    where
      by : Has (map of_move (moves_of (sheet x))) used ⊎ Has (map of_look (looks_of (sheet x))) used → OfPath (Same n m) used.path
      by (inl h) =
          let (w, at, same) = mapped of_move (moves_of (sheet x)) used h in
          subst (λ (u : PathUse). OfPath (Same n m) u.path) same (every_member (OfMove (Same n m)) (moves_of (sheet x)) w (moves_used (Same n m) (sheet x) all_tests refl) at)
      by (inr h) =
          let (q, at, same) = mapped of_look (looks_of (sheet x)) used h in
          subst (λ (u : PathUse). OfPath (Same n m) u.path) same (every_member (OfPath (Same n m)) (looks_of (sheet x)) q (looks_used (Same n m) (sheet x) all_tests) at)

  by_steps : r.AreAlike x a b
  by_steps = record {
    input = λ k e at. in_same n m x.input.elements alike.in_input k e at;
    output = λ k e at. in_same n m x.output.elements alike.in_output k e at;
    steps = λ p used marks. path_same x.symbols (predicates x) a b marks p (path_used p used);
  }

all_back : {X Y : Type 0} (f g : X → Y) (xs : List X) → All (λ x. f x ≡ g x) xs → All (λ x. g x ≡ f x) xs
all_back f g xs all k d l = sym (all k d l)

pub alike_back : (x : Triple) (a b : ℕ) → AreAlike x a b → AreAlike x b a
alike_back x a b alike =
    let n = fresh_name x.symbols a in
    let m = fresh_name x.symbols b in
    record {
      in_input = all_back (λ e. in_class e.names n) (λ e. in_class e.names m) x.input.elements alike.in_input;
      in_output = all_back (λ e. in_class e.names n) (λ e. in_class e.names m) x.output.elements alike.in_output;
      pass = λ k d l kids. sym (alike.pass k d l kids);
    }

pub alike_alike : AlikeWrapAlike
alike_alike x a b alike =
    let to = by_steps x a b alike in
    let of = by_steps x b a (alike_back x a b alike) in
    (to, λ h. (λ u. ((alike_wrap_alike x a b to h).0 u, (alike_wrap_alike x b a of h).0 u), ((alike_wrap_alike x a b to h).1, (alike_wrap_alike x b a of h).1)))

-- node tests that ask tell as much apart as all
module _ (n m : ExpandedName) (tests asked : List NodeTest) (are : AreAsked tests asked) where
  asked_same : Every (Same n m) tests → Every (Same n m) asked
  asked_same all = every_from_members (Same n m) asked (λ t h. every_member (Same n m) tests t all (has_from_contains tests t (are.each t (contains_from_has asked t h))))

  tests_same : Every (Same n m) asked → Every (Same n m) tests
  tests_same all = every_from_members (Same n m) tests by
    where
      asks : (t : NodeTest) → Asks t → Has tests t → Same n m t
      asks t a h = every_member (Same n m) asked t all (has_from_contains asked t (are.all t a (contains_from_has tests t h)))

      by : (t : NodeTest) → Has tests t → Same n m t
      by (s.of_name k) h = asks (s.of_name k) tt h
      by (s.of_namespace u) h = asks (s.of_namespace u) tt h
      by s.any_element h = refl
      by s.any_text h = refl
      by s.any_node h = refl

-- symbols are alike exactly where their keys are equal
pub key_of_alike : (x : Triple) (ts : List NodeTest) (a b : ℕ) → AreAsked (node_tests (sheet x)) ts → AreAlike x a b → key x ts a ≡ key x ts b
key_of_alike x ts a b are alike =
    let n = fresh_name x.symbols a in
    let m = fresh_name x.symbols b in
    let first = map_same (λ (e : ElementPattern). in_class e.names n) (λ (e : ElementPattern). in_class e.names m) x.input.elements (every_from_all (λ (e : ElementPattern). in_class e.names n ≡ in_class e.names m) x.input.elements alike.in_input) in
    let second = map_same (λ (e : ElementPattern). in_class e.names n) (λ (e : ElementPattern). in_class e.names m) x.output.elements (every_from_all (λ (e : ElementPattern). in_class e.names n ≡ in_class e.names m) x.output.elements alike.in_output) in
    let third = map_same (λ t. passes t (an_element n none)) (λ t. passes t (an_element m none)) ts (asked_same n m (node_tests (sheet x)) ts are (all_tests x a b alike)) in
    λ i. first i ++ (second i ++ third i)

pub alike_of_key : (x : Triple) (ts : List NodeTest) (a b : ℕ) → AreAsked (node_tests (sheet x)) ts → key x ts a ≡ key x ts b → AreAlike x a b
alike_of_key x ts a b are e =
    let n = fresh_name x.symbols a in
    let m = fresh_name x.symbols b in
    let f = λ (e : ElementPattern). in_class e.names n in
    let g = λ (e : ElementPattern). in_class e.names m in
    let (first, rest) = two_same f g x.input.elements (classes_holding x.output n ++ tests_passed ts n) (classes_holding x.output m ++ tests_passed ts m) e in
    let (second, third) = two_same f g x.output.elements (tests_passed ts n) (tests_passed ts m) rest in
    let passed = tests_same n m (node_tests (sheet x)) ts are (same_map (λ t. passes t (an_element n none)) (λ t. passes t (an_element m none)) ts third) in
    record {
      in_input = all_from_every (λ (e : ElementPattern). in_class e.names n ≡ in_class e.names m) x.input.elements (same_map f g x.input.elements first);
      in_output = all_from_every (λ (e : ElementPattern). in_class e.names n ≡ in_class e.names m) x.output.elements (same_map f g x.output.elements second);
      pass = all_from_every (λ t. (kids : Trees) → passes t (an_element n kids) ≡ passes t (an_element m kids)) (node_tests (sheet x))
          (every_from_members (λ t. (kids : Trees) → passes t (an_element n kids) ≡ passes t (an_element m kids)) (node_tests (sheet x))
          (λ t h kids. deaf t n kids ∙ (every_member (Same n m) (node_tests (sheet x)) t passed h ∙ sym (deaf t m kids))));
    }
