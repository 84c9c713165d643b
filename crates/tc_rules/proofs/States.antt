-- The machine of path states tells what a stylesheet's paths select and what its rules say.
use Rattle.std.proofs.Common.{◌≡◌, ℕ, zero, suc, List, [], ◌∷◌, ◌++◌, refl, ap, ◌∙◌, sym, subst, Bool, Option, Some, None, slice_get}
use Rattle.tc_model.specs.Trees.{Trees, none}
use Rattle.tc_model.specs.Chains.{Tree, an_element, a_text, Chain, top, under, one, whole}
use Rattle.tc_model.specs.Grammars.{Grammar}
use Rattle.tc_model.specs.Sheets as s
use Rattle.tc_model.specs.Sheets.{NodeTest, Steps, Path, Test, Tests, Body, Branches, Rule, Sheet, CallFreeBody, p_done, p_text, p_element, p_copy, p_apply, p_call, p_value, p_self, p_choose, p_each, CallFreeBranches, p_otherwise, p_branch, Inlines, u_done, u_text, u_element, u_copy, u_apply, u_call, u_value, u_self, u_choose, u_each, BranchesInline, u_otherwise, u_branch}
use Rattle.tc_model.specs.Paths.{fits}
use Rattle.tc_model.specs.Meaning as meaning
use Rattle.tc_model.specs.Meaning.{Job, by_mode, by_body, all_children, body_or, rule_of, body_of}
use Rattle.tc_model.specs.Machine.{CallFreeJob, in_mode, in_body, JobInlines, u_mode, u_body, known_test, known_tests, known, known_branches, known_task, Machine, move_picks, look_picks, picks, above, plain_at, IsMachineOf, IsSteady}
use Rattle.tc_model.specs.Symbols.{Mention, symbols_of, in_path, in_test, in_tests, in_branches}
use Rattle.tc_model.specs.Symbols as y
use Rattle.tc_model.specs.Letters.{Kind, of_symbol, of_text, Letter, letter_of}
use Rattle.tc_model.specs.PathStates.{State, first_state, next_state, is_hit, path_of_rules}
use Rattle.tc_model.specs.Numberings.{predicates_in_path, predicates_in_test, predicates_in_tests, predicates_in_body, predicates_in_branches, predicates_of}
use Rattle.tc_model.specs.RuleStates.{IsRuleOf, best, fits_below}
use Rattle.tc_alpha.proofs.Members.{Every}
use Rattle.tc_rules.specs.Covered.{IsNumbered, IsBlind, IsCovered}
use Rattle.tc_rules.specs.States.{Chosen, chosen, AllInline, or_plain, plain_of, built_in_at, body_by, body_of_root, states}
use Rattle.tc_rules.proofs.Exact.{selects, state_at}
use Rattle.tc_rules.proofs.Covered.{OfNamed, OfRule, two, path_covered, fine, patterns_covered}
use Rattle.tc_rules.proofs.Best.{picked, rule_by_state, root_rule_is}
use Rattle.tc_rules.proofs.Chosen.{number_of_chosen, rule_is_chosen}

some_is : {X : Type 0} {a b : X} → Some a ≡ Some b → a ≡ b
some_is e = cc

-- the paths of covered bodies are known
module _ (symbols : List Mention) (predicates : List Test) (named : List Body) (of_named : Every (OfNamed (IsBlind symbols predicates) (IsNumbered symbols predicates)) named) where
  abbrev Blind : NodeTest → Type 0
  Blind t = IsBlind symbols predicates t

  abbrev Numbered : Test → Type 0
  Numbered w = IsNumbered symbols predicates w

  abbrev Knows : CallFreeBody → Type 0
  Knows p = known (λ j q. IsCovered symbols predicates q) (IsCovered symbols predicates) p

  abbrev KnowsTest : Test → Type 0
  KnowsTest t = known_test (λ j q. IsCovered symbols predicates q) (IsCovered symbols predicates) t

  abbrev tests_in_path : Path → List NodeTest
  tests_in_path p = in_path (λ t. t ∷ []) (λ n. []) p

  abbrev tests_in_test : Test → List NodeTest
  tests_in_test t = in_test (λ t. t ∷ []) (λ n. []) t

  abbrev tests_in_tests : Tests → List NodeTest
  tests_in_tests ts = in_tests (λ t. t ∷ []) (λ n. []) ts

  abbrev tests_in_body : Body → List NodeTest
  tests_in_body b = y.in_body (λ t. t ∷ []) (λ n. []) b

  abbrev tests_in_branches : Branches → List NodeTest
  tests_in_branches x = in_branches (λ t. t ∷ []) (λ n. []) x

  path_known : (p : Path) → Every Blind (tests_in_path p) → Every Numbered (predicates_in_path p) → IsCovered symbols predicates p
  path_known p h k = path_covered symbols predicates p (record { tests = h; predicates = k })

  mutual
    test_known : (t : Test) → Every Blind (tests_in_test t) → Every Numbered (predicates_in_test t) → KnowsTest t
    test_known s.always h k = tt
    test_known s.never h k = tt
    test_known (s.has p) h k = path_known p h k
    test_known (s.negated t) h k = test_known t h k
    test_known (s.all_of ts) h k = tests_known ts h k
    test_known (s.any_of ts) h k = tests_known ts h k

    tests_known : (ts : Tests) → Every Blind (tests_in_tests ts) → Every Numbered (predicates_in_tests ts) → known_tests (λ j q. IsCovered symbols predicates q) (IsCovered symbols predicates) ts
    tests_known s.no_test h k = tt
    tests_known (s.test t ts) h k =
        let (a, c) = two Blind Numbered (tests_in_test t) (tests_in_tests ts) (predicates_in_test t) (predicates_in_tests ts) h k in (test_known t a.0 a.1, tests_known ts c.0 c.1)

  named_at : (bs : List Body) → Every (OfNamed Blind Numbered) bs → (n : ℕ) (i : Body) → slice_get bs n ≡ Some i → OfNamed Blind Numbered i
  named_at [] h n i e = absurd (cc)
  named_at (b ∷ bs) h zero i e = subst (OfNamed Blind Numbered) (some_is e) h.0
  named_at (b ∷ bs) h (suc n) i e = named_at bs h.1 n i e

  mutual
    body_known : {b : Body} {p : CallFreeBody} → Inlines named b p → Every Blind (tests_in_body b) → Every Numbered (predicates_in_body b) → Knows p
    body_known u_done h k = tt
    body_known (u_text u) h k = body_known u h k
    body_known (u_element {i = i} {b = b} v u) h k =
        let (a, c) = two Blind Numbered (tests_in_body i) (tests_in_body b) (predicates_in_body i) (predicates_in_body b) h k in (body_known v a.0 a.1, body_known u c.0 c.1)
    body_known (u_copy {i = i} {b = b} v u) h k =
        let (a, c) = two Blind Numbered (tests_in_body i) (tests_in_body b) (predicates_in_body i) (predicates_in_body b) h k in (body_known v a.0 a.1, body_known u c.0 c.1)
    body_known (u_apply {w = w} {b = b} u) h k =
        let (a, c) = two Blind Numbered (tests_in_path w) (tests_in_body b) (predicates_in_path w) (predicates_in_body b) h k in (path_known w a.0 a.1, body_known u c.0 c.1)
    body_known (u_call {n = n} {i = i} e v u) h k =
        let of = named_at named of_named n i e in (body_known v of.tests of.predicates, body_known u h k)
    body_known (u_value {w = w} {b = b} u) h k =
        let (a, c) = two Blind Numbered (tests_in_path w) (tests_in_body b) (predicates_in_path w) (predicates_in_body b) h k in (path_known w a.0 a.1, body_known u c.0 c.1)
    body_known (u_self u) h k = body_known u h k
    body_known (u_choose {x = x} {b = b} v u) h k =
        let (a, c) = two Blind Numbered (tests_in_branches x) (tests_in_body b) (predicates_in_branches x) (predicates_in_body b) h k in (branches_known v a.0 a.1, body_known u c.0 c.1)
    body_known (u_each {w = w} {i = i} {b = b} v u) h k =
        let (a, c) = two Blind Numbered (tests_in_path w) (tests_in_body i ++ tests_in_body b) (predicates_in_path w) (predicates_in_body i ++ predicates_in_body b) h k in
        let (d, f) = two Blind Numbered (tests_in_body i) (tests_in_body b) (predicates_in_body i) (predicates_in_body b) c.0 c.1 in
        (path_known w a.0 a.1, body_known v d.0 d.1, body_known u f.0 f.1)

    branches_known : {x : Branches} {y : CallFreeBranches} → BranchesInline named x y → Every Blind (tests_in_branches x) → Every Numbered (predicates_in_branches x)
        → known_branches (λ j q. IsCovered symbols predicates q) (IsCovered symbols predicates) y
    branches_known (u_otherwise u) h k = body_known u h k
    branches_known (u_branch {t = t} {b = b} {x = x} u v) h k =
        let (a, c) = two Blind Numbered (tests_in_test t) (tests_in_body b ++ tests_in_branches x) (predicates_in_test t) (predicates_in_body b ++ predicates_in_branches x) h k in
        let (d, f) = two Blind Numbered (tests_in_body b) (tests_in_branches x) (predicates_in_body b) (predicates_in_branches x) c.0 c.1 in
        (test_known t a.0 a.1, body_known u d.0 d.1, branches_known v f.0 f.1)

  -- all bodies of rules
  abbrev AllKnown : List CallFreeBody → Type 0
  AllKnown ps = Every Knows ps

  rules_known : (rs : List Rule) (ps : List CallFreeBody) → AllInline named rs ps → Every (OfRule Blind Numbered) rs → AllKnown ps
  rules_known [] [] u h = tt
  rules_known [] (p ∷ ps) u h = absurd u
  rules_known (r ∷ rs) [] u h = absurd u
  rules_known (r ∷ rs) (p ∷ ps) u h = (body_known u.0 h.0.tests h.0.predicates, rules_known rs ps u.1 h.1)

-- the body of a number
unfolded_at : (named : List Body) (rs : List Rule) (ps : List CallFreeBody) → AllInline named rs ps → (i : ℕ) (r : Rule) → slice_get rs i ≡ Some r → (p : CallFreeBody) × (slice_get ps i ≡ Some p) × Inlines named r.body p
unfolded_at named [] ps u i r e = absurd (cc)
unfolded_at named (q ∷ rs) [] u i r e = absurd u
unfolded_at named (q ∷ rs) (p ∷ ps) u zero r e = (p, refl, subst (λ (x : Rule). Inlines named x.body p) (some_is e) u.0)
unfolded_at named (q ∷ rs) (p ∷ ps) u (suc i) r e = unfolded_at named rs ps u.1 i r e

picked_is : (named : List Body) (rs : List Rule) (ps : List CallFreeBody) → AllInline named rs ps → (b : Body) (d : CallFreeBody) → Inlines named b d → (x : Option Chosen) (o : Option Rule)
    → o ≡ picked rs (number_of_chosen x) → ((i : ℕ) → number_of_chosen x ≡ Some i → (r : Rule) × (slice_get rs i ≡ Some r)) → Inlines named (body_or b o) (plain_of ps d x)
picked_is named rs ps u b d v None o e h = subst (λ w. Inlines named (body_or b w) d) (sym e) v
picked_is named rs ps u b d v (Some x) o e h =
    let (r, at) = h x.number refl in
    let (p, there, k) = unfolded_at named rs ps u x.number r at in
    subst (λ w. Inlines named (body_or b w) (or_plain d (slice_get ps x.number))) (sym (e ∙ at)) (subst (λ w. Inlines named r.body (or_plain d w)) (sym there) k)

-- a rule was chosen, and stands there
chosen_at : (m : ℕ) (rs : List Rule) (f : ℕ → Rule → Bool) (x : Option Chosen) → IsRuleOf rs m f (number_of_chosen x) → (i : ℕ) → number_of_chosen x ≡ Some i → (r : Rule) × (slice_get rs i ≡ Some r)
chosen_at m rs f None h i e = absurd (cc)
chosen_at m rs f (Some x) (best {r = r} k l) i e = (r, subst (λ n. slice_get rs n ≡ Some r) (some_is e) k.at)

-- the symbols are those of some two schemas and this stylesheet, and these are the bodies of its rules with the bodies that they call in place
module _ (input output : Grammar) (x : Sheet) (bodies : List CallFreeBody) (all : AllInline x.named x.rules bodies) where
  abbrev pub own_symbols : List Mention
  own_symbols = symbols_of input output x

  abbrev pub machine_of : Machine
  machine_of = states own_symbols (predicates_of x) x.rules bodies

  above_is : (c : Chain) → above machine_of c ≡ state_at own_symbols (predicates_of x) (path_of_rules x.rules) c
  above_is (top doc) = refl
  above_is (under c t) = ap (λ q. next_state own_symbols (predicates_of x) (path_of_rules x.rules) q (letter_of own_symbols (predicates_of x) t)) (above_is c)

  built_in_unfolds : (m : ℕ) (t : Tree) → Inlines x.named (meaning.built_in m (one t)) (built_in_at m (letter_of own_symbols (predicates_of x) t).kind)
  built_in_unfolds m (an_element n kids) = u_apply u_done
  built_in_unfolds m (a_text y) = u_self u_done

  body_is : (m : ℕ) (c : Chain) (t : Tree) (q : State) → q ≡ state_at own_symbols (predicates_of x) (path_of_rules x.rules) c
      → Inlines x.named (body_of x.rules (by_mode m) (under c t)) (body_by own_symbols (predicates_of x) x.rules bodies (in_mode m) q (letter_of own_symbols (predicates_of x) t))
  body_is m c t q e =
      let l = letter_of own_symbols (predicates_of x) t in
      let f = fits_below own_symbols (predicates_of x) q l in
      let is = rule_is_chosen m x.rules f in
      let at_node = subst (λ w. IsRuleOf x.rules m (fits_below own_symbols (predicates_of x) w l) (number_of_chosen (chosen x.rules m f))) e is in
      picked_is x.named x.rules bodies all (meaning.built_in m (one t)) (built_in_at m l.kind) (built_in_unfolds m t) (chosen x.rules m f) (rule_of x.rules m (under c t))
      (rule_by_state own_symbols (predicates_of x) x.rules (patterns_covered input output x) m c t (number_of_chosen (chosen x.rules m f)) at_node) (chosen_at m x.rules f (chosen x.rules m f) is)

  root_is : (m : ℕ) (doc : Trees) → Inlines x.named (body_of x.rules (by_mode m) (top doc)) (body_of_root own_symbols (predicates_of x) x.rules bodies (in_mode m))
  root_is m doc =
      let f = λ (i : ℕ) (r : Rule). fits r.pattern (top none) in
      let is = rule_is_chosen m x.rules f in
      picked_is x.named x.rules bodies all (meaning.built_in m (whole doc)) (p_apply all_children m p_done) (u_apply u_done) (chosen x.rules m f) (rule_of x.rules m (top doc))
      (root_rule_is own_symbols (predicates_of x) x.rules m doc (number_of_chosen (chosen x.rules m f)) is) (chosen_at m x.rules f (chosen x.rules m f) is)

  ruled : (j : Job) (k : CallFreeJob) (c : Chain) → JobInlines x.named j k → Inlines x.named (body_of x.rules j c) (plain_at machine_of k c)
  ruled j k (top doc) (u_mode {m}) = root_is m doc
  ruled j k (under c t) (u_mode {m}) = body_is m c t (above machine_of c) (above_is c)
  ruled j k (top doc) (u_body u) = u
  ruled j k (under c t) (u_body u) = u

  move_tells : (j : CallFreeJob) (p : Path) (q : State) (t : Tree) (ts : List Tree)
      → picks (letter_of own_symbols (predicates_of x)) (next_state own_symbols (predicates_of x) p) (is_hit own_symbols (predicates_of x) p) q (t ∷ ts)
      ≡ move_picks machine_of (record { task = j; path = p; state = q }) (t ∷ ts)
  move_tells j p q t [] = refl
  move_tells j p q t (u ∷ us) = move_tells j p (next_state own_symbols (predicates_of x) p q (letter_of own_symbols (predicates_of x) t)) u us

  look_tells : (p : Path) (q : State) (t : Tree) (ts : List Tree)
      → picks (letter_of own_symbols (predicates_of x)) (next_state own_symbols (predicates_of x) p) (is_hit own_symbols (predicates_of x) p) q (t ∷ ts)
      ≡ look_picks machine_of (record { path = p; state = q }) (t ∷ ts)
  look_tells p q t [] = refl
  look_tells p q t (u ∷ us) = look_tells p (next_state own_symbols (predicates_of x) p q (letter_of own_symbols (predicates_of x) t)) u us

  all_bodies_known : Every (λ p. known (λ j q. IsCovered own_symbols (predicates_of x) q) (IsCovered own_symbols (predicates_of x)) p) bodies
  all_bodies_known =
      rules_known own_symbols (predicates_of x) x.named (fine input output x).named x.rules bodies all (fine input output x).rules

  abbrev Known : CallFreeBody → Type 0
  Known p = known (λ j q. IsCovered own_symbols (predicates_of x) q) (IsCovered own_symbols (predicates_of x)) p

  known_at : (ps : List CallFreeBody) → Every Known ps → (d : CallFreeBody) → Known d → (i : ℕ) → Known (or_plain d (slice_get ps i))
  known_at [] h d k i = k
  known_at (p ∷ ps) h d k zero = h.0
  known_at (p ∷ ps) h d k (suc i) = known_at ps h.1 d k i

  plain_known : (d : CallFreeBody) → Known d → (o : Option Chosen) → Known (plain_of bodies d o)
  plain_known d k None = k
  plain_known d k (Some y) = known_at bodies all_bodies_known d k y.number

  children_known : (m : ℕ) → Known (p_apply all_children m p_done)
  children_known m = (patterns_of_children, tt)
    where
      patterns_of_children : IsCovered own_symbols (predicates_of x) all_children
      patterns_of_children = ((λ u. refl, tt, tt), tt)

  built_in_known : (m : ℕ) (l : Letter) → Known (built_in_at m l.kind)
  built_in_known m l = by l.kind
    where
      by : (k : Kind) → Known (built_in_at m k)
      by (of_symbol n) = children_known m
      by of_text = tt

  bodies_known : (k : CallFreeJob) → known_task (λ j q. IsCovered own_symbols (predicates_of x) q) (IsCovered own_symbols (predicates_of x)) k → (q : State) (l : Letter)
      → Known (body_by own_symbols (predicates_of x) x.rules bodies k q l)
  bodies_known (in_mode m) n q l = plain_known (built_in_at m l.kind) (built_in_known m l) (chosen x.rules m (fits_below own_symbols (predicates_of x) q l))
  bodies_known (in_body p) n q l = n

  roots_known : (k : CallFreeJob) → known_task (λ j q. IsCovered own_symbols (predicates_of x) q) (IsCovered own_symbols (predicates_of x)) k → Known (body_of_root own_symbols (predicates_of x) x.rules bodies k)
  roots_known (in_mode m) n = plain_known (p_apply all_children m p_done) (children_known m) (chosen x.rules m (λ i r. fits r.pattern (top none)))
  roots_known (in_body p) n = n

  knows_at : (k : CallFreeJob) (c : Chain) → known_task (λ j q. IsCovered own_symbols (predicates_of x) q) (IsCovered own_symbols (predicates_of x)) k → Known (plain_at machine_of k c)
  knows_at k (top doc) n = roots_known k n
  knows_at k (under c t) n = bodies_known k n (above machine_of c) (letter_of own_symbols (predicates_of x) t)

  pub states_tell : IsMachineOf machine_of x.rules x.named
  states_tell = record {
    moves_tell = λ j p k c t ts. selects own_symbols (predicates_of x) p k c t ts ∙ move_tells j p (first_state p) t ts;
    looks_tell = λ p k c t ts. selects own_symbols (predicates_of x) p k c t ts ∙ look_tells p (first_state p) t ts;
    ruled = ruled;
    knows = λ k c n. knows_at k c n;
  }

  pub states_steady : IsSteady machine_of
  states_steady = record {
    first_task = λ j p k. refl;
    step_task = λ s l. refl;
    move_from = λ j p k n. n;
    move_on = λ s t i. i;
    look_from = λ p k. tt;
    look_on = λ s t i. tt;
    above_from = tt;
    above_on = λ q t i. tt;
    bodies = λ s q t i k. bodies_known s.task i q (letter_of own_symbols (predicates_of x) t);
  }
