-- On every node, each job of a well-formed stylesheet puts something out, so that each document has one result.
use Rattle.std.proofs.Common.{◌≡◌, ℕ, List, [], ◌∷◌, ◌++◌, refl, ap, ◌∙◌, subst, Bool}
use Rattle.tc_model.specs.Trees.{Trees, none, normal_form}
use Rattle.tc_model.specs.Chains.{Tree, Chain, top, under, node_of, down}
use Rattle.tc_model.specs.Sheets.{Test, always, never, has, negated, all_of, any_of, Tests, no_test, test, Sheet, CallFreeBody, p_done, p_text, p_element, p_copy, p_apply, p_call, p_value, p_self, p_choose, p_each, CallFreeBranches, p_otherwise, p_branch, Inlines}
use Rattle.tc_model.specs.Outcomes.{Outcome, counted}
use Rattle.tc_model.specs.Paths.{any_along}
use Rattle.tc_model.specs.Meaning.{Job, by_mode, by_body, built_in, body_or, body_of}
use Rattle.tc_model.specs.Machine.{CallFreeJob, in_mode, in_body, JobInlines, u_mode, u_body, known_test, known_tests, known, known_branches, Machine, move_picks, look_picks, above, does_at, plain_at, IsMachineOf, IsSteady}
use Rattle.tc_model.specs.WellFormed.{IsSheet}
use Rattle.tc_model.specs.Safety.{Instantiates, IsResultOf}
use Rattle.tc_model.specs.Laws.{IsJob}
use Rattle.tc_model.proofs.TotalAbove.{any_above}
use Rattle.tc_model.proofs.TotalUnfolds.{body_unfolds, mode_unfolds, rule_above}
use Rattle.tc_model.proofs.TotalExact.{does_complete}
use Rattle.tc_model.proofs.Unique.{result_unique}

module _ (s : Sheet) (is : IsSheet s) where
  abbrev plain_on : CallFreeJob → Chain → CallFreeBody
  plain_on (in_mode m) c = (mode_unfolds s is m c).0
  plain_on (in_body p) c = p

  -- its letters are whole trees, and its states are chains, and which trees below are selected
  abbrev pub chains : Machine
  chains =
      record {
        Letter = Tree;
        letter = λ t. t;
        Move = CallFreeJob × (List Tree → Bool);
        KnownMove = λ j p. Unit {0};
        move_first = λ j p. (j, λ ts. any_along p (top none) ts);
        move_step = λ q t. (q.0, λ ts. q.1 (t ∷ ts));
        move_hits = λ q t. q.1 (t ∷ []);
        task_of = λ q. q.0;
        IsMove = λ q. Unit {0};
        Look = List Tree → Bool;
        KnownLook = λ p. Unit {0};
        look_first = λ p ts. any_along p (top none) ts;
        look_step = λ q t ts. q (t ∷ ts);
        look_hits = λ q t. q (t ∷ []);
        IsLook = λ q. Unit {0};
        Above = Chain;
        start = top none;
        down_to = λ c t. under c t;
        IsAbove = λ c. Unit {0};
        body_at = λ j c t. plain_on j (under c t);
        root_body = λ j. plain_on j (top none);
      }

  move_so : (j : CallFreeJob) (q : List Tree → Bool) (t : Tree) (ts : List Tree) → q (t ∷ ts) ≡ move_picks chains (j, q) (t ∷ ts)
  move_so j q t [] = refl
  move_so j q t (u ∷ us) = move_so j (λ vs. q (t ∷ vs)) u us

  look_so : (q : List Tree → Bool) (t : Tree) (ts : List Tree) → q (t ∷ ts) ≡ look_picks chains q (t ∷ ts)
  look_so q t [] = refl
  look_so q t (u ∷ us) = look_so (λ vs. q (t ∷ vs)) u us

  down_above : (c : Chain) → down (above chains c) ≡ down c
  down_above (top doc) = refl
  down_above (under c t) = ap (λ ts. ts ++ (t ∷ [])) (down_above c)

  same_body : (m : ℕ) (c d : Chain) → down c ≡ down d → built_in m (node_of c) ≡ built_in m (node_of d) → body_of s.rules (by_mode m) c ≡ body_of s.rules (by_mode m) d
  same_body m c d e f = λ i. body_or (f i) (rule_above s.rules m c d e i)

  mode_so : (m : ℕ) (c d : Chain) → down c ≡ down d → built_in m (node_of c) ≡ built_in m (node_of d) → Inlines s.named (body_of s.rules (by_mode m) d) (mode_unfolds s is m c).0
  mode_so m c d e f = subst (λ b. Inlines s.named b (mode_unfolds s is m c).0) (same_body m c d e f) (mode_unfolds s is m c).1

  ruled : (j : Job) (k : CallFreeJob) (c : Chain) → JobInlines s.named j k → Inlines s.named (body_of s.rules j c) (plain_at chains k c)
  ruled j k (top doc) (u_mode {m}) = mode_so m (top none) (top doc) refl refl
  ruled j k (under c t) (u_mode {m}) = mode_so m (under (above chains c) t) (under c t) (ap (λ ts. ts ++ (t ∷ [])) (down_above c)) refl
  ruled j k (top doc) (u_body u) = u
  ruled j k (under c t) (u_body u) = u

  mutual
    test_known : (t : Test) → known_test chains.KnownMove chains.KnownLook t
    test_known always = tt
    test_known never = tt
    test_known (has p) = tt
    test_known (negated t) = test_known t
    test_known (all_of ts) = tests_known ts
    test_known (any_of ts) = tests_known ts

    tests_known : (ts : Tests) → known_tests chains.KnownMove chains.KnownLook ts
    tests_known no_test = tt
    tests_known (test t ts) = (test_known t, tests_known ts)

  mutual
    all_known : (p : CallFreeBody) → known chains.KnownMove chains.KnownLook p
    all_known p_done = tt
    all_known (p_text x b) = all_known b
    all_known (p_element n inner b) = (all_known inner, all_known b)
    all_known (p_copy inner b) = (all_known inner, all_known b)
    all_known (p_apply p m b) = (tt, all_known b)
    all_known (p_call inner b) = (all_known inner, all_known b)
    all_known (p_value p b) = (tt, all_known b)
    all_known (p_self b) = all_known b
    all_known (p_choose x b) = (branches_known x, all_known b)
    all_known (p_each e p inner b) = (tt, all_known inner, all_known b)

    branches_known : (x : CallFreeBranches) → known_branches chains.KnownMove chains.KnownLook x
    branches_known (p_otherwise b) = all_known b
    branches_known (p_branch t b x) = (test_known t, all_known b, branches_known x)

  pub chains_tell : IsMachineOf chains s.rules s.named
  chains_tell =
      record {
        moves_tell = λ j p k c t ts. any_above p c (top none) (t ∷ ts) ∙ move_so j (λ us. any_along p (top none) us) t ts;
        looks_tell = λ p k c t ts. any_above p c (top none) (t ∷ ts) ∙ look_so (λ us. any_along p (top none) us) t ts;
        ruled = ruled;
        knows = λ k c n. all_known (plain_at chains k c);
      }

  pub chains_steady : IsSteady chains
  chains_steady =
      record {
        first_task = λ j p k. refl;
        step_task = λ q l. refl;
        move_from = λ j p k n. tt;
        move_on = λ q t i. tt;
        look_from = λ p k. tt;
        look_on = λ q t i. tt;
        above_from = tt;
        above_on = λ q t i. tt;
        bodies = λ q c t i k. all_known (chains.body_at (chains.task_of q) c t);
      }

  does_total : (j : Job) (k : CallFreeJob) → JobInlines s.named j k → (c : Chain) → (outcome : Outcome) × Instantiates s j c outcome
  does_total j k u c =
      let p = plain_at chains k c in
      (counted (does_at chains p c), (does_at chains p c, does_complete s.rules s.named chains chains_tell (body_of s.rules j c) p c (chains_tell.ruled j k c u) (all_known p), refl))

  pub instantiates_total : (j : Job) → IsJob s j → (c : Chain) → (outcome : Outcome) × Instantiates s j c outcome
  instantiates_total (by_mode m) i c = does_total (by_mode m) (in_mode m) u_mode c
  instantiates_total (by_body b) i c = let unfolded = body_unfolds s is b i in does_total (by_body b) (in_body unfolded.0) (u_body unfolded.1) c

  pub one_result : (doc : Trees) → (result : Trees) × IsResultOf s doc result × ((other : Trees) → IsResultOf s doc other → other ≡ result)
  one_result doc =
      let all = instantiates_total (by_mode 0) tt (top doc) in
      let so : IsResultOf s doc (normal_form all.0.out) = (all.0, all.1, refl) in
      (normal_form all.0.out, so, λ other o. result_unique s doc other (normal_form all.0.out) o so)
