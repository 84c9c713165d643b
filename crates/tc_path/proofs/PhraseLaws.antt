-- Alternatives, primaries, closed tests and single steps: what they are by what was found at the front.
use Rattle.std.proofs.Common.{◌≡◌, ◌==◌, Bool, true, false, List, [], ◌∷◌, refl, ap, ◌∙◌, sym, subst, length, arith, Result, Ok, Err, IfErr}
use Rattle.std.specs.Prelude.{codes, MatchResult}
use Rattle.std.specs.Result.{IsErrAnd}
use Rattle.std.specs.Borrow.{Bor}
use Rattle.std.proofs.lemmas.Bool.{true≢false, eqb-true, false_from_ne_true}
use Rattle.tc_model.specs.RawTrees.{Bound}
use Rattle.tc_model.specs.Sheets.{NodeTest, Steps, no_step, step, Path, Test, Tests, always, never, negated}
use Rattle.tc_model.specs.PathTextTokens.{Mark, dot, slashes, open_parenthesis, close_parenthesis, Token, mark}
use Rattle.tc_model.specs.PathTextPhrases as p
use Rattle.tc_model.specs.PathTextPhrases.{word, Lacks, ChildAt, AttributeAt, OtherNodeAt, Form, dropped, conjunction, disjunction, StepsAt, PredicatesAt, AlternativeAt, SelectAt, PrimaryAt, OrAt}
use Rattle.tc_model.specs.Views as seen
use Rattle.tc_model.specs.declared.sheet.Test.{Test as CodeTest}
use Rattle.tc_model.specs.declared.sheet.Test.TheVariants as code_tests
use Rattle.tc_model.proofs.ViewsPath.{see_not}
use Rattle.tc_model.proofs.PathTextUnique.{same_others, child_unique, steps_open, no_path_dot, no_select_call, no_select_parenthesis, select_unique, or_unique}
use Rattle.tc_path.specs.declared.PathFault.{PathFault}
use Rattle.tc_path.specs.declared.PathFault.TheVariants.{NoMemory}
use Rattle.tc_path.specs.Faults.{OrNoMemory}
use Rattle.tc_path.specs.Phrases.{is_lone, IsStepAt, a_step, ClosedAt}
use Rattle.tc_path.proofs.NodeTestLaws.{or_memory}

-- an error that is handed on
pub handed_on : {T : Type 0} {P Q : Type 0} (r : Result T PathFault) (x : PathFault) → IsErrAnd r (λ e. e ≡ x) → (P → Q) → OrNoMemory x P → IfErr r (λ e. OrNoMemory e Q)
handed_on (Ok v) x h f g = tt
handed_on {P = P} (Err e) x h f g = or_memory e f (subst (λ w. OrNoMemory w P) (sym h) g)

-- an error that is handed on, of what is read and of what is refused
pub passed_on : {T : Type 0} {P Q : Type 0} (R : T → Type 0) (r : Result T PathFault) (x : PathFault) → IsErrAnd r (λ e. e ≡ x) → (P → Q) → OrNoMemory x P → MatchResult r R (λ e. OrNoMemory e Q)
passed_on R (Ok v) x h f g = absurd h
passed_on {P = P} R (Err e) x h f g = or_memory e f (subst (λ w. OrNoMemory w P) (sym h) g)

-- want of memory says nothing of the tokens
pub out_of_memory : {T : Type 0} (R : T → Type 0) (Q : Type 0) (r : Result T PathFault) → IsErrAnd r (λ e. e ≡ NoMemory) → MatchResult r R (λ e. OrNoMemory e Q)
out_of_memory R Q (Ok v) h = absurd h
out_of_memory R Q (Err e) h = subst (λ w. OrNoMemory w Q) (sym h) tt

pub memory_passed_on : {T : Type 0} (R : T → Type 0) (Q : Type 0) (r : Result T PathFault) (x : PathFault) → IsErrAnd r (λ e. e ≡ x) → x ≡ NoMemory → MatchResult r R (λ e. OrNoMemory e Q)
memory_passed_on R Q (Ok v) x h g = absurd h
memory_passed_on R Q (Err e) x h g = subst (λ w. OrNoMemory w Q) (sym (h ∙ g)) tt

module _ (scope : List Bound) where
  -- alternatives
  pub other_alternative : {ts rest : List Token} → OtherNodeAt ts rest → AlternativeAt scope ts no_step dropped rest
  other_alternative a = p.AlternativeAt.other_node a

  pub descendant_alternative : {ts behind rest after : List Token} {ss : Steps} {f : Form} → ts ≡ mark dot ∷ behind → behind ≡ mark slashes ∷ rest → StepsAt scope true rest ss f after → AlternativeAt scope ts ss f after
  descendant_alternative {after = after} {ss = ss} {f = f} d e a =
      subst (λ w. AlternativeAt scope w ss f after) (sym (d ∙ ap (λ w. mark dot ∷ w) e)) (p.AlternativeAt.from_descendants a)

  no_alternative : {ts r : List Token} {ss : Steps} {f : Form} → ((r : List Token) → OtherNodeAt ts r → ⊥) → ((ss : Steps) (f : Form) (r : List Token) → StepsAt scope false ts ss f r → ⊥)
      → ((rest : List Token) (ss : Steps) (f : Form) (r : List Token) → ts ≡ mark dot ∷ mark slashes ∷ rest → StepsAt scope true rest ss f r → ⊥) → AlternativeAt scope ts ss f r → ⊥
  no_alternative {r = r} {ss = ss} {f = f} o s d (p.AlternativeAt.from_children a) = s ss f r a
  no_alternative {r = r} {ss = ss} {f = f} o s d (p.AlternativeAt.from_descendants {ts = rest} a) = d rest ss f r refl a
  no_alternative {r = r} o s d (p.AlternativeAt.other_node a) = o r a

  no_steps_dot : {deep : Bool} {ts behind r : List Token} {ss : Steps} {f : Form} → ts ≡ mark dot ∷ behind → StepsAt scope deep ts ss f r → ⊥
  no_steps_dot {deep} {r = r} {ss = ss} {f = f} e a = no_path_dot (steps_open (subst (λ w. StepsAt scope deep w ss f r) e a))

  pub no_child_alternative : {ts : List Token} → ((r : List Token) → OtherNodeAt ts r → ⊥) → Lacks (mark dot) ts → ((ss : Steps) (f : Form) (r : List Token) → StepsAt scope false ts ss f r → ⊥)
      → (ss : Steps) (f : Form) (r : List Token) → AlternativeAt scope ts ss f r → ⊥
  no_child_alternative o d s ss f r a = no_alternative o s (λ rest xs g q e b. d (mark slashes ∷ rest) e) a

  pub no_dot_alternative : {ts behind : List Token} → ((r : List Token) → OtherNodeAt ts r → ⊥) → ts ≡ mark dot ∷ behind → Lacks (mark slashes) behind → (ss : Steps) (f : Form) (r : List Token) → AlternativeAt scope ts ss f r → ⊥
  no_dot_alternative o e h ss f r a = no_alternative o (λ xs g q b. no_steps_dot e b) (λ rest xs g q d b. h rest (same_others (sym e ∙ d))) a

  pub no_descendant_alternative : {ts behind next : List Token} → ((r : List Token) → OtherNodeAt ts r → ⊥) → ts ≡ mark dot ∷ behind → behind ≡ mark slashes ∷ next
      → ((ss : Steps) (f : Form) (r : List Token) → StepsAt scope true next ss f r → ⊥) → (ss : Steps) (f : Form) (r : List Token) → AlternativeAt scope ts ss f r → ⊥
  no_descendant_alternative {next = next} o e d s ss f r a =
      no_alternative o (λ xs g q b. no_steps_dot e b)
      (λ rest xs g q k b. s xs g q (subst (λ w. StepsAt scope true w xs g q) (same_others (sym (same_others (sym e ∙ k)) ∙ d)) b)) a

  -- primaries
  pub truth_at : {ts rest : List Token} → ts ≡ word (codes "true") ∷ mark open_parenthesis ∷ mark close_parenthesis ∷ rest → PrimaryAt scope ts always rest
  truth_at {rest = rest} e = subst (λ w. PrimaryAt scope w always rest) (sym e) p.PrimaryAt.a_truth

  pub falsehood_at : {ts rest : List Token} → ts ≡ word (codes "false") ∷ mark open_parenthesis ∷ mark close_parenthesis ∷ rest → PrimaryAt scope ts never rest
  falsehood_at {rest = rest} e = subst (λ w. PrimaryAt scope w never rest) (sym e) p.PrimaryAt.a_falsehood

  pub parentheses_at : {ts inside after : List Token} {t : Test} → ts ≡ mark open_parenthesis ∷ inside → ClosedAt scope inside close_parenthesis t after → PrimaryAt scope ts t after
  parentheses_at {inside = inside} {after = after} {t = t} e a =
      subst (λ w. PrimaryAt scope w t after) (sym e) (subst (λ u. PrimaryAt scope (mark open_parenthesis ∷ inside) u after) (sym a.is_test) (p.PrimaryAt.in_parentheses a.inside))

  pub negation_at : {ts inside after : List Token} {t : CodeTest} (u : Bor CodeTest) → ts ≡ word (codes "not") ∷ mark open_parenthesis ∷ inside → ClosedAt scope inside close_parenthesis (seen.test t) after → u.now ≡ t
      → PrimaryAt scope ts (seen.test (code_tests.Not u)) after
  negation_at {ts} {inside} {after} u e a f =
      let is : seen.test (code_tests.Not u) ≡ negated (disjunction a.tests) = see_not u ∙ ap negated (ap seen.test f ∙ a.is_test) in
      subst (λ w. PrimaryAt scope w (seen.test (code_tests.Not u)) after) (sym e)
      (subst (λ x. PrimaryAt scope (word (codes "not") ∷ mark open_parenthesis ∷ inside) x after) (sym is) (p.PrimaryAt.a_negation a.inside))

  no_primary : {ts r : List Token} {t : Test} → ((r : List Token) → ts ≡ word (codes "true") ∷ mark open_parenthesis ∷ mark close_parenthesis ∷ r → ⊥)
      → ((r : List Token) → ts ≡ word (codes "false") ∷ mark open_parenthesis ∷ mark close_parenthesis ∷ r → ⊥) → Lacks (mark open_parenthesis) ts
      → ((r : List Token) → ts ≡ word (codes "not") ∷ mark open_parenthesis ∷ r → ⊥) → ((q : Path) (r : List Token) → SelectAt scope ts q false r → ⊥) → PrimaryAt scope ts t r → ⊥
  no_primary {r = r} a b c d s (p.PrimaryAt.a_path {p = q} x) = s q r x
  no_primary a b c d s (p.PrimaryAt.a_negation {ts = i} x) = d i refl
  no_primary {r = r} a b c d s p.PrimaryAt.a_truth = a r refl
  no_primary {r = r} a b c d s p.PrimaryAt.a_falsehood = b r refl
  no_primary a b c d s (p.PrimaryAt.in_parentheses {ts = i} x) = c i refl

  pub no_select_primary : {ts : List Token} → ((r : List Token) → ts ≡ word (codes "true") ∷ mark open_parenthesis ∷ mark close_parenthesis ∷ r → ⊥)
      → ((r : List Token) → ts ≡ word (codes "false") ∷ mark open_parenthesis ∷ mark close_parenthesis ∷ r → ⊥) → Lacks (mark open_parenthesis) ts
      → ((r : List Token) → ts ≡ word (codes "not") ∷ mark open_parenthesis ∷ r → ⊥) → ((q : Path) (b : Bool) (r : List Token) → SelectAt scope ts q b r → ⊥) → (t : Test) (r : List Token) → PrimaryAt scope ts t r → ⊥
  no_select_primary a b c d s t r x = no_primary a b c d (λ q z. s q false z) x

  pub no_dropped_primary : {ts rest : List Token} {path : Path} {drops : Bool} → ((r : List Token) → ts ≡ word (codes "true") ∷ mark open_parenthesis ∷ mark close_parenthesis ∷ r → ⊥)
      → ((r : List Token) → ts ≡ word (codes "false") ∷ mark open_parenthesis ∷ mark close_parenthesis ∷ r → ⊥) → Lacks (mark open_parenthesis) ts
      → ((r : List Token) → ts ≡ word (codes "not") ∷ mark open_parenthesis ∷ r → ⊥) → SelectAt scope ts path drops rest → drops ≡ true → (t : Test) (r : List Token) → PrimaryAt scope ts t r → ⊥
  no_dropped_primary a b c d s e t r x = no_primary a b c d (λ q z y. true≢false (sym e ∙ (select_unique scope s y).1)) x

  parenthesis_opens : {inside r : List Token} {t : Test} → PrimaryAt scope (mark open_parenthesis ∷ inside) t r → ClosedAt scope inside close_parenthesis t r
  parenthesis_opens (p.PrimaryAt.a_path a) = absurd (no_select_parenthesis a)
  parenthesis_opens (p.PrimaryAt.in_parentheses {us = us} a) = record { tests = us; inside = a; is_test = refl }

  pub no_parentheses : {ts inside : List Token} → ts ≡ mark open_parenthesis ∷ inside → ((t : Test) (r : List Token) → ClosedAt scope inside close_parenthesis t r → ⊥) → (t : Test) (r : List Token) → PrimaryAt scope ts t r → ⊥
  no_parentheses e h t r a = h t r (parenthesis_opens (subst (λ w. PrimaryAt scope w t r) e a))

  negation_opens : {inside r : List Token} {t : Test} → PrimaryAt scope (word (codes "not") ∷ mark open_parenthesis ∷ inside) t r → (u : Test) × ClosedAt scope inside close_parenthesis u r
  negation_opens (p.PrimaryAt.a_path a) = absurd (no_select_call refl a)
  negation_opens (p.PrimaryAt.a_negation {us = us} a) = (disjunction us, record { tests = us; inside = a; is_test = refl })

  pub no_negation : {ts inside : List Token} → ts ≡ word (codes "not") ∷ mark open_parenthesis ∷ inside → ((t : Test) (r : List Token) → ClosedAt scope inside close_parenthesis t r → ⊥) → (t : Test) (r : List Token)
      → PrimaryAt scope ts t r → ⊥
  no_negation e h t r a = let (u, b) = negation_opens (subst (λ w. PrimaryAt scope w t r) e a) in h u r b

  -- tests up to a mark
  pub never_closed : {ts : List Token} (close : Mark) → ((us : Tests) (r : List Token) → OrAt scope ts us r → ⊥) → (t : Test) (r : List Token) → ClosedAt scope ts close t r → ⊥
  never_closed close h t r a = h a.tests (mark close ∷ r) a.inside

  pub not_closed : {ts after : List Token} {us : Tests} (close : Mark) → OrAt scope ts us after → Lacks (mark close) after → (t : Test) (r : List Token) → ClosedAt scope ts close t r → ⊥
  not_closed close a h t r b = h r (or_unique scope a b.inside).1

  -- single steps
  pub no_child_step : {ts : List Token} {deep : Bool} → ((t : NodeTest) (r : List Token) → ChildAt scope ts t r → ⊥) → (ss : Steps) (b : Bool) (r : List Token) → IsStepAt scope deep ts ss b r → ⊥
  no_child_step h ss b r (a_step {rest = behind} {t = t} a u) = h t behind a

  lone_is : (found : List CodeTest) → (length found == 0) ≡ is_lone (seen.tests found)
  lone_is [] = refl
  lone_is (x ∷ xs) = false_from_ne_true (length (x ∷ xs) == 0) (λ e. absurd (omega (arith, eqb-true (length (x ∷ xs)) 0 e)))

  pub step_at : {ts behind rest : List Token} {t : NodeTest} {w : Test} {deep lone : Bool} (found tests : List CodeTest) → ChildAt scope ts t behind → PredicatesAt scope behind (seen.tests found) rest → tests ≡ found
      → w ≡ conjunction (seen.tests tests) → lone ≡ (length tests == 0) → IsStepAt scope deep ts (step deep t w no_step) lone rest
  step_at {ts} {rest = rest} {t = t} {w = w} {deep = deep} {lone = lone} found tests a u e f g =
      subst (λ b. IsStepAt scope deep ts (step deep t w no_step) b rest) (sym (g ∙ (ap (λ (x : List CodeTest). length x == 0) e ∙ lone_is found)))
      (subst (λ x. IsStepAt scope deep ts (step deep t x no_step) (is_lone (seen.tests found)) rest) (sym (f ∙ ap (λ x. conjunction (seen.tests x)) e)) (a_step a u))

  pub no_predicates : {ts behind : List Token} {t : NodeTest} {deep : Bool} → ChildAt scope ts t behind → ((us : Tests) (r : List Token) → PredicatesAt scope behind us r → ⊥) → (ss : Steps) (b : Bool) (r : List Token)
      → IsStepAt scope deep ts ss b r → ⊥
  no_predicates a h ss b r (a_step {us = us} c u) = h us r (subst (λ w. PredicatesAt scope w us r) (child_unique c a).1 u)
