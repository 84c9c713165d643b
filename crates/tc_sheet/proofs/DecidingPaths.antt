-- The steps, predicates, selects and tests at the front of any tokens: each is read, or none stands there.
use Rattle.std.proofs.Common.{◌≡◌, ◌⊎◌, inl, inr, ℕ, zero, suc, ◌<◌, ◌≤◌, Bool, true, false, ◌||◌, List, ◌∷◌, refl, ap, sym, subst, length, arith, codes}
use Rattle.std.proofs.lemmas.Bool.{true≢false}
use Rattle.tc_model.specs.RawTrees.{Bound}
use Rattle.tc_model.specs.Sheets.{NodeTest, Steps, no_step, step, Path, no_alternative, Test, always, never, has, negated, Tests, no_test, test}
use Rattle.tc_model.specs.PathTextTokens.{slash, slashes, bar, open_parenthesis, close_parenthesis, open_bracket, close_bracket, dot, Token, mark}
use Rattle.tc_model.specs.PathTextPhrases.{word, ChildAt, AttributeAt, OtherNodeAt, Form, dropped, lengthened, form_with, conjunction, disjunction, alternative_before, is_dropped, StepsAt, attribute_step, last_step, child_step, descendant_step, PredicatesAt, no_predicate, predicate, AlternativeAt, from_children, from_descendants, other_node, SelectAt, last_alternative, one_alternative, PrimaryAt, a_path, a_negation, a_truth, a_falsehood, in_parentheses, AndAt, last_primary, one_primary, OrAt, last_conjunction, one_conjunction}
use Rattle.tc_model.proofs.PathTextUnique.{same_others, slash_is_not_slashes, child_unique, no_child_attribute, steps_open, no_path_dot, no_select_call, no_select_parenthesis, predicates_unique, alternative_unique, select_unique, primary_unique, and_unique, or_unique}
use Rattle.tc_sheet.proofs.DecidingNodeTests.{begins_mark, begins_word, begins_marks, begins_word_mark, begins_call, child_here, attribute_here, OtherNodeHere, other_node_here}

abbrev pub StepsHere : List Bound → Bool → List Token → Type 0
StepsHere scope deep ts = ((ss : Steps) × ((f : Form) × ((r : List Token) × (StepsAt scope deep ts ss f r × (length r < length ts))))) ⊎ ((ss : Steps) (f : Form) (r : List Token) → StepsAt scope deep ts ss f r → ⊥)

abbrev PredicatesHere : List Bound → List Token → Type 0
PredicatesHere scope ts = ((us : Tests) × ((r : List Token) × (PredicatesAt scope ts us r × (length r ≤ length ts)))) ⊎ ((us : Tests) (r : List Token) → PredicatesAt scope ts us r → ⊥)

abbrev AlternativeHere : List Bound → List Token → Type 0
AlternativeHere scope ts = ((ss : Steps) × ((f : Form) × ((r : List Token) × (AlternativeAt scope ts ss f r × (length r < length ts))))) ⊎ ((ss : Steps) (f : Form) (r : List Token) → AlternativeAt scope ts ss f r → ⊥)

abbrev pub SelectHere : List Bound → List Token → Type 0
SelectHere scope ts = ((q : Path) × ((d : Bool) × ((r : List Token) × (SelectAt scope ts q d r × (length r < length ts))))) ⊎ ((q : Path) (d : Bool) (r : List Token) → SelectAt scope ts q d r → ⊥)

abbrev PrimaryHere : List Bound → List Token → Type 0
PrimaryHere scope ts = ((t : Test) × ((r : List Token) × (PrimaryAt scope ts t r × (length r < length ts)))) ⊎ ((t : Test) (r : List Token) → PrimaryAt scope ts t r → ⊥)

abbrev AndHere : List Bound → List Token → Type 0
AndHere scope ts = ((us : Tests) × ((r : List Token) × (AndAt scope ts us r × (length r < length ts)))) ⊎ ((us : Tests) (r : List Token) → AndAt scope ts us r → ⊥)

abbrev pub OrHere : List Bound → List Token → Type 0
OrHere scope ts = ((us : Tests) × ((r : List Token) × (OrAt scope ts us r × (length r < length ts)))) ⊎ ((us : Tests) (r : List Token) → OrAt scope ts us r → ⊥)

-- what is known of fewer tokens
record Below (scope : List Bound) (n : ℕ) : Type 0 where
  steps : (deep : Bool) (ts : List Token) → length ts < n → StepsHere scope deep ts
  predicates : (ts : List Token) → length ts < n → PredicatesHere scope ts
  selects : (ts : List Token) → length ts < n → SelectHere scope ts
  ands : (ts : List Token) → length ts < n → AndHere scope ts
  ors : (ts : List Token) → length ts < n → OrHere scope ts

lower : {scope : List Bound} {m n : ℕ} → Below scope n → m ≤ n → Below scope m
lower b l = record {
  steps = λ deep ts h. b.steps deep ts (omega (arith, l, h));
  predicates = λ ts h. b.predicates ts (omega (arith, l, h));
  selects = λ ts h. b.selects ts (omega (arith, l, h));
  ands = λ ts h. b.ands ts (omega (arith, l, h));
  ors = λ ts h. b.ors ts (omega (arith, l, h));
}

-- steps
no_steps : (scope : List Bound) (deep : Bool) (ts : List Token) → ((r : List Token) → AttributeAt scope ts r → ⊥) → ((t : NodeTest) (r : List Token) → ChildAt scope ts t r → ⊥)
    → (ss : Steps) (f : Form) (r : List Token) → StepsAt scope deep ts ss f r → ⊥
no_steps scope deep ts h k ss f r (attribute_step a) = h r a
no_steps scope deep ts h k ss f r (last_step {rest = q} {t = t} a u i j) = k t q a
no_steps scope deep ts h k ss f r (child_step {rest = q} {t = t} a u s) = k t q a
no_steps scope deep ts h k ss f r (descendant_step {rest = q} {t = t} a u s) = k t q a

-- predicates behind the same node test
moved : {scope : List Bound} {ts r q s : List Token} {t v : NodeTest} {us : Tests} → ChildAt scope ts t r → ChildAt scope ts v q → PredicatesAt scope q us s → PredicatesAt scope r us s
moved {scope} {s = s} {us = us} a b u = subst (λ z. PredicatesAt scope z us s) (child_unique b a).1 u

no_predicates : (scope : List Bound) (deep : Bool) (ts : List Token) (t : NodeTest) (r : List Token) → ChildAt scope ts t r → ((us : Tests) (s : List Token) → PredicatesAt scope r us s → ⊥)
    → (ss : Steps) (f : Form) (s : List Token) → StepsAt scope deep ts ss f s → ⊥
no_predicates scope deep ts t r a g ss f s (attribute_step c) = no_child_attribute c a
no_predicates scope deep ts t r a g ss f s (last_step {us = us} c u i j) = g us s (moved a c u)
no_predicates scope deep ts t r a g ss f s (child_step {behind = z} {us = us} c u d) = g us (mark slash ∷ z) (moved a c u)
no_predicates scope deep ts t r a g ss f s (descendant_step {behind = z} {us = us} c u d) = g us (mark slashes ∷ z) (moved a c u)

no_child_steps : (scope : List Bound) (deep : Bool) (ts : List Token) (t : NodeTest) (r : List Token) → ChildAt scope ts t r → (us : Tests) (z : List Token) → PredicatesAt scope r us (mark slash ∷ z)
    → ((ss : Steps) (f : Form) (s : List Token) → StepsAt scope false z ss f s → ⊥) → (ss : Steps) (f : Form) (s : List Token) → StepsAt scope deep ts ss f s → ⊥
no_child_steps scope deep ts t r a us z u g ss f s (attribute_step c) = no_child_attribute c a
no_child_steps scope deep ts t r a us z u g ss f s (last_step c v i j) = i z (sym (predicates_unique scope u (moved a c v)).1)
no_child_steps scope deep ts t r a us z u g ss f s (child_step {ss = rs} {form = e} c v d) =
    g rs e s (subst (λ w. StepsAt scope false w rs e s) (same_others (predicates_unique scope (moved a c v) u).1) d)
no_child_steps scope deep ts t r a us z u g ss f s (descendant_step c v d) = slash_is_not_slashes (predicates_unique scope u (moved a c v)).1

no_descendant_steps : (scope : List Bound) (deep : Bool) (ts : List Token) (t : NodeTest) (r : List Token) → ChildAt scope ts t r → (us : Tests) (z : List Token) → PredicatesAt scope r us (mark slashes ∷ z)
    → ((ss : Steps) (f : Form) (s : List Token) → StepsAt scope true z ss f s → ⊥) → (ss : Steps) (f : Form) (s : List Token) → StepsAt scope deep ts ss f s → ⊥
no_descendant_steps scope deep ts t r a us z u g ss f s (attribute_step c) = no_child_attribute c a
no_descendant_steps scope deep ts t r a us z u g ss f s (last_step c v i j) = j z (sym (predicates_unique scope u (moved a c v)).1)
no_descendant_steps scope deep ts t r a us z u g ss f s (child_step c v d) = slash_is_not_slashes (predicates_unique scope (moved a c v) u).1
no_descendant_steps scope deep ts t r a us z u g ss f s (descendant_step {ss = rs} {form = e} c v d) =
    g rs e s (subst (λ w. StepsAt scope true w rs e s) (same_others (predicates_unique scope (moved a c v) u).1) d)

module _ (scope : List Bound) (deep : Bool) (ts : List Token) (b : Below scope (length ts)) (t : NodeTest) (r : List Token) (a : ChildAt scope ts t r) (l : length r < length ts) where
  behind_slash : (us : Tests) (z : List Token) → PredicatesAt scope r us (mark slash ∷ z) → length z < length ts → StepsHere scope false z → StepsHere scope deep ts
  behind_slash us z u m (inl (ss, (f, (s, (d, n))))) = inl (step deep t (conjunction us) ss, (lengthened f, (s, (child_step a u d, omega (arith, m, n)))))
  behind_slash us z u m (inr g) = inr (no_child_steps scope deep ts t r a us z u g)

  behind_slashes : (us : Tests) (z : List Token) → PredicatesAt scope r us (mark slashes ∷ z) → length z < length ts → StepsHere scope true z → StepsHere scope deep ts
  behind_slashes us z u m (inl (ss, (f, (s, (d, n))))) = inl (step deep t (conjunction us) ss, (lengthened f, (s, (descendant_step a u d, omega (arith, m, n)))))
  behind_slashes us z u m (inr g) = inr (no_descendant_steps scope deep ts t r a us z u g)

  behind_predicates : (us : Tests) (q : List Token) → PredicatesAt scope r us q → length q ≤ length r → StepsHere scope deep ts
  behind_predicates us q u m = elim (begins_mark slash q) [
    | inl (z, e) ↦ let n : length z < length ts = omega (arith, l, m, ap length e) in behind_slash us z (subst (PredicatesAt scope r us) e u) n (b.steps false z n)
    | inr i ↦ elim (begins_mark slashes q) [
      | inl (z, e) ↦ let n : length z < length ts = omega (arith, l, m, ap length e) in behind_slashes us z (subst (PredicatesAt scope r us) e u) n (b.steps true z n)
      | inr j ↦ inl (step deep t (conjunction us) no_step, (form_with us, (q, (last_step a u i j, omega (arith, l, m)))))
    ]
  ]

  behind_child : PredicatesHere scope r → StepsHere scope deep ts
  behind_child (inl (us, (q, (u, m)))) = behind_predicates us q u m
  behind_child (inr g) = inr (no_predicates scope deep ts t r a g)

steps_step : (scope : List Bound) (deep : Bool) (ts : List Token) → Below scope (length ts) → StepsHere scope deep ts
steps_step scope deep ts b = elim (attribute_here scope ts) [
  | inl (r, (a, l)) ↦ inl (no_step, (dropped, (r, (attribute_step a, l))))
  | inr h ↦ elim (child_here scope ts) [
    | inl (t, (r, (a, l))) ↦ behind_child scope deep ts b t r a l (b.predicates r l)
    | inr k ↦ inr (no_steps scope deep ts h k)
  ]
]

-- predicates
no_inside : (scope : List Bound) (ts : List Token) → ((us : Tests) (z : List Token) → OrAt scope ts us (mark close_bracket ∷ z) → ⊥) → (us : Tests) (r : List Token) → PredicatesAt scope (mark open_bracket ∷ ts) us r → ⊥
no_inside scope ts h us r (no_predicate i) = i ts refl
no_inside scope ts h us r (predicate {rest = z} {us = vs} o p) = h vs z o

no_others : (scope : List Bound) (ts : List Token) (us : Tests) (z : List Token) → OrAt scope ts us (mark close_bracket ∷ z) → ((vs : Tests) (r : List Token) → PredicatesAt scope z vs r → ⊥)
    → (vs : Tests) (r : List Token) → PredicatesAt scope (mark open_bracket ∷ ts) vs r → ⊥
no_others scope ts us z o h vs r (no_predicate i) = i ts refl
no_others scope ts us z o h vs r (predicate {vs = ws} c p) = h ws r (subst (λ w. PredicatesAt scope w ws r) (same_others (or_unique scope c o).1) p)

behind_bracket : (scope : List Bound) (ts : List Token) (us : Tests) (z : List Token) → OrAt scope ts us (mark close_bracket ∷ z) → length z < length ts → PredicatesHere scope z → PredicatesHere scope (mark open_bracket ∷ ts)
behind_bracket scope ts us z o l (inl (vs, (r, (p, m)))) = inl (test (disjunction us) vs, (r, (predicate o p, omega (arith, l, m))))
behind_bracket scope ts us z o l (inr h) = inr (no_others scope ts us z o h)

bracket_here : (scope : List Bound) (ts : List Token) → Below scope (suc (length ts)) → OrHere scope ts → PredicatesHere scope (mark open_bracket ∷ ts)
bracket_here scope ts b (inr h) = inr (no_inside scope ts (λ us z o. h us (mark close_bracket ∷ z) o))
bracket_here scope ts b (inl (us, (q, (o, l)))) = elim (begins_mark close_bracket q) [
  | inr h ↦ inr (no_inside scope ts (λ vs z c. h z (or_unique scope o c).1))
  | inl (z, e) ↦ let m : length z < length ts = omega (arith, l, ap length e) in behind_bracket scope ts us z (subst (OrAt scope ts us) e o) m (b.predicates z (omega (arith, m)))
]

predicates_step : (scope : List Bound) (ts : List Token) → Below scope (length ts) → PredicatesHere scope ts
predicates_step scope ts b = elim (begins_mark open_bracket ts) [
  | inr h ↦ inl (no_test, (ts, (no_predicate h, omega arith)))
  | inl (r, e) ↦ subst (PredicatesHere scope) (sym e) (bracket_here scope r (lower b (omega (arith, ap length e))) (b.ors r (omega (arith, ap length e))))
]

-- an alternative of a select
no_from_dot : (scope : List Bound) (ts : List Token) → ((ss : Steps) (f : Form) (r : List Token) → StepsAt scope true ts ss f r → ⊥)
    → (ss : Steps) (f : Form) (r : List Token) → AlternativeAt scope (mark dot ∷ mark slashes ∷ ts) ss f r → ⊥
no_from_dot scope ts h ss f r (from_children a) = no_path_dot (steps_open a)
no_from_dot scope ts h ss f r (from_descendants a) = h ss f r a
no_from_dot scope ts h ss f r (other_node a) = elim a [ ]

from_dot : (scope : List Bound) (ts : List Token) → StepsHere scope true ts → AlternativeHere scope (mark dot ∷ mark slashes ∷ ts)
from_dot scope ts (inl (ss, (f, (r, (a, l))))) = inl (ss, (f, (r, (from_descendants a, omega (arith, l)))))
from_dot scope ts (inr h) = inr (no_from_dot scope ts h)

no_alternative_here : (scope : List Bound) (ts : List Token) → ((r : List Token) → ts ≡ mark dot ∷ mark slashes ∷ r → ⊥) → ((ss : Steps) (f : Form) (r : List Token) → StepsAt scope false ts ss f r → ⊥)
    → ((r : List Token) → OtherNodeAt ts r → ⊥) → (ss : Steps) (f : Form) (r : List Token) → AlternativeAt scope ts ss f r → ⊥
no_alternative_here scope ts h g k ss f r (from_children a) = g ss f r a
no_alternative_here scope ts h g k ss f r (from_descendants {ts = z} a) = h z refl
no_alternative_here scope ts h g k ss f r (other_node a) = k r a

without_dot : (scope : List Bound) (ts : List Token) → ((r : List Token) → ts ≡ mark dot ∷ mark slashes ∷ r → ⊥) → StepsHere scope false ts → OtherNodeHere ts → AlternativeHere scope ts
without_dot scope ts h (inl (ss, (f, (r, (a, l))))) k = inl (ss, (f, (r, (from_children a, l))))
without_dot scope ts h (inr g) (inl (r, (a, l))) = inl (no_step, (dropped, (r, (other_node a, l))))
without_dot scope ts h (inr g) (inr k) = inr (no_alternative_here scope ts h g k)

alternative_step : (scope : List Bound) (ts : List Token) → Below scope (length ts) → AlternativeHere scope ts
alternative_step scope ts b = elim (begins_marks dot slashes ts) [
  | inl (r, e) ↦ subst (AlternativeHere scope) (sym e) (from_dot scope r (b.steps true r (omega (arith, ap length e))))
  | inr h ↦ without_dot scope ts h (steps_step scope false ts b) (other_node_here ts)
]

-- a select
no_first : (scope : List Bound) (ts : List Token) → ((ss : Steps) (f : Form) (r : List Token) → AlternativeAt scope ts ss f r → ⊥) → (q : Path) (d : Bool) (r : List Token) → SelectAt scope ts q d r → ⊥
no_first scope ts h q d r (last_alternative {ss = ss} {form = f} a i) = h ss f r a
no_first scope ts h q d r (one_alternative {rest = z} {ss = ss} {form = f} a c) = h ss f (mark bar ∷ z) a

no_further : (scope : List Bound) (ts : List Token) (ss : Steps) (f : Form) (z : List Token) → AlternativeAt scope ts ss f (mark bar ∷ z) → ((q : Path) (d : Bool) (r : List Token) → SelectAt scope z q d r → ⊥)
    → (q : Path) (d : Bool) (r : List Token) → SelectAt scope ts q d r → ⊥
no_further scope ts ss f z a h q d r (last_alternative b i) = let one = alternative_unique scope a b in i z (sym one.same_after)
no_further scope ts ss f z a h q d r (one_alternative {p = v} {drops = e} b c) =
    let one = alternative_unique scope b a in h v e r (subst (λ w. SelectAt scope w v e r) (same_others one.same_after) c)

behind_bar : (scope : List Bound) (ts : List Token) (ss : Steps) (f : Form) (z : List Token) → AlternativeAt scope ts ss f (mark bar ∷ z) → length z < length ts → SelectHere scope z → SelectHere scope ts
behind_bar scope ts ss f z a l (inl (q, (d, (r, (c, m))))) = inl (alternative_before f ss q, (is_dropped f || d, (r, (one_alternative a c, omega (arith, l, m)))))
behind_bar scope ts ss f z a l (inr h) = inr (no_further scope ts ss f z a h)

select_by : (scope : List Bound) (ts : List Token) → Below scope (length ts) → AlternativeHere scope ts → SelectHere scope ts
select_by scope ts b (inr h) = inr (no_first scope ts h)
select_by scope ts b (inl (ss, (f, (q, (a, l))))) = elim (begins_mark bar q) [
  | inr i ↦ inl (alternative_before f ss no_alternative, (is_dropped f, (q, (last_alternative a i, l))))
  | inl (z, e) ↦ let m : length z < length ts = omega (arith, l, ap length e) in behind_bar scope ts ss f z (subst (AlternativeAt scope ts ss f) e a) m (b.selects z m)
]

select_step : (scope : List Bound) (ts : List Token) → Below scope (length ts) → SelectHere scope ts
select_step scope ts b = select_by scope ts b (alternative_step scope ts b)

-- what `and` joins
no_parentheses : (scope : List Bound) (ts : List Token) → ((us : Tests) (z : List Token) → OrAt scope ts us (mark close_parenthesis ∷ z) → ⊥) → (t : Test) (r : List Token) → PrimaryAt scope (mark open_parenthesis ∷ ts) t r → ⊥
no_parentheses scope ts h t r (a_path a) = no_select_parenthesis a
no_parentheses scope ts h t r (in_parentheses {us = us} o) = h us r o

parentheses_here : (scope : List Bound) (ts : List Token) → OrHere scope ts → PrimaryHere scope (mark open_parenthesis ∷ ts)
parentheses_here scope ts (inr h) = inr (no_parentheses scope ts (λ us z o. h us (mark close_parenthesis ∷ z) o))
parentheses_here scope ts (inl (us, (q, (o, l)))) = elim (begins_mark close_parenthesis q) [
  | inl (z, e) ↦ inl (disjunction us, (z, (in_parentheses (subst (OrAt scope ts us) e o), omega (arith, l, ap length e))))
  | inr h ↦ inr (no_parentheses scope ts (λ vs z c. h z (or_unique scope o c).1))
]

no_negation : (scope : List Bound) (ts : List Token) → ((us : Tests) (z : List Token) → OrAt scope ts us (mark close_parenthesis ∷ z) → ⊥)
    → (t : Test) (r : List Token) → PrimaryAt scope (word (codes "not") ∷ mark open_parenthesis ∷ ts) t r → ⊥
no_negation scope ts h t r (a_path a) = no_select_call refl a
no_negation scope ts h t r (a_negation {us = us} o) = h us r o

negation_here : (scope : List Bound) (ts : List Token) → OrHere scope ts → PrimaryHere scope (word (codes "not") ∷ mark open_parenthesis ∷ ts)
negation_here scope ts (inr h) = inr (no_negation scope ts (λ us z o. h us (mark close_parenthesis ∷ z) o))
negation_here scope ts (inl (us, (q, (o, l)))) = elim (begins_mark close_parenthesis q) [
  | inl (z, e) ↦ inl (negated (disjunction us), (z, (a_negation (subst (OrAt scope ts us) e o), omega (arith, l, ap length e))))
  | inr h ↦ inr (no_negation scope ts (λ vs z c. h z (or_unique scope o c).1))
]

-- none of the others stands there
record NoOther (ts : List Token) : Type 0 where
  no_open : (r : List Token) → ts ≡ mark open_parenthesis ∷ r → ⊥
  no_not : (r : List Token) → ts ≡ word (codes "not") ∷ mark open_parenthesis ∷ r → ⊥
  no_true : (r : List Token) → ts ≡ word (codes "true") ∷ mark open_parenthesis ∷ mark close_parenthesis ∷ r → ⊥
  no_false : (r : List Token) → ts ≡ word (codes "false") ∷ mark open_parenthesis ∷ mark close_parenthesis ∷ r → ⊥

no_primary : (scope : List Bound) (ts : List Token) → NoOther ts → ((q : Path) (r : List Token) → SelectAt scope ts q false r → ⊥) → (t : Test) (r : List Token) → PrimaryAt scope ts t r → ⊥
no_primary scope ts n h t r (a_path {p = q} a) = h q r a
no_primary scope ts n h t r (a_negation {ts = z} o) = n.no_not z refl
no_primary scope ts n h t r a_truth = n.no_true r refl
no_primary scope ts n h t r a_falsehood = n.no_false r refl
no_primary scope ts n h t r (in_parentheses {ts = z} o) = n.no_open z refl

select_primary : (scope : List Bound) (ts : List Token) → NoOther ts → SelectHere scope ts → PrimaryHere scope ts
select_primary scope ts n (inl (q, (false, (r, (a, l))))) = inl (has q, (r, (a_path a, l)))
select_primary scope ts n (inl (q, (true, (r, (a, l))))) = inr (no_primary scope ts n (λ p s c. true≢false (select_unique scope a c).1))
select_primary scope ts n (inr h) = inr (no_primary scope ts n (λ p s c. h p false s c))

primary_step : (scope : List Bound) (ts : List Token) → Below scope (length ts) → PrimaryHere scope ts
primary_step scope ts b = elim (begins_mark open_parenthesis ts) [
  | inl (r, e) ↦ subst (PrimaryHere scope) (sym e) (parentheses_here scope r (b.ors r (omega (arith, ap length e))))
  | inr h ↦ elim (begins_word_mark (codes "not") open_parenthesis ts) [
    | inl (r, e) ↦ subst (PrimaryHere scope) (sym e) (negation_here scope r (b.ors r (omega (arith, ap length e))))
    | inr k ↦ elim (begins_call (codes "true") ts) [
      | inl (r, e) ↦ inl (always, (r, (subst (λ z. PrimaryAt scope z always r) (sym e) a_truth, omega (arith, ap length e))))
      | inr i ↦ elim (begins_call (codes "false") ts) [
        | inl (r, e) ↦ inl (never, (r, (subst (λ z. PrimaryAt scope z never r) (sym e) a_falsehood, omega (arith, ap length e))))
        | inr j ↦ select_primary scope ts (record { no_open = h; no_not = k; no_true = i; no_false = j }) (select_step scope ts b)
      ]
    ]
  ]
]

-- primaries joined by `and`
no_first_primary : (scope : List Bound) (ts : List Token) → ((t : Test) (r : List Token) → PrimaryAt scope ts t r → ⊥) → (us : Tests) (r : List Token) → AndAt scope ts us r → ⊥
no_first_primary scope ts h us r (last_primary {t = t} a i) = h t r a
no_first_primary scope ts h us r (one_primary {rest = z} {t = t} a c) = h t (word (codes "and") ∷ z) a

no_further_primary : (scope : List Bound) (ts : List Token) (t : Test) (z : List Token) → PrimaryAt scope ts t (word (codes "and") ∷ z) → ((us : Tests) (r : List Token) → AndAt scope z us r → ⊥)
    → (us : Tests) (r : List Token) → AndAt scope ts us r → ⊥
no_further_primary scope ts t z a h us r (last_primary b i) = i z (sym (primary_unique scope a b).1)
no_further_primary scope ts t z a h us r (one_primary {us = vs} b c) = h vs r (subst (λ w. AndAt scope w vs r) (same_others (primary_unique scope b a).1) c)

behind_and : (scope : List Bound) (ts : List Token) (t : Test) (z : List Token) → PrimaryAt scope ts t (word (codes "and") ∷ z) → length z < length ts → AndHere scope z → AndHere scope ts
behind_and scope ts t z a l (inl (us, (r, (c, m)))) = inl (test t us, (r, (one_primary a c, omega (arith, l, m))))
behind_and scope ts t z a l (inr h) = inr (no_further_primary scope ts t z a h)

and_by : (scope : List Bound) (ts : List Token) → Below scope (length ts) → PrimaryHere scope ts → AndHere scope ts
and_by scope ts b (inr h) = inr (no_first_primary scope ts h)
and_by scope ts b (inl (t, (q, (a, l)))) = elim (begins_word (codes "and") q) [
  | inr i ↦ inl (test t no_test, (q, (last_primary a i, l)))
  | inl (z, e) ↦ let m : length z < length ts = omega (arith, l, ap length e) in behind_and scope ts t z (subst (PrimaryAt scope ts t) e a) m (b.ands z m)
]

-- conjunctions joined by `or`
no_first_conjunction : (scope : List Bound) (ts : List Token) → ((us : Tests) (r : List Token) → AndAt scope ts us r → ⊥) → (us : Tests) (r : List Token) → OrAt scope ts us r → ⊥
no_first_conjunction scope ts h us r (last_conjunction {us = vs} a i) = h vs r a
no_first_conjunction scope ts h us r (one_conjunction {rest = z} {us = vs} a c) = h vs (word (codes "or") ∷ z) a

no_further_conjunction : (scope : List Bound) (ts : List Token) (us : Tests) (z : List Token) → AndAt scope ts us (word (codes "or") ∷ z) → ((vs : Tests) (r : List Token) → OrAt scope z vs r → ⊥)
    → (vs : Tests) (r : List Token) → OrAt scope ts vs r → ⊥
no_further_conjunction scope ts us z a h vs r (last_conjunction b i) = i z (sym (and_unique scope a b).1)
no_further_conjunction scope ts us z a h vs r (one_conjunction {vs = ws} b c) = h ws r (subst (λ w. OrAt scope w ws r) (same_others (and_unique scope b a).1) c)

behind_or : (scope : List Bound) (ts : List Token) (us : Tests) (z : List Token) → AndAt scope ts us (word (codes "or") ∷ z) → length z < length ts → OrHere scope z → OrHere scope ts
behind_or scope ts us z a l (inl (vs, (r, (c, m)))) = inl (test (conjunction us) vs, (r, (one_conjunction a c, omega (arith, l, m))))
behind_or scope ts us z a l (inr h) = inr (no_further_conjunction scope ts us z a h)

or_by : (scope : List Bound) (ts : List Token) → Below scope (length ts) → AndHere scope ts → OrHere scope ts
or_by scope ts b (inr h) = inr (no_first_conjunction scope ts h)
or_by scope ts b (inl (us, (q, (a, l)))) = elim (begins_word (codes "or") q) [
  | inr i ↦ inl (test (conjunction us) no_test, (q, (last_conjunction a i, l)))
  | inl (z, e) ↦ let m : length z < length ts = omega (arith, l, ap length e) in behind_or scope ts us z (subst (AndAt scope ts us) e a) m (b.ors z m)
]

and_step : (scope : List Bound) (ts : List Token) → Below scope (length ts) → AndHere scope ts
and_step scope ts b = and_by scope ts b (primary_step scope ts b)

or_step : (scope : List Bound) (ts : List Token) → Below scope (length ts) → OrHere scope ts
or_step scope ts b = or_by scope ts b (and_step scope ts b)

-- of any tokens
level : (scope : List Bound) (n : ℕ) → Below scope n
level scope zero = record {
  steps = λ deep ts l. absurd (omega (arith, l));
  predicates = λ ts l. absurd (omega (arith, l));
  selects = λ ts l. absurd (omega (arith, l));
  ands = λ ts l. absurd (omega (arith, l));
  ors = λ ts l. absurd (omega (arith, l));
}
level scope (suc n) =
    let below = level scope n in
    record {
      steps = λ deep ts l. steps_step scope deep ts (lower below (omega (arith, l)));
      predicates = λ ts l. predicates_step scope ts (lower below (omega (arith, l)));
      selects = λ ts l. select_step scope ts (lower below (omega (arith, l)));
      ands = λ ts l. and_step scope ts (lower below (omega (arith, l)));
      ors = λ ts l. or_step scope ts (lower below (omega (arith, l)));
    }

pub steps_here : (scope : List Bound) (deep : Bool) (ts : List Token) → StepsHere scope deep ts
steps_here scope deep ts = steps_step scope deep ts (level scope (length ts))

pub select_here : (scope : List Bound) (ts : List Token) → SelectHere scope ts
select_here scope ts = select_step scope ts (level scope (length ts))

pub or_here : (scope : List Bound) (ts : List Token) → OrHere scope ts
or_here scope ts = or_step scope ts (level scope (length ts))
