-- Which texts are selects, selects of attributes alone, values, patterns and tests.
use Rattle.std.proofs.Common.{◌≡◌, ◌⊎◌, inl, inr, ℕ, ◌<◌, true, false, List, [], ◌∷◌, ◌++◌, refl, ap, ◌∙◌, sym, subst, length, arith, Option, None, Some}
use Rattle.std.proofs.lemmas.Bool.{true≢false, cases_lt}
use Rattle.tc_base.specs.declared.reasons.Why.{Why}
use Rattle.tc_model.specs.RawTrees.{Bound}
use Rattle.tc_model.specs.Sheets.{Steps, Path, Test, Tests, Body, no_instruction, value, value_of_self, root_pattern}
use Rattle.tc_model.specs.PathTextTokens.{slash, slashes, bar, dot, Token, mark, Tokens, most_open, deepest_nesting, IsTooDeep}
use Rattle.tc_model.specs.PathTextPhrases as p
use Rattle.tc_model.specs.PathTextPhrases.{Lacks, OtherNodeAt, Form, lone, longer, dropped, disjunction, StepsAt, SelectAt, AttributesAlternativeAt, attributes_of_children, attributes_of_descendants, AttributesAt, last_attributes, one_attributes, Alternative, priority_otherwise, default_priority, unless_dropped, EndsAlternative, at_end, at_bar, PatternAlternativeAt, root_alone, relative, from_root, below_root, PatternAt}
use Rattle.tc_model.specs.PathText.{Forms, IsSelect, IsAttributes, IsValue, of_self, of_path, IsTest, of_tests, IsPattern}
use Rattle.tc_model.proofs.PathTextLexing.{tokens_unique}
use Rattle.tc_model.proofs.PathTextUnique.{same_others, steps_open, no_path_dot, no_path_slash, no_path_slashes, steps_unique, alternative_unique, select_unique, or_unique, attributes_select, alternative_of_pattern_unique}
use Rattle.tc_path.specs.Contexts.{Context}
use Rattle.tc_path.specs.Faults.{Deep, Shallow}
use Rattle.tc_path.specs.Reasons.{first_reason}
use Rattle.tc_sheet.proofs.DecidingBytes.{Decided, SomeOrNone, none_some}
use Rattle.tc_sheet.proofs.DecidingNames.{by_length}
use Rattle.tc_sheet.proofs.DecidingTokens.{tokens_here}
use Rattle.tc_sheet.proofs.DecidingNodeTests.{begins_mark, begins_marks, OtherNodeHere, other_node_here}
use Rattle.tc_sheet.proofs.NameLaws.{attributes_alternative}
use Rattle.tc_sheet.proofs.DecidingPaths.{StepsHere, steps_here, SelectHere, select_here, OrHere, or_here}

more_than_nothing : {X : Type 0} {x : X} {xs : List X} → x ∷ xs ≡ [] → ⊥
more_than_nothing e = omega (arith, ap length e)

-- an alternative of attributes
lone_or_dropped : lone ≡ dropped → ⊥
lone_or_dropped e = cc

longer_or_dropped : longer ≡ dropped → ⊥
longer_or_dropped e = cc

abbrev AttributesAlternativeHere : List Bound → List Token → Type 0
AttributesAlternativeHere scope ts = ((r : List Token) × (AttributesAlternativeAt scope ts r × (length r < length ts))) ⊎ ((r : List Token) → AttributesAlternativeAt scope ts r → ⊥)

no_dotted : (scope : List Bound) (ts : List Token) → ((ss : Steps) (r : List Token) → StepsAt scope true ts ss dropped r → ⊥) → (r : List Token) → AttributesAlternativeAt scope (mark dot ∷ mark slashes ∷ ts) r → ⊥
no_dotted scope ts h r (attributes_of_children a) = no_path_dot (steps_open a)
no_dotted scope ts h r (attributes_of_descendants {ss = ss} a) = h ss r a

dotted_here : (scope : List Bound) (ts : List Token) → StepsHere scope true ts → AttributesAlternativeHere scope (mark dot ∷ mark slashes ∷ ts)
dotted_here scope ts (inl (ss, (dropped, (r, (a, l))))) = inl (r, (attributes_of_descendants a, omega (arith, l)))
dotted_here scope ts (inl (ss, (lone, (r, (a, l))))) = inr (no_dotted scope ts (λ rs s b. let one = steps_unique scope a b in lone_or_dropped one.same_form))
dotted_here scope ts (inl (ss, (longer, (r, (a, l))))) = inr (no_dotted scope ts (λ rs s b. let one = steps_unique scope a b in longer_or_dropped one.same_form))
dotted_here scope ts (inr h) = inr (no_dotted scope ts (λ rs s b. h rs dropped s b))

no_undotted : (scope : List Bound) (ts : List Token) → ((r : List Token) → ts ≡ mark dot ∷ mark slashes ∷ r → ⊥) → ((ss : Steps) (r : List Token) → StepsAt scope false ts ss dropped r → ⊥)
    → (r : List Token) → AttributesAlternativeAt scope ts r → ⊥
no_undotted scope ts h k r (attributes_of_children {ss = ss} a) = k ss r a
no_undotted scope ts h k r (attributes_of_descendants {ts = z} a) = h z refl

undotted_here : (scope : List Bound) (ts : List Token) → ((r : List Token) → ts ≡ mark dot ∷ mark slashes ∷ r → ⊥) → StepsHere scope false ts → AttributesAlternativeHere scope ts
undotted_here scope ts h (inl (ss, (dropped, (r, (a, l))))) = inl (r, (attributes_of_children a, l))
undotted_here scope ts h (inl (ss, (lone, (r, (a, l))))) = inr (no_undotted scope ts h (λ rs s b. let one = steps_unique scope a b in lone_or_dropped one.same_form))
undotted_here scope ts h (inl (ss, (longer, (r, (a, l))))) = inr (no_undotted scope ts h (λ rs s b. let one = steps_unique scope a b in longer_or_dropped one.same_form))
undotted_here scope ts h (inr k) = inr (no_undotted scope ts h (λ rs s b. k rs dropped s b))

attributes_alternative_here : (scope : List Bound) (ts : List Token) → AttributesAlternativeHere scope ts
attributes_alternative_here scope ts = elim (begins_marks dot slashes ts) [
  | inl (r, e) ↦ subst (AttributesAlternativeHere scope) (sym e) (dotted_here scope r (steps_here scope true r))
  | inr h ↦ undotted_here scope ts h (steps_here scope false ts)
]

attributes_end : {scope : List Bound} {ts r s : List Token} → AttributesAlternativeAt scope ts r → AttributesAlternativeAt scope ts s → r ≡ s
attributes_end {scope} a b = let one = alternative_unique scope (attributes_alternative a).1 (attributes_alternative b).1 in one.same_after

-- a select of attributes alone
abbrev AttributesHere : List Bound → List Token → Type 0
AttributesHere scope ts = ((r : List Token) × AttributesAt scope ts r) ⊎ ((r : List Token) → AttributesAt scope ts r → ⊥)

no_first_attributes : (scope : List Bound) (ts : List Token) → ((r : List Token) → AttributesAlternativeAt scope ts r → ⊥) → (r : List Token) → AttributesAt scope ts r → ⊥
no_first_attributes scope ts h r (last_attributes a i) = h r a
no_first_attributes scope ts h r (one_attributes {rest = z} a b) = h (mark bar ∷ z) a

no_further_attributes : (scope : List Bound) (ts z : List Token) → AttributesAlternativeAt scope ts (mark bar ∷ z) → ((r : List Token) → AttributesAt scope z r → ⊥) → (r : List Token) → AttributesAt scope ts r → ⊥
no_further_attributes scope ts z a h r (last_attributes b i) = i z (sym (attributes_end a b))
no_further_attributes scope ts z a h r (one_attributes b c) = h r (subst (λ w. AttributesAt scope w r) (same_others (attributes_end b a)) c)

attributes_here : (scope : List Bound) (ts : List Token) → AttributesHere scope ts
attributes_here scope = by_length (AttributesHere scope) step
  where
    behind : (ts z : List Token) → AttributesAlternativeAt scope ts (mark bar ∷ z) → AttributesHere scope z → AttributesHere scope ts
    behind ts z a (inl (r, b)) = inl (r, one_attributes a b)
    behind ts z a (inr h) = inr (no_further_attributes scope ts z a h)

    step : (ts : List Token) → ((us : List Token) → length us < length ts → AttributesHere scope us) → AttributesHere scope ts
    step ts ih = elim (attributes_alternative_here scope ts) [
      | inr h ↦ inr (no_first_attributes scope ts h)
      | inl (q, (a, l)) ↦ elim (begins_mark bar q) [
        | inr i ↦ inl (q, last_attributes a i)
        | inl (z, e) ↦ behind ts z (subst (AttributesAlternativeAt scope ts) e a) (ih z (omega (arith, l, ap length e)))
      ]
    ]

-- an alternative of a pattern
abbrev PatternAlternativeHere : List Bound → List Token → Type 0
PatternAlternativeHere scope ts = ((xs : List Alternative) × ((r : List Token) × (PatternAlternativeAt scope ts xs r × (length r < length ts)))) ⊎ ((xs : List Alternative) (r : List Token) → PatternAlternativeAt scope ts xs r → ⊥)

no_end : (t : Token) (ts : List Token) → Lacks (mark bar) (t ∷ ts) → EndsAlternative (t ∷ ts) → ⊥
no_end t ts h (at_bar {rest = r}) = h r refl

ends_here : (ts : List Token) → Decided (EndsAlternative ts)
ends_here [] = inl at_end
ends_here (t ∷ ts) = elim (begins_mark bar (t ∷ ts)) [ inl (r, e) ↦ inl (subst EndsAlternative (sym e) at_bar) | inr h ↦ inr (no_end t ts h) ]

no_slash : (scope : List Bound) (ts : List Token) → (EndsAlternative ts → ⊥) → ((ss : Steps) (f : Form) (r : List Token) → StepsAt scope false ts ss f r → ⊥)
    → (xs : List Alternative) (r : List Token) → PatternAlternativeAt scope (mark slash ∷ ts) xs r → ⊥
no_slash scope ts h g xs r (root_alone e) = h e
no_slash scope ts h g xs r (relative a) = no_path_slash (steps_open a)
no_slash scope ts h g xs r (from_root {ss = ss} {form = f} a) = g ss f r a
no_slash scope ts h g xs r (p.PatternAlternativeAt.other_node a) = elim a [ ]

slash_here : (scope : List Bound) (ts : List Token) → (EndsAlternative ts → ⊥) → StepsHere scope false ts → PatternAlternativeHere scope (mark slash ∷ ts)
slash_here scope ts h (inl (ss, (f, (r, (a, l))))) = inl (unless_dropped f ss priority_otherwise, (r, (from_root a, omega (arith, l))))
slash_here scope ts h (inr g) = inr (no_slash scope ts h g)

root_here : (scope : List Bound) (ts : List Token) → PatternAlternativeHere scope (mark slash ∷ ts)
root_here scope ts = elim (ends_here ts) [
  | inl e ↦ inl (record { pattern = root_pattern; priority = priority_otherwise } ∷ [], (ts, (root_alone e, omega arith)))
  | inr h ↦ slash_here scope ts h (steps_here scope false ts)
]

no_slashes : (scope : List Bound) (ts : List Token) → ((ss : Steps) (f : Form) (r : List Token) → StepsAt scope true ts ss f r → ⊥) → (xs : List Alternative) (r : List Token) → PatternAlternativeAt scope (mark slashes ∷ ts) xs r → ⊥
no_slashes scope ts g xs r (relative a) = no_path_slashes (steps_open a)
no_slashes scope ts g xs r (below_root {ss = ss} {form = f} a) = g ss f r a
no_slashes scope ts g xs r (p.PatternAlternativeAt.other_node a) = elim a [ ]

slashes_here : (scope : List Bound) (ts : List Token) → StepsHere scope true ts → PatternAlternativeHere scope (mark slashes ∷ ts)
slashes_here scope ts (inl (ss, (f, (r, (a, l))))) = inl (unless_dropped f ss priority_otherwise, (r, (below_root a, omega (arith, l))))
slashes_here scope ts (inr g) = inr (no_slashes scope ts g)

no_relative : (scope : List Bound) (ts : List Token) → Lacks (mark slash) ts → Lacks (mark slashes) ts → ((ss : Steps) (f : Form) (r : List Token) → StepsAt scope true ts ss f r → ⊥)
    → ((r : List Token) → OtherNodeAt ts r → ⊥) → (xs : List Alternative) (r : List Token) → PatternAlternativeAt scope ts xs r → ⊥
no_relative scope ts h k g i xs r (root_alone e) = h r refl
no_relative scope ts h k g i xs r (relative {ss = ss} {form = f} a) = g ss f r a
no_relative scope ts h k g i xs r (from_root {ts = z} a) = h z refl
no_relative scope ts h k g i xs r (below_root {ts = z} a) = k z refl
no_relative scope ts h k g i xs r (p.PatternAlternativeAt.other_node a) = i r a

relative_here : (scope : List Bound) (ts : List Token) → Lacks (mark slash) ts → Lacks (mark slashes) ts → StepsHere scope true ts → OtherNodeHere ts → PatternAlternativeHere scope ts
relative_here scope ts h k (inl (ss, (f, (r, (a, l))))) o = inl (unless_dropped f ss (default_priority f ss), (r, (relative a, l)))
relative_here scope ts h k (inr g) (inl (r, (a, l))) = inl ([], (r, (p.PatternAlternativeAt.other_node a, l)))
relative_here scope ts h k (inr g) (inr i) = inr (no_relative scope ts h k g i)

pattern_alternative_here : (scope : List Bound) (ts : List Token) → PatternAlternativeHere scope ts
pattern_alternative_here scope ts = elim (begins_mark slash ts) [
  | inl (r, e) ↦ subst (PatternAlternativeHere scope) (sym e) (root_here scope r)
  | inr h ↦ elim (begins_mark slashes ts) [
    | inl (r, e) ↦ subst (PatternAlternativeHere scope) (sym e) (slashes_here scope r (steps_here scope true r))
    | inr k ↦ relative_here scope ts h k (steps_here scope true ts) (other_node_here ts)
  ]
]

-- a pattern
no_first_pattern : (scope : List Bound) (ts : List Token) → ((xs : List Alternative) (r : List Token) → PatternAlternativeAt scope ts xs r → ⊥) → (xs : List Alternative) → PatternAt scope ts xs → ⊥
no_first_pattern scope ts h xs (p.PatternAt.last_alternative a) = h xs [] a
no_first_pattern scope ts h xs (p.PatternAt.one_alternative {rest = z} {alternatives = ys} a b) = h ys (mark bar ∷ z) a

no_bar_pattern : (scope : List Bound) (ts : List Token) (xs : List Alternative) (t : Token) (r : List Token) → PatternAlternativeAt scope ts xs (t ∷ r) → Lacks (mark bar) (t ∷ r) → (ys : List Alternative) → PatternAt scope ts ys → ⊥
no_bar_pattern scope ts xs t r a h ys (p.PatternAt.last_alternative b) = more_than_nothing (alternative_of_pattern_unique a b).1
no_bar_pattern scope ts xs t r a h ys (p.PatternAt.one_alternative {rest = z} b c) = h z (alternative_of_pattern_unique a b).1

no_further_pattern : (scope : List Bound) (ts : List Token) (xs : List Alternative) (z : List Token) → PatternAlternativeAt scope ts xs (mark bar ∷ z) → ((ys : List Alternative) → PatternAt scope z ys → ⊥)
    → (ys : List Alternative) → PatternAt scope ts ys → ⊥
no_further_pattern scope ts xs z a h ys (p.PatternAt.last_alternative b) = more_than_nothing (alternative_of_pattern_unique a b).1
no_further_pattern scope ts xs z a h ys (p.PatternAt.one_alternative {others = vs} b c) = h vs (subst (λ w. PatternAt scope w vs) (same_others (alternative_of_pattern_unique b a).1) c)

abbrev PatternHere : List Bound → List Token → Type 0
PatternHere scope ts = ((xs : List Alternative) × PatternAt scope ts xs) ⊎ ((xs : List Alternative) → PatternAt scope ts xs → ⊥)

pattern_here : (scope : List Bound) (ts : List Token) → PatternHere scope ts
pattern_here scope = by_length (PatternHere scope) step
  where
    further : (ts : List Token) (xs : List Alternative) (z : List Token) → PatternAlternativeAt scope ts xs (mark bar ∷ z) → PatternHere scope z → PatternHere scope ts
    further ts xs z a (inl (ys, b)) = inl (xs ++ ys, p.PatternAt.one_alternative a b)
    further ts xs z a (inr h) = inr (no_further_pattern scope ts xs z a h)

    behind : (ts : List Token) → ((us : List Token) → length us < length ts → PatternHere scope us) → (xs : List Alternative) (r : List Token) → PatternAlternativeAt scope ts xs r → length r < length ts → PatternHere scope ts
    behind ts ih xs [] a l = inl (xs, p.PatternAt.last_alternative a)
    behind ts ih xs (t ∷ r) a l = elim (begins_mark bar (t ∷ r)) [
      | inl (z, e) ↦ further ts xs z (subst (PatternAlternativeAt scope ts xs) e a) (ih z (omega (arith, l, ap length e)))
      | inr h ↦ inr (no_bar_pattern scope ts xs t r a h)
    ]

    step : (ts : List Token) → ((us : List Token) → length us < length ts → PatternHere scope us) → PatternHere scope ts
    step ts ih = elim (pattern_alternative_here scope ts) [
      | inl (xs, (r, (a, l))) ↦ behind ts ih xs r a l
      | inr h ↦ inr (no_first_pattern scope ts h)
    ]

-- all of the tokens
module _ (scope : List Bound) (ts : List Token) where
  whole_select : SelectHere scope ts → SomeOrNone (λ q. IsSelect scope q ts)
  whole_select (inl (q, (d, ([], (a, l))))) = inl (q, record { drops = d; select = a })
  whole_select (inl (q, (d, (t ∷ r, (a, l))))) = inr (λ v s. more_than_nothing (select_unique scope a s.select).2)
  whole_select (inr h) = inr (λ v s. h v s.drops [] s.select)

  whole_attributes : AttributesHere scope ts → Decided (IsAttributes scope ts)
  whole_attributes (inl ([], a)) = inl a
  whole_attributes (inl (t ∷ r, a)) = inr (λ b. more_than_nothing (select_unique scope (attributes_select a) (attributes_select b)).2)
  whole_attributes (inr h) = inr (λ a. h [] a)

no_value : (scope : List Bound) (ts : List Token) → (ts ≡ mark dot ∷ [] → ⊥) → ((q : Path) → SelectAt scope ts q false [] → ⊥) → (b : Body) → IsValue scope b ts → ⊥
no_value scope ts h k b of_self = h refl
no_value scope ts h k b (of_path {p = q} a) = k q a

path_value : (scope : List Bound) (ts : List Token) → (ts ≡ mark dot ∷ [] → ⊥) → SelectHere scope ts → SomeOrNone (λ b. IsValue scope b ts)
path_value scope ts h (inl (q, (false, ([], (a, l))))) = inl (value q no_instruction, of_path a)
path_value scope ts h (inl (q, (true, ([], (a, l))))) = inr (no_value scope ts h (λ v s. true≢false (select_unique scope a s).1))
path_value scope ts h (inl (q, (d, (t ∷ r, (a, l))))) = inr (no_value scope ts h (λ v s. more_than_nothing (select_unique scope a s).2))
path_value scope ts h (inr k) = inr (no_value scope ts h (λ v s. k v false [] s))

whole_value : (scope : List Bound) (ts : List Token) → SomeOrNone (λ b. IsValue scope b ts)
whole_value scope ts = elim (begins_mark dot ts) [
  | inl (r, e) ↦ dotted r e
  | inr h ↦ path_value scope ts (λ e. h [] e) (select_here scope ts)
]
  where
    dotted : (r : List Token) → ts ≡ mark dot ∷ r → SomeOrNone (λ b. IsValue scope b ts)
    dotted [] e = inl (value_of_self no_instruction, subst (IsValue scope (value_of_self no_instruction)) (sym e) of_self)
    dotted (t ∷ r) e = path_value scope ts (λ f. more_than_nothing (same_others (sym e ∙ f))) (select_here scope ts)

no_test : (scope : List Bound) (ts : List Token) → ((us : Tests) → p.OrAt scope ts us [] → ⊥) → (t : Test) → IsTest scope t ts → ⊥
no_test scope ts h t (of_tests {us = us} a) = h us a

whole_test : (scope : List Bound) (ts : List Token) → OrHere scope ts → SomeOrNone (λ t. IsTest scope t ts)
whole_test scope ts (inl (us, ([], (a, l)))) = inl (disjunction us, of_tests a)
whole_test scope ts (inl (us, (t ∷ r, (a, l)))) = inr (no_test scope ts (λ vs b. more_than_nothing (or_unique scope a b).1))
whole_test scope ts (inr h) = inr (no_test scope ts (λ us a. h us [] a))

-- texts
depth_here : (ts : List Token) → Decided (IsTooDeep ts)
depth_here ts = elim (cases_lt deepest_nesting (most_open 0 ts)) [ inl l ↦ inl l | inr l ↦ inr (λ d. omega (arith, d, l)) ]

forms_here : {X : Type 0} (Q : X → List Token → Type 0) → ((ts : List Token) → SomeOrNone (λ x. Q x ts)) → (s : List ℕ) → SomeOrNone (λ x. Forms (Q x) s)
forms_here Q decide s = elim (tokens_here s) [
  | inr h ↦ inr (λ x m. h m.tokens m.are_tokens)
  | inl (ts, a) ↦ elim (depth_here ts) [
    | inl d ↦ inr (λ x m. m.not_too_deep (subst IsTooDeep (tokens_unique a m.are_tokens) d))
    | inr n ↦ elim (decide ts) [
      | inl (x, q) ↦ inl (x, record { tokens = ts; are_tokens = a; not_too_deep = n; phrase = q })
      | inr h ↦ inr (λ x m. h x (subst (Q x) (tokens_unique m.are_tokens a) m.phrase))
    ]
  ]
]

pub select_text_here : (scope : List Bound) (s : List ℕ) → SomeOrNone (λ q. Forms (IsSelect scope q) s)
select_text_here scope s = forms_here (IsSelect scope) (λ ts. whole_select scope ts (select_here scope ts)) s

pub value_text_here : (scope : List Bound) (s : List ℕ) → SomeOrNone (λ b. Forms (IsValue scope b) s)
value_text_here scope s = forms_here (IsValue scope) (whole_value scope) s

pub pattern_text_here : (scope : List Bound) (s : List ℕ) → SomeOrNone (λ xs. Forms (IsPattern scope xs) s)
pattern_text_here scope s = forms_here (IsPattern scope) (pattern_here scope) s

pub test_text_here : (scope : List Bound) (s : List ℕ) → SomeOrNone (λ t. Forms (IsTest scope t) s)
test_text_here scope s = forms_here (IsTest scope) (λ ts. whole_test scope ts (or_here scope ts)) s

pub attributes_text_here : (scope : List Bound) (s : List ℕ) → Decided (Forms (IsAttributes scope) s)
attributes_text_here scope s = by (forms_here (λ (u : Unit {0}) ts. IsAttributes scope ts) (λ ts. with_unit (whole_attributes scope ts (attributes_here scope ts))) s)
  where
    with_unit : {P : Type 0} → Decided P → SomeOrNone (λ (u : Unit {0}). P)
    with_unit (inl a) = inl (tt, a)
    with_unit (inr h) = inr (λ u a. h a)

    by : SomeOrNone (λ (u : Unit {0}). Forms (IsAttributes scope) s) → Decided (Forms (IsAttributes scope) s)
    by (inl (u, a)) = inl a
    by (inr h) = inr (λ a. h tt a)

-- a text that nests too deep, and the first refused construct of one that doesn't
pub deep_here : (s : List ℕ) → Decided (Deep s)
deep_here s = elim (tokens_here s) [
  | inr h ↦ inr (λ d. h d.tokens d.are_tokens)
  | inl (ts, a) ↦ elim (depth_here ts) [
    | inl d ↦ inl (record { tokens = ts; are_tokens = a; too_deep = d })
    | inr n ↦ inr (λ d. n (subst IsTooDeep (tokens_unique d.are_tokens a) d.too_deep))
  ]
]

pub shallow_here : (c : Context) (s : List ℕ) → SomeOrNone (λ why. Shallow c s (Some why))
shallow_here c s = elim (tokens_here s) [
  | inr h ↦ inr (λ why d. h d.tokens d.are_tokens)
  | inl (ts, a) ↦ elim (depth_here ts) [
    | inl d ↦ inr (λ why m. m.not_too_deep (subst IsTooDeep (tokens_unique a m.are_tokens) d))
    | inr n ↦ by ts a n (first_reason c ts) refl
  ]
]
  where
    by : (ts : List Token) → Tokens s ts → (IsTooDeep ts → ⊥) → (o : Option Why) → first_reason c ts ≡ o → SomeOrNone (λ why. Shallow c s (Some why))
    by ts a n (Some why) e = inl (why, record { tokens = ts; are_tokens = a; not_too_deep = n; is_first = e })
    by ts a n None e = inr (λ why m. none_some (ap (first_reason c) (tokens_unique m.are_tokens a) ∙ e) m.is_first)
