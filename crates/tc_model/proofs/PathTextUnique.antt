-- A text means at most one select, value, pattern, test and priority.
use Rattle.std.proofs.Common.{◌≡◌, ◌⊎◌, inl, inr, ℕ, ◌+◌, ◌*◌, ◌-◌, ◌^◌, Bool, true, false, ◌||◌, List, [], ◌∷◌, ◌++◌, refl, ap, ◌∙◌, sym, subst, arith, Option, Some, length}
use Rattle.std.specs.Prelude.{bytes_eq, codes, ℤ, pos, neg_ℤ}
use Rattle.std.specs.Str.Parse.{digits_value}
use Rattle.std.proofs.lemmas.Bool.{true≢false, false≢true}
use Rattle.tc_model.specs.Names.{ExpandedName}
use Rattle.tc_model.specs.RawTrees.{Bound}
use Rattle.tc_model.specs.Sheets.{NodeTest, of_name, of_namespace, Steps, no_step, step, Path, no_alternative, Test, has, negated, Tests, no_test, test, Body, no_instruction, value}
use Rattle.tc_model.specs.XmlTextBytes.{after_white}
use Rattle.tc_model.specs.XmlTextNames.{QualifiedName}
use Rattle.tc_model.specs.PathTextTokens.{slash, slashes, bar, open_parenthesis, close_parenthesis, dot, colons, Token, name, all_of_prefix, mark}
use Rattle.tc_model.specs.PathTextPhrases.{word, Lacks, EndsNameTest, NameMeans, without_prefix, with_prefix, NodeTestAt, a_name, a_namespace, a_star, a_text, a_node, ChildAt, abbreviated, spelled, AttributeTestAt, AttributeAt, OtherNodeAt, a_comment, an_instruction, Form, lone, longer, dropped, lengthened, form_with, conjunction, disjunction, alternative_before, is_dropped, StepsAt, attribute_step, last_step, child_step, descendant_step, PredicatesAt, no_predicate, predicate, AlternativeAt, from_children, from_descendants, other_node, SelectAt, last_alternative, one_alternative, AttributesAlternativeAt, attributes_of_children, attributes_of_descendants, AttributesAt, last_attributes, one_attributes, PrimaryAt, a_path, a_negation, a_truth, a_falsehood, in_parentheses, AndAt, last_primary, one_primary, OrAt, last_conjunction, one_conjunction, Alternative, priority_otherwise, default_priority, unless_dropped, EndsAlternative, at_end, at_bar, PatternAlternativeAt, root_alone, relative, from_root, below_root, PatternAt}
use Rattle.tc_model.specs.PathTextPhrases as p
use Rattle.tc_model.specs.PathText.{IsValue, of_self, of_path, IsTest, of_tests, SelectText, AttributesText, ValueText, PatternText, TestText}
use Rattle.tc_model.specs.PathTextPriority.{digits_before, FractionAt, no_point, a_point, Unsigned, PriorityText, positive, negative}
use Rattle.tc_model.proofs.XmlTextPhrases.{same_others as same_bytes}
use Rattle.tc_model.proofs.PathTextLexing.{tokens_unique}

pub same_some : {X : Type 0} {c d : X} {o : Option X} → o ≡ Some c → o ≡ Some d → c ≡ d
same_some p q = cc

-- the tokens behind the first
others : List Token → List Token
others [] = []
others (t ∷ ts) = ts

pub same_others : {t u : Token} {ts us : List Token} → t ∷ ts ≡ u ∷ us → ts ≡ us
unfolding others
same_others e = ap others e

-- whether `//` is first
deep_first : List Token → Bool
deep_first [] = false
deep_first (name n ∷ ts) = false
deep_first (all_of_prefix p ∷ ts) = false
deep_first (mark slashes ∷ ts) = true
deep_first (mark m ∷ ts) = false
deep_first (t ∷ ts) = false

pub slash_is_not_slashes : {ts us : List Token} → mark slash ∷ ts ≡ mark slashes ∷ us → ⊥
unfolding deep_first
slash_is_not_slashes e = false≢true (ap deep_first e)

pub name_means_unique : {scope : List Bound} {n : QualifiedName} {m k : ExpandedName} → NameMeans scope n m → NameMeans scope n k → m ≡ k
name_means_unique without_prefix without_prefix = refl
name_means_unique (with_prefix {local = l} e) (with_prefix f) = let full : List ℕ → ExpandedName = λ u. record { uri = u; local = l } in ap full (same_some e f)

pub node_test_unique : {scope : List Bound} {ts r s : List Token} {t u : NodeTest} → NodeTestAt scope ts t r → NodeTestAt scope ts u s → (t ≡ u) × (r ≡ s)
node_test_unique (a_name a e) (a_name b f) = (ap of_name (name_means_unique a b), refl)
node_test_unique (a_name a e) (a_text {after = r}) = absurd (e.0 (mark close_parenthesis ∷ r) refl)
node_test_unique (a_name a e) (a_node {after = r}) = absurd (e.0 (mark close_parenthesis ∷ r) refl)
node_test_unique (a_namespace e) (a_namespace f) = (ap of_namespace (same_some e f), refl)
node_test_unique a_star a_star = (refl, refl)
node_test_unique (a_text {after = r}) (a_name a e) = absurd (e.0 (mark close_parenthesis ∷ r) refl)
node_test_unique a_text a_text = (refl, refl)
node_test_unique (a_node {after = r}) (a_name a e) = absurd (e.0 (mark close_parenthesis ∷ r) refl)
node_test_unique a_node a_node = (refl, refl)

-- no node test begins with an axis
pub no_axis : {scope : List Bound} {w : List ℕ} {ts r : List Token} {t : NodeTest} → NodeTestAt scope (word w ∷ mark colons ∷ ts) t r → ⊥
no_axis {ts = ts} (a_name a e) = e.1 ts refl

pub child_unique : {scope : List Bound} {ts r s : List Token} {t u : NodeTest} → ChildAt scope ts t r → ChildAt scope ts u s → (t ≡ u) × (r ≡ s)
child_unique (abbreviated a) (abbreviated b) = node_test_unique a b
child_unique (abbreviated a) (spelled b) = absurd (no_axis a)
child_unique (spelled a) (abbreviated b) = absurd (no_axis b)
child_unique (spelled a) (spelled b) = node_test_unique a b

pub attribute_test_unique : {scope : List Bound} {ts r s : List Token} → AttributeTestAt scope ts r → AttributeTestAt scope ts s → r ≡ s
attribute_test_unique (p.AttributeTestAt.a_name a) (p.AttributeTestAt.a_name b) = refl
attribute_test_unique (p.AttributeTestAt.a_namespace e) (p.AttributeTestAt.a_namespace f) = refl
attribute_test_unique p.AttributeTestAt.a_star p.AttributeTestAt.a_star = refl

pub attribute_unique : {scope : List Bound} {ts r s : List Token} → AttributeAt scope ts r → AttributeAt scope ts s → r ≡ s
attribute_unique (p.AttributeAt.abbreviated a) (p.AttributeAt.abbreviated b) = attribute_test_unique a b
attribute_unique (p.AttributeAt.spelled a) (p.AttributeAt.spelled b) = attribute_test_unique a b

-- an attribute step is no child step
pub no_child_attribute : {scope : List Bound} {ts r s : List Token} {t : NodeTest} → AttributeAt scope ts r → ChildAt scope ts t s → ⊥
no_child_attribute (p.AttributeAt.abbreviated a) (abbreviated n) = elim n [ ]
no_child_attribute (p.AttributeAt.spelled a) (abbreviated n) = no_axis n

pub other_unique : {ts r s : List Token} → OtherNodeAt ts r → OtherNodeAt ts s → r ≡ s
other_unique a_comment a_comment = refl
other_unique an_instruction an_instruction = refl

-- what a path begins with
pub data Opens (scope : List Bound) : List Token → Type 0 where
  child_opens : {ts r : List Token} {t : NodeTest} → ChildAt scope ts t r → Opens scope ts
  attribute_opens : {ts r : List Token} → AttributeAt scope ts r → Opens scope ts

pub steps_open : {scope : List Bound} {deep : Bool} {ts r : List Token} {ss : Steps} {f : Form} → StepsAt scope deep ts ss f r → Opens scope ts
steps_open (attribute_step a) = attribute_opens a
steps_open (last_step a u h k) = child_opens a
steps_open (child_step a u s) = child_opens a
steps_open (descendant_step a u s) = child_opens a

-- a call is no step
pub no_child_call : {scope : List Bound} {w : List ℕ} {ts r : List Token} {t : NodeTest} → ChildAt scope (word w ∷ mark open_parenthesis ∷ ts) t r → (w ≡ codes "text") ⊎ (w ≡ codes "node")
no_child_call {ts = ts} (abbreviated (a_name a e)) = absurd (e.0 ts refl)
no_child_call (abbreviated a_text) = inl refl
no_child_call (abbreviated a_node) = inr refl

pub no_attribute_call : {scope : List Bound} {w : List ℕ} {ts r : List Token} → AttributeAt scope (word w ∷ mark open_parenthesis ∷ ts) r → ⊥
no_attribute_call a = elim a [ ]

-- the words of the node tests that are spelled as calls
abbrev pub is_type : List ℕ → Bool
is_type w = bytes_eq w (codes "text") || bytes_eq w (codes "node")

pub no_path_call : {scope : List Bound} {w : List ℕ} {ts : List Token} → is_type w ≡ false → Opens scope (word w ∷ mark open_parenthesis ∷ ts) → ⊥
no_path_call e (attribute_opens a) = no_attribute_call a
no_path_call {w = w} e (child_opens a) = by (no_child_call a)
  where
    by : (w ≡ codes "text") ⊎ (w ≡ codes "node") → ⊥
    by (inl f) = true≢false (sym (ap is_type f) ∙ e)
    by (inr f) = true≢false (sym (ap is_type f) ∙ e)

pub no_path_dot : {scope : List Bound} {ts : List Token} → Opens scope (mark dot ∷ ts) → ⊥
no_path_dot (child_opens (abbreviated a)) = elim a [ ]
no_path_dot (attribute_opens a) = elim a [ ]

pub no_path_parenthesis : {scope : List Bound} {ts : List Token} → Opens scope (mark open_parenthesis ∷ ts) → ⊥
no_path_parenthesis (child_opens (abbreviated a)) = elim a [ ]
no_path_parenthesis (attribute_opens a) = elim a [ ]

pub no_path_slash : {scope : List Bound} {ts : List Token} → Opens scope (mark slash ∷ ts) → ⊥
no_path_slash (child_opens (abbreviated a)) = elim a [ ]
no_path_slash (attribute_opens a) = elim a [ ]

pub no_path_slashes : {scope : List Bound} {ts : List Token} → Opens scope (mark slashes ∷ ts) → ⊥
no_path_slashes (child_opens (abbreviated a)) = elim a [ ]
no_path_slashes (attribute_opens a) = elim a [ ]

pub no_other_path : {scope : List Bound} {ts r : List Token} → OtherNodeAt ts r → Opens scope ts → ⊥
no_other_path a_comment a = no_path_call refl a
no_other_path an_instruction a = no_path_call refl a

pub no_select_call : {scope : List Bound} {w : List ℕ} {ts r : List Token} {q : Path} → is_type w ≡ false → SelectAt scope (word w ∷ mark open_parenthesis ∷ ts) q false r → ⊥
no_select_call e a = none e a refl
  where
    alternative_none : {scope : List Bound} {w : List ℕ} {ts r : List Token} {ss : Steps} {f : Form} → is_type w ≡ false
        → AlternativeAt scope (word w ∷ mark open_parenthesis ∷ ts) ss f r → is_dropped f ≡ true
    alternative_none e (from_children a) = absurd (no_path_call e (steps_open a))
    alternative_none e (other_node a) = refl

    none : {scope : List Bound} {w : List ℕ} {ts r : List Token} {q : Path} {d : Bool} → is_type w ≡ false
        → SelectAt scope (word w ∷ mark open_parenthesis ∷ ts) q d r → d ≡ false → ⊥
    none e (last_alternative a h) f = true≢false (sym (alternative_none e a) ∙ f)
    none e (one_alternative {drops = d} a b) f = true≢false (sym (ap (λ x. x || d) (alternative_none e a)) ∙ f)

pub no_select_parenthesis : {scope : List Bound} {ts r : List Token} {q : Path} {d : Bool} → SelectAt scope (mark open_parenthesis ∷ ts) q d r → ⊥
no_select_parenthesis (last_alternative a h) = none a
  where
    none : {scope : List Bound} {ts r : List Token} {ss : Steps} {f : Form} → AlternativeAt scope (mark open_parenthesis ∷ ts) ss f r → ⊥
    none (from_children a) = no_path_parenthesis (steps_open a)
    none (other_node a) = elim a [ ]
no_select_parenthesis (one_alternative a b) = none a
  where
    none : {scope : List Bound} {ts r : List Token} {ss : Steps} {f : Form} → AlternativeAt scope (mark open_parenthesis ∷ ts) ss f r → ⊥
    none (from_children a) = no_path_parenthesis (steps_open a)
    none (other_node a) = elim a [ ]

pub no_path_end : {scope : List Bound} {ts : List Token} → EndsAlternative ts → Opens scope ts → ⊥
no_path_end at_end (child_opens (abbreviated a)) = elim a [ ]
no_path_end at_end (attribute_opens a) = elim a [ ]
no_path_end at_bar (child_opens (abbreviated a)) = elim a [ ]
no_path_end at_bar (attribute_opens a) = elim a [ ]

pub no_select_dot : {scope : List Bound} {r : List Token} {q : Path} {d : Bool} → SelectAt scope (mark dot ∷ []) q d r → ⊥
no_select_dot (last_alternative a h) = none a
  where
    none : {scope : List Bound} {r : List Token} {ss : Steps} {f : Form} → AlternativeAt scope (mark dot ∷ []) ss f r → ⊥
    none (from_children a) = no_path_dot (steps_open a)
    none (other_node a) = elim a [ ]
no_select_dot (one_alternative a b) = none a
  where
    none : {scope : List Bound} {r : List Token} {ss : Steps} {f : Form} → AlternativeAt scope (mark dot ∷ []) ss f r → ⊥
    none (from_children a) = no_path_dot (steps_open a)
    none (other_node a) = elim a [ ]

-- what two readings of steps agree on
pub record Same (ss ss' : Steps) (f f' : Form) (r r' : List Token) : Type 0 where
  pub same_steps : ss ≡ ss'
  pub same_form : f ≡ f'
  pub same_after : r ≡ r'

module _ (scope : List Bound) where
  mutual
    pub steps_unique : {deep : Bool} {ts r r' : List Token} {ss ss' : Steps} {f f' : Form}
        → StepsAt scope deep ts ss f r → StepsAt scope deep ts ss' f' r' → Same ss ss' f f' r r'
    steps_unique (attribute_step a) (attribute_step b) = record { same_steps = refl; same_form = refl; same_after = attribute_unique a b }
    steps_unique (attribute_step a) (last_step b u h k) = absurd (no_child_attribute a b)
    steps_unique (attribute_step a) (child_step b u s) = absurd (no_child_attribute a b)
    steps_unique (attribute_step a) (descendant_step b u s) = absurd (no_child_attribute a b)
    steps_unique (last_step a u h k) (attribute_step b) = absurd (no_child_attribute b a)
    steps_unique {deep} {r' = r'} (last_step {us = us} a u h k) (last_step {t = t'} {us = us'} b v h' k') =
        let one = child_unique a b in
        let two = predicates_unique u (subst (λ w. PredicatesAt scope w us' r') (sym one.1) v) in
        record {
          same_steps = ap (λ t. step deep t (conjunction us) no_step) one.0 ∙ ap (λ w. step deep t' (conjunction w) no_step) two.0;
          same_form = ap form_with two.0;
          same_after = two.1;
        }
    steps_unique (last_step a u h k) (child_step {behind = z} {us = us'} b v s) =
        let one = child_unique a b in
        absurd (h z (predicates_unique u (subst (λ w. PredicatesAt scope w us' (mark slash ∷ z)) (sym one.1) v)).1)
    steps_unique (last_step a u h k) (descendant_step {behind = z} {us = us'} b v s) =
        let one = child_unique a b in
        absurd (k z (predicates_unique u (subst (λ w. PredicatesAt scope w us' (mark slashes ∷ z)) (sym one.1) v)).1)
    steps_unique (child_step a u s) (attribute_step b) = absurd (no_child_attribute b a)
    steps_unique {r' = r'} (child_step {behind = z} {us = us} a u s) (last_step {us = us'} b v h k) =
        let one = child_unique a b in
        absurd (h z (sym (predicates_unique u (subst (λ w. PredicatesAt scope w us' r') (sym one.1) v)).1))
    steps_unique {deep} {r' = r'} (child_step {us = us} {ss = ss} a u s) (child_step {behind = z'} {t = t'} {us = us'} {ss = ss'} {form = g'} b v s') =
        let one = child_unique a b in
        let two = predicates_unique u (subst (λ w. PredicatesAt scope w us' (mark slash ∷ z')) (sym one.1) v) in
        let three = steps_unique s (subst (λ w. StepsAt scope false w ss' g' r') (sym (same_others two.1)) s') in
        record {
          same_steps = ap (λ t. step deep t (conjunction us) ss) one.0 ∙ (ap (λ w. step deep t' (conjunction w) ss) two.0 ∙ ap (step deep t' (conjunction us')) three.same_steps);
          same_form = ap lengthened three.same_form;
          same_after = three.same_after;
        }
    steps_unique (child_step {us = us} a u s) (descendant_step {behind = z'} {us = us'} b v s') =
        let one = child_unique a b in
        absurd (slash_is_not_slashes (predicates_unique u (subst (λ w. PredicatesAt scope w us' (mark slashes ∷ z')) (sym one.1) v)).1)
    steps_unique (descendant_step a u s) (attribute_step b) = absurd (no_child_attribute b a)
    steps_unique {r' = r'} (descendant_step {behind = z} a u s) (last_step {us = us'} b v h k) =
        let one = child_unique a b in
        absurd (k z (sym (predicates_unique u (subst (λ w. PredicatesAt scope w us' r') (sym one.1) v)).1))
    steps_unique (descendant_step a u s) (child_step {behind = z'} {us = us'} b v s') =
        let one = child_unique a b in
        absurd (slash_is_not_slashes (sym (predicates_unique u (subst (λ w. PredicatesAt scope w us' (mark slash ∷ z')) (sym one.1) v)).1))
    steps_unique {deep} {r' = r'} (descendant_step {us = us} {ss = ss} a u s) (descendant_step {behind = z'} {t = t'} {us = us'} {ss = ss'} {form = g'} b v s') =
        let one = child_unique a b in
        let two = predicates_unique u (subst (λ w. PredicatesAt scope w us' (mark slashes ∷ z')) (sym one.1) v) in
        let three = steps_unique s (subst (λ w. StepsAt scope true w ss' g' r') (sym (same_others two.1)) s') in
        record {
          same_steps = ap (λ t. step deep t (conjunction us) ss) one.0 ∙ (ap (λ w. step deep t' (conjunction w) ss) two.0 ∙ ap (step deep t' (conjunction us')) three.same_steps);
          same_form = ap lengthened three.same_form;
          same_after = three.same_after;
        }

    pub predicates_unique : {ts r s : List Token} {us vs : Tests} → PredicatesAt scope ts us r → PredicatesAt scope ts vs s → (us ≡ vs) × (r ≡ s)
    predicates_unique (no_predicate h) (no_predicate k) = (refl, refl)
    predicates_unique (no_predicate h) (predicate {ts = ts} a b) = absurd (h ts refl)
    predicates_unique (predicate {ts = ts} a b) (no_predicate h) = absurd (h ts refl)
    predicates_unique {s = s} (predicate {vs = vs} a b) (predicate {us = us'} {vs = vs'} a' b') =
        let one = or_unique a a' in
        let two = predicates_unique b (subst (λ w. PredicatesAt scope w vs' s) (sym (same_others one.1)) b') in
        (ap (λ w. test (disjunction w) vs) one.0 ∙ ap (test (disjunction us')) two.0, two.1)

    pub alternative_unique : {ts r r' : List Token} {ss ss' : Steps} {f f' : Form}
        → AlternativeAt scope ts ss f r → AlternativeAt scope ts ss' f' r' → Same ss ss' f f' r r'
    alternative_unique (from_children a) (from_children b) = steps_unique a b
    alternative_unique (from_children a) (from_descendants b) = absurd (no_path_dot (steps_open a))
    alternative_unique (from_children a) (other_node b) = absurd (no_other_path b (steps_open a))
    alternative_unique (from_descendants a) (from_children b) = absurd (no_path_dot (steps_open b))
    alternative_unique (from_descendants a) (from_descendants b) = steps_unique a b
    alternative_unique (from_descendants a) (other_node b) = elim b [ ]
    alternative_unique (other_node a) (from_children b) = absurd (no_other_path a (steps_open b))
    alternative_unique (other_node b) (from_descendants a) = elim b [ ]
    alternative_unique (other_node a) (other_node b) = record { same_steps = refl; same_form = refl; same_after = other_unique a b }

    pub select_unique : {ts r s : List Token} {q q' : Path} {d d' : Bool} → SelectAt scope ts q d r → SelectAt scope ts q' d' s → (q ≡ q') × (d ≡ d') × (r ≡ s)
    select_unique (last_alternative {ss = ss} a h) (last_alternative {form = f'} b k) =
        let one = alternative_unique a b in
        (ap (λ f. alternative_before f ss no_alternative) one.same_form ∙ ap (λ w. alternative_before f' w no_alternative) one.same_steps, ap is_dropped one.same_form, one.same_after)
    select_unique (last_alternative a h) (one_alternative {rest = z} b c) = absurd (h z (alternative_unique a b).same_after)
    select_unique (one_alternative {rest = z} a c) (last_alternative b h) = absurd (h z (sym (alternative_unique a b).same_after))
    select_unique {s = s} (one_alternative {ss = ss} {p = q} {drops = d} a c) (one_alternative {ss = ss'} {form = f'} {p = q'} {drops = d'} b e) =
        let one = alternative_unique a b in
        let two = select_unique c (subst (λ w. SelectAt scope w q' d' s) (sym (same_others one.same_after)) e) in (
          ap (λ f. alternative_before f ss q) one.same_form ∙ (ap (λ w. alternative_before f' w q) one.same_steps ∙ ap (alternative_before f' ss') two.0),
          ap (λ f. is_dropped f || d) one.same_form ∙ ap (λ x. is_dropped f' || x) two.1,
          two.2,
        )

    pub primary_unique : {ts r s : List Token} {t u : Test} → PrimaryAt scope ts t r → PrimaryAt scope ts u s → (t ≡ u) × (r ≡ s)
    primary_unique (a_path a) (a_path b) = let one = select_unique a b in (ap has one.0, one.2)
    primary_unique (a_path a) (a_negation b) = absurd (no_select_call refl a)
    primary_unique (a_path a) a_truth = absurd (no_select_call refl a)
    primary_unique (a_path a) a_falsehood = absurd (no_select_call refl a)
    primary_unique (a_path a) (in_parentheses b) = absurd (no_select_parenthesis a)
    primary_unique (a_negation b) (a_path a) = absurd (no_select_call refl a)
    primary_unique a_truth (a_path a) = absurd (no_select_call refl a)
    primary_unique a_falsehood (a_path a) = absurd (no_select_call refl a)
    primary_unique (in_parentheses b) (a_path a) = absurd (no_select_parenthesis a)
    primary_unique (a_negation a) (a_negation b) = let one = or_unique a b in (ap (λ w. negated (disjunction w)) one.0, same_others one.1)
    primary_unique a_truth a_truth = (refl, refl)
    primary_unique a_falsehood a_falsehood = (refl, refl)
    primary_unique (in_parentheses a) (in_parentheses b) = let one = or_unique a b in (ap disjunction one.0, same_others one.1)

    pub and_unique : {ts r s : List Token} {us vs : Tests} → AndAt scope ts us r → AndAt scope ts vs s → (us ≡ vs) × (r ≡ s)
    and_unique (last_primary a h) (last_primary b k) = let one = primary_unique a b in (ap (λ t. test t no_test) one.0, one.1)
    and_unique (last_primary a h) (one_primary {rest = z} b c) = absurd (h z (primary_unique a b).1)
    and_unique (one_primary {rest = z} a c) (last_primary b h) = absurd (h z (sym (primary_unique a b).1))
    and_unique {s = s} (one_primary {us = us} a c) (one_primary {t = t'} {us = us'} b e) =
        let one = primary_unique a b in
        let two = and_unique c (subst (λ w. AndAt scope w us' s) (sym (same_others one.1)) e) in
        (ap (λ t. test t us) one.0 ∙ ap (test t') two.0, two.1)

    pub or_unique : {ts r s : List Token} {us vs : Tests} → OrAt scope ts us r → OrAt scope ts vs s → (us ≡ vs) × (r ≡ s)
    or_unique (last_conjunction a h) (last_conjunction b k) = let one = and_unique a b in (ap (λ w. test (conjunction w) no_test) one.0, one.1)
    or_unique (last_conjunction a h) (one_conjunction {rest = z} b c) = absurd (h z (and_unique a b).1)
    or_unique (one_conjunction {rest = z} a c) (last_conjunction b h) = absurd (h z (sym (and_unique a b).1))
    or_unique {s = s} (one_conjunction {vs = vs} a c) (one_conjunction {us = us'} {vs = vs'} b e) =
        let one = and_unique a b in
        let two = or_unique c (subst (λ w. OrAt scope w vs' s) (sym (same_others one.1)) e) in
        (ap (λ w. test (conjunction w) vs) one.0 ∙ ap (test (conjunction us')) two.0, two.1)

pub alternative_of_pattern_unique : {scope : List Bound} {ts r s : List Token} {xs ys : List Alternative}
    → PatternAlternativeAt scope ts xs r → PatternAlternativeAt scope ts ys s → (xs ≡ ys) × (r ≡ s)
alternative_of_pattern_unique (root_alone e) (root_alone f) = (refl, refl)
alternative_of_pattern_unique (root_alone e) (relative a) = absurd (no_path_slash (steps_open a))
alternative_of_pattern_unique (root_alone e) (from_root a) = absurd (no_path_end e (steps_open a))
alternative_of_pattern_unique (root_alone e) (p.PatternAlternativeAt.other_node b) = elim b [ ]
alternative_of_pattern_unique (relative a) (root_alone e) = absurd (no_path_slash (steps_open a))
alternative_of_pattern_unique {scope} (relative {ss = ss} a) (relative {form = f'} b) =
    let one = steps_unique scope a b in
    (ap (λ f. unless_dropped f ss (default_priority f ss)) one.same_form ∙ ap (λ w. unless_dropped f' w (default_priority f' w)) one.same_steps, one.same_after)
alternative_of_pattern_unique (relative a) (from_root b) = absurd (no_path_slash (steps_open a))
alternative_of_pattern_unique (relative a) (below_root b) = absurd (no_path_slashes (steps_open a))
alternative_of_pattern_unique (relative a) (p.PatternAlternativeAt.other_node b) = absurd (no_other_path b (steps_open a))
alternative_of_pattern_unique (from_root a) (root_alone e) = absurd (no_path_end e (steps_open a))
alternative_of_pattern_unique (from_root a) (relative b) = absurd (no_path_slash (steps_open b))
alternative_of_pattern_unique {scope} (from_root {ss = ss} a) (from_root {form = f'} b) =
    let one = steps_unique scope a b in
    (ap (λ f. unless_dropped f ss priority_otherwise) one.same_form ∙ ap (λ w. unless_dropped f' w priority_otherwise) one.same_steps, one.same_after)
alternative_of_pattern_unique (from_root a) (p.PatternAlternativeAt.other_node b) = elim b [ ]
alternative_of_pattern_unique (below_root a) (relative b) = absurd (no_path_slashes (steps_open b))
alternative_of_pattern_unique {scope} (below_root {ss = ss} a) (below_root {form = f'} b) =
    let one = steps_unique scope a b in
    (ap (λ f. unless_dropped f ss priority_otherwise) one.same_form ∙ ap (λ w. unless_dropped f' w priority_otherwise) one.same_steps, one.same_after)
alternative_of_pattern_unique (below_root a) (p.PatternAlternativeAt.other_node b) = elim b [ ]
alternative_of_pattern_unique (p.PatternAlternativeAt.other_node b) (root_alone e) = elim b [ ]
alternative_of_pattern_unique (p.PatternAlternativeAt.other_node b) (relative a) = absurd (no_other_path b (steps_open a))
alternative_of_pattern_unique (p.PatternAlternativeAt.other_node b) (from_root a) = elim b [ ]
alternative_of_pattern_unique (p.PatternAlternativeAt.other_node b) (below_root a) = elim b [ ]
alternative_of_pattern_unique (p.PatternAlternativeAt.other_node a) (p.PatternAlternativeAt.other_node b) = (refl, other_unique a b)

pub nothing_is_bar : {rest : List Token} → [] ≡ mark bar ∷ rest → ⊥
nothing_is_bar e = omega (arith, ap length e)

pub pattern_unique : {scope : List Bound} {ts : List Token} {xs ys : List Alternative} → PatternAt scope ts xs → PatternAt scope ts ys → xs ≡ ys
pattern_unique (p.PatternAt.last_alternative a) (p.PatternAt.last_alternative b) = (alternative_of_pattern_unique a b).0
pattern_unique (p.PatternAt.last_alternative a) (p.PatternAt.one_alternative b c) = absurd (nothing_is_bar (alternative_of_pattern_unique a b).1)
pattern_unique (p.PatternAt.one_alternative b c) (p.PatternAt.last_alternative a) = absurd (nothing_is_bar (alternative_of_pattern_unique a b).1)
pattern_unique {scope} (p.PatternAt.one_alternative {others = zs} a c) (p.PatternAt.one_alternative {alternatives = ys} {others = zs'} b d) =
    let one = alternative_of_pattern_unique a b in
    let two = pattern_unique c (subst (λ w. PatternAt scope w zs') (sym (same_others one.1)) d) in
    ap (λ w. w ++ zs) one.0 ∙ ap (λ w. ys ++ w) two

-- a text has at most one select
pub select_text_unique : {scope : List Bound} {text : List ℕ} {q r : Path} → SelectText scope text q → SelectText scope text r → q ≡ r
select_text_unique {scope} {r = r} a b =
    let moved = subst (λ w. SelectAt scope w r b.phrase.drops []) (sym (tokens_unique a.are_tokens b.are_tokens)) b.phrase.select in
    (select_unique scope a.phrase.select moved).0

attributes_alternative : {scope : List Bound} {ts r : List Token} → AttributesAlternativeAt scope ts r → (ss : Steps) × AlternativeAt scope ts ss dropped r
attributes_alternative (attributes_of_children {ss = ss} a) = (ss, from_children a)
attributes_alternative (attributes_of_descendants {ss = ss} a) = (ss, from_descendants a)

-- attributes alone are a select of nothing
pub attributes_select : {scope : List Bound} {ts r : List Token} → AttributesAt scope ts r → SelectAt scope ts no_alternative true r
attributes_select (last_attributes a h) = last_alternative (attributes_alternative a).1 h
attributes_select (one_attributes a b) = one_alternative (attributes_alternative a).1 (attributes_select b)

pub attributes_text_select : {scope : List Bound} {text : List ℕ} → AttributesText scope text → SelectText scope text no_alternative
attributes_text_select a = record {
  tokens = a.tokens;
  are_tokens = a.are_tokens;
  not_too_deep = a.not_too_deep;
  phrase = record { drops = true; select = attributes_select a.phrase };
}

pub is_value_unique : {scope : List Bound} {ts : List Token} {v w : Body} → IsValue scope v ts → IsValue scope w ts → v ≡ w
is_value_unique of_self of_self = refl
is_value_unique of_self (of_path a) = absurd (no_select_dot a)
is_value_unique (of_path a) of_self = absurd (no_select_dot a)
is_value_unique {scope} (of_path a) (of_path b) = ap (λ q. value q no_instruction) (select_unique scope a b).0

-- a text has at most one value
pub value_text_unique : {scope : List Bound} {text : List ℕ} {v w : Body} → ValueText scope text v → ValueText scope text w → v ≡ w
value_text_unique {scope} {w = w} a b = is_value_unique a.phrase (subst (λ z. IsValue scope w z) (sym (tokens_unique a.are_tokens b.are_tokens)) b.phrase)

-- a text has at most one pattern
pub pattern_text_unique : {scope : List Bound} {text : List ℕ} {xs ys : List Alternative} → PatternText scope text xs → PatternText scope text ys → xs ≡ ys
pattern_text_unique {scope} {ys = ys} a b = pattern_unique a.phrase (subst (λ z. PatternAt scope z ys) (sym (tokens_unique a.are_tokens b.are_tokens)) b.phrase)

pub is_test_unique : {scope : List Bound} {ts : List Token} {t u : Test} → IsTest scope t ts → IsTest scope u ts → t ≡ u
is_test_unique {scope} (of_tests a) (of_tests b) = ap disjunction (or_unique scope a b).0

-- a text has at most one test
pub test_text_unique : {scope : List Bound} {text : List ℕ} {t u : Test} → TestText scope text t → TestText scope text u → t ≡ u
test_text_unique {scope} {u = u} a b = is_test_unique a.phrase (subst (λ z. IsTest scope u z) (sym (tokens_unique a.are_tokens b.are_tokens)) b.phrase)

pub point_unique : {bs f f' e e' : List ℕ} → FractionAt bs f e → FractionAt bs f' e' → f ≡ f'
point_unique (no_point h) (no_point k) = refl
point_unique (no_point h) (a_point {r = r}) = absurd (h r refl)
point_unique (a_point {r = r}) (no_point h) = absurd (h r refl)
point_unique a_point a_point = refl

pub unsigned_unique : {bs : List ℕ} {v w : ℕ} → Unsigned bs v → Unsigned bs w → v ≡ w
unsigned_unique {bs} a b =
    a.is_value ∙ (ap (λ f. digits_value 10 (digits_before bs) * 10000 + digits_value 10 f * 10 ^ (4 - length f)) (point_unique a.fraction_at b.fraction_at) ∙ sym b.is_value)

-- a text has at most one priority
pub priority_text_unique : {text : List ℕ} {x y : ℤ} → PriorityText text x → PriorityText text y → x ≡ y
priority_text_unique (positive h a) (positive k b) = ap pos (unsigned_unique a b)
priority_text_unique (positive h a) (negative {rest = r} e b) = absurd (h r e)
priority_text_unique (negative {rest = r} e b) (positive h a) = absurd (h r e)
priority_text_unique (negative e a) (negative {value = w} f b) =
    ap (λ v. neg_ℤ (pos v)) (unsigned_unique a (subst (λ z. Unsigned (after_white z) w) (same_bytes (sym f ∙ e)) b))
