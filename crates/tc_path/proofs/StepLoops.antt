-- Steps and the alternatives of selects that are read in loops: what was read so far stands before a phrase of the rest.
use Rattle.std.proofs.Common.{◌≡◌, Bool, true, false, ◌||◌, List, [], ◌∷◌, ◌++◌, refl, ap, ◌∙◌, sym, subst, cond}
use Rattle.std.specs.Borrow.{Bor}
use Rattle.tc_model.specs.RawTrees.{Bound}
use Rattle.tc_model.specs.Sheets.{NodeTest, Steps, no_step, step, Path, no_alternative, Tests, no_test, test}
use Rattle.tc_model.specs.PathTextTokens.{Mark, slash, slashes, bar, Token, mark}
use Rattle.tc_model.specs.PathTextPhrases as p
use Rattle.tc_model.specs.PathTextPhrases.{Lacks, ChildAt, AttributeAt, Form, lone, longer, dropped, lengthened, form_with, conjunction, alternative_before, is_dropped, StepsAt, attribute_step, last_step, child_step, descendant_step, PredicatesAt, AlternativeAt, SelectAt}
use Rattle.tc_model.specs.Views as seen
use Rattle.tc_model.specs.declared.sheet.Step.{Step as CodeStep}
use Rattle.tc_model.proofs.ViewsPath.{steps_then, steps_then_none, steps_then_assoc, steps_append, alternatives_then, alternatives_then_assoc, alternatives_append}
use Rattle.tc_model.proofs.PathTextUnique.{same_others, child_unique, no_child_attribute, predicates_unique, alternative_unique, slash_is_not_slashes}
use Rattle.tc_path.specs.Phrases.{is_lone, IsStepAt, a_step, form_of_one}

-- the form behind other steps or not
abbrev pub lengthened_if : Bool → Form → Form
lengthened_if false f = f
lengthened_if true f = lengthened f

lengthened_twice : (b : Bool) (f : Form) → lengthened_if b (lengthened f) ≡ lengthened f
lengthened_twice false f = refl
lengthened_twice true lone = refl
lengthened_twice true longer = refl
lengthened_twice true dropped = refl

lengthened_dropped : (b : Bool) → lengthened_if b dropped ≡ dropped
lengthened_dropped false = refl
lengthened_dropped true = refl

-- the form of steps of which the last is alone or not
abbrev pub form_read : Bool → Bool → Form
form_read l b = lengthened_if l (form_of_one b)

form_is : (l b : Bool) → cond l longer (form_of_one b) ≡ form_read l b
form_is false b = refl
form_is true true = refl
form_is true false = refl

-- the sign before a step
abbrev pub separator : Bool → Mark
separator below = cond below slashes slash

-- the steps found, one more
pub steps_pushed : (found more : List CodeStep) (x : CodeStep) → more ≡ found ++ x ∷ [] → seen.steps more ≡ steps_then (seen.steps found) (seen.steps (x ∷ []))
steps_pushed found more x e = ap seen.steps e ∙ steps_append found (x ∷ [])

module _ (scope : List Bound) where
  pub record StepsSoFar (first_deep : Bool) (ts : List Token) (is_longer : Bool) (ss : Steps) (deep : Bool) (rest : List Token) : Type 0 where
    pub forth : (xs : Steps) (f : Form) (after : List Token) → StepsAt scope deep rest xs f after → StepsAt scope first_deep ts (steps_then ss xs) (lengthened_if is_longer f) after
    pub back : (xs : Steps) (f : Form) (after : List Token) → StepsAt scope first_deep ts xs f after → (ys : Steps) × (g : Form) × StepsAt scope deep rest ys g after

  step_before : {deep b : Bool} (below : Bool) {rest next after : List Token} {ss xs : Steps} {f : Form} → IsStepAt scope deep rest ss b (mark (separator below) ∷ next) → StepsAt scope below next xs f after
      → StepsAt scope deep rest (steps_then ss xs) (lengthened f) after
  step_before false (a_step a u) m = child_step a u m
  step_before true (a_step a u) m = descendant_step a u m

  same_behind : {ts r r' a b : List Token} {t t' : NodeTest} {us vs : Tests} → ChildAt scope ts t r → PredicatesAt scope r us a → ChildAt scope ts t' r' → PredicatesAt scope r' vs b → a ≡ b
  same_behind {b = b} {vs = vs} c u d v = (predicates_unique scope u (subst (λ w. PredicatesAt scope w vs b) (sym (child_unique c d).1) v)).1

  step_behind : {deep b : Bool} (below : Bool) {rest next after : List Token} {ss ys : Steps} {g : Form} → IsStepAt scope deep rest ss b (mark (separator below) ∷ next) → StepsAt scope deep rest ys g after
      → (zs : Steps) × (h : Form) × StepsAt scope below next zs h after
  step_behind below (a_step a u) (attribute_step c) = absurd (no_child_attribute c a)
  step_behind false {next = next} (a_step a u) (last_step c v h k) = absurd (h next (sym (same_behind a u c v)))
  step_behind true {next = next} (a_step a u) (last_step c v h k) = absurd (k next (sym (same_behind a u c v)))
  step_behind false {after = r} (a_step a u) (child_step {ss = zs} {form = f} c v m) = (zs, f, subst (λ w. StepsAt scope false w zs f r) (sym (same_others (same_behind a u c v))) m)
  step_behind true (a_step a u) (child_step c v m) = absurd (slash_is_not_slashes (sym (same_behind a u c v)))
  step_behind false (a_step a u) (descendant_step c v m) = absurd (slash_is_not_slashes (same_behind a u c v))
  step_behind true {after = r} (a_step a u) (descendant_step {ss = zs} {form = f} c v m) = (zs, f, subst (λ w. StepsAt scope true w zs f r) (sym (same_others (same_behind a u c v))) m)

  step_last : {deep b : Bool} {rest after : List Token} {ss : Steps} → IsStepAt scope deep rest ss b after → Lacks (mark slash) after → Lacks (mark slashes) after → StepsAt scope deep rest ss (form_of_one b) after
  step_last (a_step {us = no_test} a u) h k = last_step a u h k
  step_last (a_step {us = test t us} a u) h k = last_step a u h k

  pub steps_start : {deep : Bool} (ts rest : List Token) (found : List CodeStep) → found ≡ [] → rest ≡ ts → StepsSoFar deep ts false (seen.steps found) deep rest
  steps_start {deep} ts rest found e f =
      subst (StepsSoFar deep ts false (seen.steps found) deep) (sym f) (subst (λ w. StepsSoFar deep ts false (seen.steps w) deep ts) (sym e) (record { forth = λ xs g after m. m; back = λ xs g after m. (xs, g, m) }))

  pub steps_next : {first_deep deep is_longer lone : Bool} (below : Bool) {ts rest after next : List Token} {ss one more : Steps} → StepsSoFar first_deep ts is_longer ss deep rest → IsStepAt scope deep rest one lone after
      → after ≡ mark (separator below) ∷ next → more ≡ steps_then ss one → StepsSoFar first_deep ts true more below next
  steps_next {first_deep} {deep} {is_longer} {lone = b} below {ts} {rest} {ss = ss} {one = one} {more = more} so a e whole = record {
    forth = λ xs f r m.
        let is : steps_then ss (steps_then one xs) ≡ steps_then more xs = sym (steps_then_assoc ss one xs) ∙ ap (λ w. steps_then w xs) (sym whole) in
        subst (λ w. StepsAt scope first_deep ts w (lengthened f) r) is
        (subst (λ g. StepsAt scope first_deep ts (steps_then ss (steps_then one xs)) g r) (lengthened_twice is_longer f)
        (so.forth (steps_then one xs) (lengthened f) r (step_before below (subst (IsStepAt scope deep rest one b) e a) m)));
    back = λ xs f r m. let (ys, g, d) = so.back xs f r m in step_behind below (subst (IsStepAt scope deep rest one b) e a) d;
  }

  pub steps_attribute : {first_deep deep is_longer : Bool} {ts rest after : List Token} {ss : Steps} → StepsSoFar first_deep ts is_longer ss deep rest → AttributeAt scope rest after → StepsAt scope first_deep ts ss dropped after
  steps_attribute {first_deep} {is_longer = l} {ts} {after = after} {ss = ss} so a =
      subst (λ w. StepsAt scope first_deep ts w dropped after) (steps_then_none ss)
      (subst (λ w. StepsAt scope first_deep ts (steps_then ss no_step) w after) (lengthened_dropped l) (so.forth no_step dropped after (attribute_step a)))

  pub steps_end : {first_deep deep is_longer lone : Bool} {ts rest after : List Token} {ss one more : Steps} {form : Form} → StepsSoFar first_deep ts is_longer ss deep rest → IsStepAt scope deep rest one lone after
      → more ≡ steps_then ss one → form ≡ cond is_longer longer (form_of_one lone) → Lacks (mark slash) after × Lacks (mark slashes) after → StepsAt scope first_deep ts more form after
  steps_end {first_deep} {is_longer = l} {lone = b} {ts} {after = after} {one = one} {more = more} so a whole written (h, k) =
      subst (λ w. StepsAt scope first_deep ts more w after) (sym (written ∙ form_is l b))
      (subst (λ w. StepsAt scope first_deep ts w (form_read l b) after) (sym whole) (so.forth one (form_of_one b) after (step_last a h k)))

  no_step_here : {deep : Bool} {rest after : List Token} {xs : Steps} {f : Form} → ((r : List Token) → AttributeAt scope rest r → ⊥)
      → ((ss : Steps) (b : Bool) (r : List Token) → IsStepAt scope deep rest ss b r → ⊥) → StepsAt scope deep rest xs f after → ⊥
  no_step_here {after = r} h k (attribute_step a) = h r a
  no_step_here {deep} {after = r} h k (last_step {t = t} {us = us} a u l m) = k (step deep t (conjunction us) no_step) (is_lone us) r (a_step a u)
  no_step_here {deep} h k (child_step {behind = z} {t = t} {us = us} a u m) = k (step deep t (conjunction us) no_step) (is_lone us) (mark slash ∷ z) (a_step a u)
  no_step_here {deep} h k (descendant_step {behind = z} {t = t} {us = us} a u m) = k (step deep t (conjunction us) no_step) (is_lone us) (mark slashes ∷ z) (a_step a u)

  pub steps_fail : {first_deep deep is_longer : Bool} {ts rest : List Token} {ss : Steps} → StepsSoFar first_deep ts is_longer ss deep rest
      → ((r : List Token) → AttributeAt scope rest r → ⊥) → ((ss : Steps) (b : Bool) (r : List Token) → IsStepAt scope deep rest ss b r → ⊥) → (xs : Steps) (f : Form) (after : List Token) → StepsAt scope first_deep ts xs f after → ⊥
  steps_fail so h k xs f after a = let (ys, g, d) = so.back xs f after a in no_step_here h k d

  -- the alternatives of a select
  pub record SelectsSoFar (ts : List Token) (q : Path) (drops : Bool) (rest : List Token) : Type 0 where
    pub forth : (r : Path) (d : Bool) (after : List Token) → SelectAt scope rest r d after → SelectAt scope ts (alternatives_then q r) (drops || d) after
    pub back : (r : Path) (d : Bool) (after : List Token) → SelectAt scope ts r d after → (s : Path) × (e : Bool) × SelectAt scope rest s e after

  pub record SelectsRead (ts : List Token) (q : Path) (drops : Bool) (rest : List Token) : Type 0 where
    pub prior : List Token
    pub earlier : Path
    pub dropped_earlier : Bool
    pub last : Steps
    pub form : Form
    pub so_far : SelectsSoFar ts earlier dropped_earlier prior
    pub read : AlternativeAt scope prior last form rest
    pub whole : q ≡ alternatives_then earlier (alternative_before form last no_alternative)
    pub whether : drops ≡ (is_dropped form || dropped_earlier)

  kept_before : (f : Form) (ss : Steps) (r : Path) → alternatives_then (alternative_before f ss no_alternative) r ≡ alternative_before f ss r
  kept_before lone ss r = refl
  kept_before longer ss r = refl
  kept_before dropped ss r = refl

  or_moved : (a b d : Bool) → (b || (a || d)) ≡ ((a || b) || d)
  or_moved true true d = refl
  or_moved true false d = refl
  or_moved false true d = refl
  or_moved false false d = refl

  or_turned : (a b : Bool) → (b || a) ≡ (a || b)
  or_turned true true = refl
  or_turned true false = refl
  or_turned false true = refl
  or_turned false false = refl

  alternative_behind : {rest next after : List Token} {ss : Steps} {f : Form} {q : Path} {d : Bool} → AlternativeAt scope rest ss f (mark bar ∷ next) → SelectAt scope rest q d after
      → (s : Path) × (e : Bool) × SelectAt scope next s e after
  alternative_behind {next = next} a (p.SelectAt.last_alternative b h) = absurd (h next (sym (alternative_unique scope a b).same_after))
  alternative_behind {after = r} a (p.SelectAt.one_alternative {p = q} {drops = d} b c) = (q, d, subst (λ w. SelectAt scope w q d r) (sym (same_others (alternative_unique scope a b).same_after)) c)

  pub selects_behind : {ts rest next : List Token} {q : Path} {drops : Bool} → SelectsRead ts q drops rest → rest ≡ mark bar ∷ next → SelectsSoFar ts q drops next
  selects_behind {ts} {q = q} {drops = drops} all e = record {
    forth = λ r d after b.
        let is : alternatives_then all.earlier (alternative_before all.form all.last r) ≡ alternatives_then q r =
        ap (alternatives_then all.earlier) (sym (kept_before all.form all.last r))
        ∙ (sym (alternatives_then_assoc all.earlier (alternative_before all.form all.last no_alternative) r) ∙ ap (λ w. alternatives_then w r) (sym all.whole)) in
        subst (λ w. SelectAt scope ts w (drops || d) after) is
        (subst (λ c. SelectAt scope ts (alternatives_then all.earlier (alternative_before all.form all.last r)) c after) (or_moved (is_dropped all.form) all.dropped_earlier d ∙ ap (λ c. c || d) (sym all.whether))
        (all.so_far.forth (alternative_before all.form all.last r) (is_dropped all.form || d) after (p.SelectAt.one_alternative (subst (AlternativeAt scope all.prior all.last all.form) e all.read) b)));
    back = λ r d after b. let (s, c, m) = all.so_far.back r d after b in alternative_behind (subst (AlternativeAt scope all.prior all.last all.form) e all.read) m;
  }

  pub selects_start : (ts rest : List Token) (found : List (Bor (List CodeStep))) → found ≡ [] → rest ≡ ts → SelectsSoFar ts (seen.alternatives found) false rest
  selects_start ts rest found e f =
      subst (SelectsSoFar ts (seen.alternatives found) false) (sym f) (subst (λ w. SelectsSoFar ts (seen.alternatives w) false ts) (sym e) (record { forth = λ r d after m. m; back = λ r d after m. (r, d, m) }))

  pub selects_read : {ts rest after : List Token} {q q' : Path} {drops drops' : Bool} {ss : Steps} {f : Form} → SelectsSoFar ts q drops rest → AlternativeAt scope rest ss f after
      → q' ≡ alternatives_then q (alternative_before f ss no_alternative) → drops' ≡ (is_dropped f || drops) → SelectsRead ts q' drops' after
  selects_read {rest = rest} {q = q} {drops = drops} {ss = ss} {f = f} so a e g =
      record { prior = rest; earlier = q; dropped_earlier = drops; last = ss; form = f; so_far = so; read = a; whole = e; whether = g }

  pub selects_first : {ts rest : List Token} {ss : Steps} {f : Form} {q : Path} {drops : Bool} → AlternativeAt scope ts ss f rest → q ≡ alternative_before f ss no_alternative → drops ≡ (is_dropped f || false) → SelectsRead ts q drops rest
  selects_first {ts} a e g = selects_read (selects_start ts ts [] refl refl) a e g

  pub selects_more : {ts rest next after : List Token} {q q' : Path} {drops drops' : Bool} {ss : Steps} {f : Form} → SelectsRead ts q drops rest → rest ≡ mark bar ∷ next → AlternativeAt scope next ss f after
      → q' ≡ alternatives_then q (alternative_before f ss no_alternative) → drops' ≡ (is_dropped f || drops) → SelectsRead ts q' drops' after
  selects_more all k a e g = selects_read (selects_behind all k) a e g

  pub selects_end : {ts rest : List Token} {q : Path} {drops : Bool} → SelectsRead ts q drops rest → Lacks (mark bar) rest → SelectAt scope ts q drops rest
  selects_end {ts} {rest} {q} {drops} all h =
      subst (λ w. SelectAt scope ts w drops rest) (sym all.whole)
      (subst (λ c. SelectAt scope ts (alternatives_then all.earlier (alternative_before all.form all.last no_alternative)) c rest) (or_turned (is_dropped all.form) all.dropped_earlier ∙ sym all.whether)
      (all.so_far.forth (alternative_before all.form all.last no_alternative) (is_dropped all.form) rest (p.SelectAt.last_alternative all.read h)))

  pub selects_none : {ts : List Token} → ((ss : Steps) (f : Form) (r : List Token) → AlternativeAt scope ts ss f r → ⊥) → (q : Path) (d : Bool) (after : List Token) → SelectAt scope ts q d after → ⊥
  selects_none h q d after (p.SelectAt.last_alternative {ss = ss} {form = f} a l) = h ss f after a
  selects_none h q d after (p.SelectAt.one_alternative {rest = r} {ss = ss} {form = f} a b) = h ss f (mark bar ∷ r) a

  pub selects_refused : {ts rest : List Token} {q : Path} {drops : Bool} → SelectsSoFar ts q drops rest → ((ss : Steps) (f : Form) (r : List Token) → AlternativeAt scope rest ss f r → ⊥)
      → (r : Path) (d : Bool) (after : List Token) → SelectAt scope ts r d after → ⊥
  selects_refused so h r d after a = let (s, c, m) = so.back r d after a in selects_none h s c after m

  pub selects_fail : {ts rest next : List Token} {q : Path} {drops : Bool} → SelectsRead ts q drops rest → rest ≡ mark bar ∷ next → ((ss : Steps) (f : Form) (r : List Token) → AlternativeAt scope next ss f r → ⊥)
      → (r : Path) (d : Bool) (after : List Token) → SelectAt scope ts r d after → ⊥
  selects_fail all e h r d after a = selects_refused (selects_behind all e) h r d after a

-- the alternatives found, one more or none
pub alternatives_kept : (found more : List (Bor (List CodeStep))) (x : Bor (List CodeStep)) (f : Form) → more ≡ found ++ cond (is_dropped f) [] (x ∷ [])
    → seen.alternatives more ≡ alternatives_then (seen.alternatives found) (alternative_before f (seen.steps x.now) no_alternative)
alternatives_kept found more x lone e = ap seen.alternatives e ∙ alternatives_append found (x ∷ [])
alternatives_kept found more x longer e = ap seen.alternatives e ∙ alternatives_append found (x ∷ [])
alternatives_kept found more x dropped e = ap seen.alternatives e ∙ alternatives_append found []
