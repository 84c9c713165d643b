-- Tests that are read in loops: what was read so far stands before a phrase of the rest.
use Rattle.std.proofs.Common.{◌≡◌, List, [], ◌∷◌, ◌++◌, refl, ap, ◌∙◌, sym, subst}
use Rattle.std.specs.Prelude.{codes}
use Rattle.tc_model.specs.RawTrees.{Bound}
use Rattle.tc_model.specs.Sheets.{Test, Tests, no_test, test}
use Rattle.tc_model.specs.PathTextTokens.{close_bracket, open_bracket, Token, mark}
use Rattle.tc_model.specs.PathTextPhrases.{word, Lacks, conjunction, disjunction, PredicatesAt, no_predicate, predicate, PrimaryAt, AndAt, last_primary, one_primary, OrAt, last_conjunction, one_conjunction}
use Rattle.tc_model.specs.Views as seen
use Rattle.tc_model.specs.declared.sheet.Test.{Test as CodeTest}
use Rattle.tc_model.proofs.ViewsPath.{tests_then, tests_then_none, tests_then_assoc, pushed_test}
use Rattle.tc_model.proofs.PathTextUnique.{same_others, primary_unique, and_unique, or_unique}
use Rattle.tc_path.specs.Phrases.{ClosedAt}

-- the tests found, one more
pub tests_pushed : (found more : List CodeTest) (x : CodeTest) → more ≡ found ++ x ∷ [] → seen.tests more ≡ tests_then (seen.tests found) (test (seen.test x) no_test)
tests_pushed found more x e = ap seen.tests e ∙ pushed_test found x

module _ (scope : List Bound) where
  -- primaries joined by `and`
  pub record AndsSoFar (ts : List Token) (us : Tests) (rest : List Token) : Type 0 where
    pub forth : (vs : Tests) (after : List Token) → AndAt scope rest vs after → AndAt scope ts (tests_then us vs) after
    pub back : (vs : Tests) (after : List Token) → AndAt scope ts vs after → (ws : Tests) × AndAt scope rest ws after

  -- all that was read, of which the last stands before the rest
  pub record AndsRead (ts : List Token) (us : Tests) (rest : List Token) : Type 0 where
    pub prior : List Token
    pub earlier : Tests
    pub last : Test
    pub so_far : AndsSoFar ts earlier prior
    pub read : PrimaryAt scope prior last rest
    pub whole : us ≡ tests_then earlier (test last no_test)

  first_and : {ts after : List Token} {us : Tests} → AndAt scope ts us after → (t : Test) × (r : List Token) × PrimaryAt scope ts t r
  first_and (last_primary {after = r} {t = t} a h) = (t, r, a)
  first_and (one_primary {rest = r} {t = t} a b) = (t, word (codes "and") ∷ r, a)

  and_behind : {rest next after : List Token} {t : Test} {vs : Tests} → PrimaryAt scope rest t (word (codes "and") ∷ next) → AndAt scope rest vs after → (ws : Tests) × AndAt scope next ws after
  and_behind {next = next} a (last_primary b h) = absurd (h next (sym (primary_unique scope a b).1))
  and_behind {after = r} a (one_primary {us = us} b c) = (us, subst (λ w. AndAt scope w us r) (sym (same_others (primary_unique scope a b).1)) c)

  pub ands_start : (ts rest : List Token) (found : List CodeTest) → found ≡ [] → rest ≡ ts → AndsSoFar ts (seen.tests found) rest
  ands_start ts rest found e f = subst (AndsSoFar ts (seen.tests found)) (sym f) (subst (λ w. AndsSoFar ts (seen.tests w) ts) (sym e) (record { forth = λ vs after a. a; back = λ vs after a. (vs, a) }))

  pub ands_read : {ts rest after : List Token} {t : Test} {us vs : Tests} → AndsSoFar ts us rest → PrimaryAt scope rest t after → vs ≡ tests_then us (test t no_test) → AndsRead ts vs after
  ands_read {rest = rest} {t = t} {us = us} so a e = record { prior = rest; earlier = us; last = t; so_far = so; read = a; whole = e }

  pub ands_behind : {ts rest next : List Token} {us : Tests} → AndsRead ts us rest → rest ≡ word (codes "and") ∷ next → AndsSoFar ts us next
  ands_behind {ts} {next = next} {us = us} all e = record {
    forth = λ vs after b.
        let is : tests_then all.earlier (test all.last vs) ≡ tests_then us vs =
        sym (tests_then_assoc all.earlier (test all.last no_test) vs) ∙ ap (λ w. tests_then w vs) (sym all.whole) in
        subst (λ w. AndAt scope ts w after) is (all.so_far.forth (test all.last vs) after (one_primary (subst (PrimaryAt scope all.prior all.last) e all.read) b));
    back = λ vs after b. let (ws, d) = all.so_far.back vs after b in and_behind (subst (PrimaryAt scope all.prior all.last) e all.read) d;
  }

  pub ands_end : {ts rest : List Token} {us : Tests} → AndsRead ts us rest → Lacks (word (codes "and")) rest → AndAt scope ts us rest
  ands_end {ts} {rest} all h = subst (λ w. AndAt scope ts w rest) (sym all.whole) (all.so_far.forth (test all.last no_test) rest (last_primary all.read h))

  ands_none : {ts : List Token} → ((t : Test) (r : List Token) → PrimaryAt scope ts t r → ⊥) → (vs : Tests) (after : List Token) → AndAt scope ts vs after → ⊥
  ands_none h vs after a = let (t, r, d) = first_and a in h t r d

  pub ands_fail : {ts rest : List Token} {us : Tests} → AndsSoFar ts us rest → ((t : Test) (r : List Token) → PrimaryAt scope rest t r → ⊥) → (vs : Tests) (after : List Token) → AndAt scope ts vs after → ⊥
  ands_fail so h vs after a = let (ws, b) = so.back vs after a in ands_none h ws after b

  -- conjunctions joined by `or`
  pub record OrsSoFar (ts : List Token) (us : Tests) (rest : List Token) : Type 0 where
    pub forth : (vs : Tests) (after : List Token) → OrAt scope rest vs after → OrAt scope ts (tests_then us vs) after
    pub back : (vs : Tests) (after : List Token) → OrAt scope ts vs after → (ws : Tests) × OrAt scope rest ws after

  -- all that was read, of which the last stands before the rest
  pub record OrsRead (ts : List Token) (us : Tests) (rest : List Token) : Type 0 where
    pub prior : List Token
    pub earlier : Tests
    pub last : Tests
    pub so_far : OrsSoFar ts earlier prior
    pub read : AndAt scope prior last rest
    pub whole : us ≡ tests_then earlier (test (conjunction last) no_test)

  first_or : {ts after : List Token} {us : Tests} → OrAt scope ts us after → (t : Tests) × (r : List Token) × AndAt scope ts t r
  first_or (last_conjunction {after = r} {us = t} a h) = (t, r, a)
  first_or (one_conjunction {rest = r} {us = t} a b) = (t, word (codes "or") ∷ r, a)

  or_behind : {rest next after : List Token} {t : Tests} {vs : Tests} → AndAt scope rest t (word (codes "or") ∷ next) → OrAt scope rest vs after → (ws : Tests) × OrAt scope next ws after
  or_behind {next = next} a (last_conjunction b h) = absurd (h next (sym (and_unique scope a b).1))
  or_behind {after = r} a (one_conjunction {vs = us} b c) = (us, subst (λ w. OrAt scope w us r) (sym (same_others (and_unique scope a b).1)) c)

  pub ors_start : (ts rest : List Token) (found : List CodeTest) → found ≡ [] → rest ≡ ts → OrsSoFar ts (seen.tests found) rest
  ors_start ts rest found e f = subst (OrsSoFar ts (seen.tests found)) (sym f) (subst (λ w. OrsSoFar ts (seen.tests w) ts) (sym e) (record { forth = λ vs after a. a; back = λ vs after a. (vs, a) }))

  pub ors_read : {ts rest after : List Token} {t us vs : Tests} → OrsSoFar ts us rest → AndAt scope rest t after → vs ≡ tests_then us (test (conjunction t) no_test) → OrsRead ts vs after
  ors_read {rest = rest} {t = t} {us = us} so a e = record { prior = rest; earlier = us; last = t; so_far = so; read = a; whole = e }

  pub ors_behind : {ts rest next : List Token} {us : Tests} → OrsRead ts us rest → rest ≡ word (codes "or") ∷ next → OrsSoFar ts us next
  ors_behind {ts} {next = next} {us = us} all e = record {
    forth = λ vs after b.
        let is : tests_then all.earlier (test (conjunction all.last) vs) ≡ tests_then us vs =
        sym (tests_then_assoc all.earlier (test (conjunction all.last) no_test) vs) ∙ ap (λ w. tests_then w vs) (sym all.whole) in
        subst (λ w. OrAt scope ts w after) is (all.so_far.forth (test (conjunction all.last) vs) after (one_conjunction (subst (AndAt scope all.prior all.last) e all.read) b));
    back = λ vs after b. let (ws, d) = all.so_far.back vs after b in or_behind (subst (AndAt scope all.prior all.last) e all.read) d;
  }

  pub ors_end : {ts rest : List Token} {us : Tests} → OrsRead ts us rest → Lacks (word (codes "or")) rest → OrAt scope ts us rest
  ors_end {ts} {rest} all h = subst (λ w. OrAt scope ts w rest) (sym all.whole) (all.so_far.forth (test (conjunction all.last) no_test) rest (last_conjunction all.read h))

  ors_none : {ts : List Token} → ((t : Tests) (r : List Token) → AndAt scope ts t r → ⊥) → (vs : Tests) (after : List Token) → OrAt scope ts vs after → ⊥
  ors_none h vs after a = let (t, r, d) = first_or a in h t r d

  pub ors_fail : {ts rest : List Token} {us : Tests} → OrsSoFar ts us rest → ((t : Tests) (r : List Token) → AndAt scope rest t r → ⊥) → (vs : Tests) (after : List Token) → OrAt scope ts vs after → ⊥
  ors_fail so h vs after a = let (ws, b) = so.back vs after a in ors_none h ws after b

  -- predicates, one behind the other
  pub record PredicatesSoFar (ts : List Token) (us : Tests) (rest : List Token) : Type 0 where
    pub forth : (vs : Tests) (after : List Token) → PredicatesAt scope rest vs after → PredicatesAt scope ts (tests_then us vs) after
    pub back : (vs : Tests) (after : List Token) → PredicatesAt scope ts vs after → (ws : Tests) × PredicatesAt scope rest ws after

  pub predicates_start : (ts : List Token) (found : List CodeTest) → found ≡ [] → PredicatesSoFar ts (seen.tests found) ts
  predicates_start ts found e = subst (λ w. PredicatesSoFar ts (seen.tests w) ts) (sym e) (record { forth = λ vs after a. a; back = λ vs after a. (vs, a) })

  -- what a predicate holds
  record Opened (inside after : List Token) : Type 0 where
    tests : Tests
    rest : List Token
    others : Tests
    held : OrAt scope inside tests (mark close_bracket ∷ rest)
    behind : PredicatesAt scope rest others after

  opened : {inside after : List Token} {vs : Tests} → PredicatesAt scope (mark open_bracket ∷ inside) vs after → Opened inside after
  opened {inside} (no_predicate h) = absurd (h inside refl)
  opened (predicate {rest = r} {us = us} {vs = vs} a b) = record { tests = us; rest = r; others = vs; held = a; behind = b }

  pub predicates_next : {ts rest inside next : List Token} {t : Test} {us vs : Tests} → PredicatesSoFar ts us rest → rest ≡ mark open_bracket ∷ inside
      → ClosedAt scope inside close_bracket t next → vs ≡ tests_then us (test t no_test) → PredicatesSoFar ts vs next
  predicates_next {ts} {next = next} {us = us} {vs = vs} so f a e = record {
    forth = λ xs after b.
        let is : tests_then us (test (disjunction a.tests) xs) ≡ tests_then vs xs =
        sym (tests_then_assoc us (test (disjunction a.tests) no_test) xs) ∙ ap (λ w. tests_then w xs) (ap (λ w. tests_then us (test w no_test)) (sym a.is_test) ∙ sym e) in
        subst (λ w. PredicatesAt scope ts w after) is
        (so.forth (test (disjunction a.tests) xs) after (subst (λ w. PredicatesAt scope w (test (disjunction a.tests) xs) after) (sym f) (predicate a.inside b)));
    back = λ xs after b.
        let (ws, d) = so.back xs after b in
        let o = opened (subst (λ w. PredicatesAt scope w ws after) f d) in
        (o.others, subst (λ w. PredicatesAt scope w o.others after) (same_others (or_unique scope o.held a.inside).1) o.behind);
  }

  pub predicates_end : {ts rest : List Token} {us : Tests} → PredicatesSoFar ts us rest → Lacks (mark open_bracket) rest → PredicatesAt scope ts us rest
  predicates_end {ts} {rest} {us} so h = subst (λ w. PredicatesAt scope ts w rest) (tests_then_none us) (so.forth no_test rest (no_predicate h))

  pub predicates_fail : {ts rest inside : List Token} {us : Tests} → PredicatesSoFar ts us rest → rest ≡ mark open_bracket ∷ inside
      → ((t : Test) (r : List Token) → ClosedAt scope inside close_bracket t r → ⊥) → (vs : Tests) (after : List Token) → PredicatesAt scope ts vs after → ⊥
  predicates_fail so f h vs after a =
      let (ws, d) = so.back vs after a in
      let o = opened (subst (λ w. PredicatesAt scope w ws after) f d) in
      h (disjunction o.tests) o.rest (record { tests = o.tests; inside = o.held; is_test = refl })
