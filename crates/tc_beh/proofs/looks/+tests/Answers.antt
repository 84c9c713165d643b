use Rattle.std.proofs.Common.{◌≡◌, ◌&&◌, ◌||◌, ℕ, Bool, true, false, not, ap, ◌∙◌, sym, subst, rules}
use Rattle.std.proofs.lemmas.List.{drop_all}
use Rattle.tc_model.specs.Sheets as s
use Rattle.tc_model.specs.Sheets.{Path, Tests}
use Rattle.tc_model.specs.Views as see
use Rattle.tc_model.specs.declared.sheet.Test.TheViews.{the_lemmas}
use Rattle.tc_model.proofs.ViewsPath.{see_true, see_false, see_has, see_not, see_and, see_or, left_test}
use Rattle.tc_rules.specs.Kept.{told}
use Rattle.tc_rules.specs.Parts.{IsPartTest, ArePartTests}
use Rattle.tc_rows.specs.Rows.{is_hit_value}
use Rattle.tc_rows.specs.Bodies.{holds_by, all_hold_by, some_holds_by}
use Rattle.tc_beh.proofs.Looking.{finds}
use Rattle.tc_beh.proofs.looks.+tests.Goals as goal

-- one test more of which all hold, or one holds
module _ (look : Path → ℕ) (b : Bool) (t : s.Test) (ts us : Tests) (are : ts ≡ s.test t us) (is : b ≡ holds_by t look) where
  all_on : b ≡ true → all_hold_by ts look ≡ all_hold_by us look
  all_on e = ap (λ w. all_hold_by w look) are ∙ ap (λ v. v && all_hold_by us look) (sym is ∙ e)

  all_off : b ≡ false → all_hold_by ts look ≡ false
  all_off e = ap (λ w. all_hold_by w look) are ∙ ap (λ v. v && all_hold_by us look) (sym is ∙ e)

  some_on : b ≡ true → some_holds_by ts look ≡ true
  some_on e = ap (λ w. some_holds_by w look) are ∙ ap (λ v. v || some_holds_by us look) (sym is ∙ e)

  some_off : b ≡ false → some_holds_by ts look ≡ some_holds_by us look
  some_off e = ap (λ w. some_holds_by w look) are ∙ ap (λ v. v || some_holds_by us look) (sym is ∙ e)

pub holds-look-requires-clause-path : goal.holds-look-requires-clause-path
holds-look-requires-clause-path t c = subst (IsPartTest (told c.args.rules.now).sheet) (ap see.test c.in-Has.is ∙ see_has c.in-Has.path) c.requires.test

pub holds-all_hold-requires : goal.holds-all_hold-requires
holds-all_hold-requires t c =
    (search (rules, the_lemmas), (c.requires.rules, subst (IsPartTest (told c.args.rules.now).sheet) (ap see.test c.in-And.is ∙ see_and c.in-And.tests) c.requires.test))

pub holds-some_holds-requires : goal.holds-some_holds-requires
holds-some_holds-requires t c =
    (search (rules, the_lemmas), (c.requires.rules, subst (IsPartTest (told c.args.rules.now).sheet) (ap see.test c.in-Or.is ∙ see_or c.in-Or.tests) c.requires.test))

pub holds-returns-in-Has : goal.holds-returns-in-Has
holds-returns-in-Has t c = λ x is.
    ap is_hit_value (c.look.ensures x is) ∙ sym (ap (λ w. holds_by w (finds x c.args.looks.now)) (ap see.test c.in-Has.is ∙ see_has c.in-Has.path))

pub holds-returns-in-And : goal.holds-returns-in-And
holds-returns-in-And t c = λ x is.
    c.all_hold.ensures x is ∙ sym (ap (λ w. holds_by w (finds x c.args.looks.now)) (ap see.test c.in-And.is ∙ see_and c.in-And.tests))

pub holds-returns-in-Or : goal.holds-returns-in-Or
holds-returns-in-Or t c = λ x is.
    c.some_holds.ensures x is ∙ sym (ap (λ w. holds_by w (finds x c.args.looks.now)) (ap see.test c.in-Or.is ∙ see_or c.in-Or.tests))

pub holds-holds-requires : goal.holds-holds-requires
holds-holds-requires t c =
    (search (rules, the_lemmas), (c.requires.rules, subst (IsPartTest (told c.args.rules.now).sheet) (ap see.test c.in-Not.is ∙ see_not c.in-Not.inner) c.requires.test))

pub holds-returns-in-True : goal.holds-returns-in-True
holds-returns-in-True t c = λ x is. sym (ap (λ w. holds_by w (finds x c.args.looks.now)) (ap see.test c.in-True.is ∙ see_true))

pub holds-returns-in-False : goal.holds-returns-in-False
holds-returns-in-False t c = λ x is. sym (ap (λ w. holds_by w (finds x c.args.looks.now)) (ap see.test c.in-False.is ∙ see_false))

pub holds-returns-in-Not : goal.holds-returns-in-Not
holds-returns-in-Not t c = λ x is.
    ap not (c.holds.ensures x is) ∙ sym (ap (λ w. holds_by w (finds x c.args.looks.now)) (ap see.test c.in-Not.is ∙ see_not c.in-Not.inner))

pub all_hold-holds-requires : goal.all_hold-holds-requires
all_hold-holds-requires t c =
    let left = left_test c.args.tests.now c.loop-test.test-index c.test-item.result c.loop-test-test.true c.test-item.is in
    (search (rules, the_lemmas), (c.requires.rules, (subst (ArePartTests (told c.args.rules.now).sheet) left c.loop-test.invariant.0).0))

pub all_hold-loop-test-preserved : goal.all_hold-loop-test-preserved
all_hold-loop-test-preserved t c =
    let left = left_test c.args.tests.now c.loop-test.test-index c.test-item.result c.loop-test-test.true c.test-item.is in (
      (subst (ArePartTests (told c.args.rules.now).sheet) left c.loop-test.invariant.0).1,
      λ x is. c.loop-test.invariant.1 x is ∙ all_on (finds x c.args.looks.now) c.holds.result (see.test c.test-item.result) _ _ left (c.holds.ensures x is) c.if-not-holds.false,
    )

pub all_hold-returns-then-not-holds : goal.all_hold-returns-then-not-holds
all_hold-returns-then-not-holds t c = λ x is.
    let left = left_test c.args.tests.now c.loop-test.test-index c.test-item.result c.loop-test-test.true c.test-item.is in
    sym (c.loop-test.invariant.1 x is ∙ all_off (finds x c.args.looks.now) c.holds.result (see.test c.test-item.result) _ _ left (c.holds.ensures x is) c.if-not-holds.true)

pub all_hold-returns : goal.all_hold-returns
all_hold-returns t c = λ x is.
    sym (c.loop-test.invariant.1 x is ∙ ap (λ l. all_hold_by (see.tests l) (finds x c.args.looks.now)) (drop_all c.loop-test.test-index c.args.tests.now c.loop-test-test.false))

pub some_holds-holds-requires : goal.some_holds-holds-requires
some_holds-holds-requires t c =
    let left = left_test c.args.tests.now c.loop-test.test-index c.test-item.result c.loop-test-test.true c.test-item.is in
    (search (rules, the_lemmas), (c.requires.rules, (subst (ArePartTests (told c.args.rules.now).sheet) left c.loop-test.invariant.0).0))

pub some_holds-loop-test-preserved : goal.some_holds-loop-test-preserved
some_holds-loop-test-preserved t c =
    let left = left_test c.args.tests.now c.loop-test.test-index c.test-item.result c.loop-test-test.true c.test-item.is in (
      (subst (ArePartTests (told c.args.rules.now).sheet) left c.loop-test.invariant.0).1,
      λ x is. c.loop-test.invariant.1 x is ∙ some_off (finds x c.args.looks.now) c.holds.result (see.test c.test-item.result) _ _ left (c.holds.ensures x is) c.if-holds.false,
    )

pub some_holds-returns-then-holds : goal.some_holds-returns-then-holds
some_holds-returns-then-holds t c = λ x is.
    let left = left_test c.args.tests.now c.loop-test.test-index c.test-item.result c.loop-test-test.true c.test-item.is in
    sym (c.loop-test.invariant.1 x is ∙ some_on (finds x c.args.looks.now) c.holds.result (see.test c.test-item.result) _ _ left (c.holds.ensures x is) c.if-holds.true)

pub some_holds-returns : goal.some_holds-returns
some_holds-returns t c = λ x is.
    sym (c.loop-test.invariant.1 x is ∙ ap (λ l. some_holds_by (see.tests l) (finds x c.args.looks.now)) (drop_all c.loop-test.test-index c.args.tests.now c.loop-test-test.false))
