use Rattle.std.proofs.Common.{is_some, refl, ap, ◌∙◌, sym, subst, rules}
use Rattle.tc_model.specs.Machine as machine
use Rattle.tc_model.specs.Views as see
use Rattle.tc_model.specs.declared.sheet.Test.TheViews.{the_lemmas}
use Rattle.tc_model.proofs.ViewsPath.{see_true, see_false, see_has, see_and, see_or}
use Rattle.tc_run.specs.Lettered as l
use Rattle.tc_rules.specs.Parts.{IsPartTest}
use Rattle.tc_run.specs.Running.{looking, sheet_by, symbols_by}
use Rattle.tc_run.specs.Views.{trees}
use Rattle.tc_rules.specs.Tasks.{looking_from}
use Rattle.tc_run.proofs.FirstHits.{none_first}
use Rattle.tc_run.proofs.Tested.{part_next, hold_further, one_fails, fail_further, one_holds, all_held, all_failed}
use Rattle.tc_run.proofs.looks.+tests.Goals as goal

pub holds-look_first-requires : goal.holds-look_first-requires
holds-look_first-requires t c = subst (IsPartTest (sheet_by c.args.runner.now)) (ap see.test c.in-Has.is ∙ see_has c.in-Has.path) c.requires.test

pub holds-all_hold-requires : goal.holds-all_hold-requires
holds-all_hold-requires t c =
    (search (rules, the_lemmas), (c.requires.kids, subst (IsPartTest (sheet_by c.args.runner.now)) (ap see.test c.in-And.is ∙ see_and c.in-And.tests) c.requires.test))

pub holds-some_holds-requires : goal.holds-some_holds-requires
holds-some_holds-requires t c =
    (search (rules, the_lemmas), (c.requires.kids, subst (IsPartTest (sheet_by c.args.runner.now)) (ap see.test c.in-Or.is ∙ see_or c.in-Or.tests) c.requires.test))

pub holds-returns-in-None-clause-holds : goal.holds-returns-in-None-clause-holds
holds-returns-in-None-clause-holds t c =
    let r = c.args.runner.now in
    let h = l.bare (trees c.args.kids.now) in
    sym (ap (λ w. machine.holds_in (looking r) w h) (ap see.test c.in-Has.is ∙ see_has c.in-Has.path)
    ∙ ap is_some (none_first r (see.path c.in-Has.path) h (c.in-None.ensures (symbols_by r) c.requires.kids.runner)))

pub holds-returns-in-Some-clause-holds : goal.holds-returns-in-Some-clause-holds
holds-returns-in-Some-clause-holds t c =
    let r = c.args.runner.now in
    let h = l.bare (trees c.args.kids.now) in
    let p = see.path c.in-Has.path in
    c.finds.ensures.answer (looking_from p) (c.in-Some.ensures (symbols_by r) c.requires.kids.runner)
    ∙ sym (ap (λ w. machine.holds_in (looking r) w h) (ap see.test c.in-Has.is ∙ see_has c.in-Has.path))

pub holds-returns-in-And-clause-holds : goal.holds-returns-in-And-clause-holds
holds-returns-in-And-clause-holds t c =
    c.all_hold.ensures.holds ∙ sym (ap (λ w. machine.holds_in (looking c.args.runner.now) w (l.bare (trees c.args.kids.now))) (ap see.test c.in-And.is ∙ see_and c.in-And.tests))

pub holds-returns-in-Or-clause-holds : goal.holds-returns-in-Or-clause-holds
holds-returns-in-Or-clause-holds t c =
    c.some_holds.ensures.holds ∙ sym (ap (λ w. machine.holds_in (looking c.args.runner.now) w (l.bare (trees c.args.kids.now))) (ap see.test c.in-Or.is ∙ see_or c.in-Or.tests))

pub all_hold-loop-test-init : goal.all_hold-loop-test-init
all_hold-loop-test-init t c = (c.requires.kids.known, c.requires.tests, refl)

pub all_hold-holds-requires : goal.all_hold-holds-requires
all_hold-holds-requires t c =
    let part = part_next (sheet_by c.args.runner.now) c.args.tests.now c.loop-test.test-index c.test-item.result c.loop-test-test.true c.test-item.is c.loop-test.invariant.1 in
    (search (rules, the_lemmas), (record { runner = c.requires.kids.runner; nodes = c.requires.kids.nodes; known = c.loop-test.invariant.0 }, part.0))

pub all_hold-loop-test-preserved : goal.all_hold-loop-test-preserved
all_hold-loop-test-preserved t c =
    let part = part_next (sheet_by c.args.runner.now) c.args.tests.now c.loop-test.test-index c.test-item.result c.loop-test-test.true c.test-item.is c.loop-test.invariant.1 in
    (c.holds.ensures.known, part.1, hold_further (looking c.args.runner.now) (l.bare (trees c.args.kids.now)) c.args.tests.now c.loop-test.test-index c.test-item.result c.holds.result _ c.loop-test-test.true c.test-item.is c.holds.ensures.holds c.loop-test.invariant.2 c.if-not-holds.false)

pub all_hold-returns-then-not-holds-clause-holds : goal.all_hold-returns-then-not-holds-clause-holds
all_hold-returns-then-not-holds-clause-holds t c = one_fails (looking c.args.runner.now) (l.bare (trees c.args.kids.now)) c.args.tests.now c.loop-test.test-index c.test-item.result c.holds.result _ c.loop-test-test.true c.test-item.is c.holds.ensures.holds c.loop-test.invariant.2 c.if-not-holds.true

pub all_hold-returns-clause-holds : goal.all_hold-returns-clause-holds
all_hold-returns-clause-holds t c = all_held (looking c.args.runner.now) (l.bare (trees c.args.kids.now)) c.args.tests.now c.loop-test.test-index _ c.loop-test-test.false c.loop-test.invariant.2

pub some_holds-loop-test-init : goal.some_holds-loop-test-init
some_holds-loop-test-init t c = (c.requires.kids.known, c.requires.tests, refl)

pub some_holds-holds-requires : goal.some_holds-holds-requires
some_holds-holds-requires t c =
    let part = part_next (sheet_by c.args.runner.now) c.args.tests.now c.loop-test.test-index c.test-item.result c.loop-test-test.true c.test-item.is c.loop-test.invariant.1 in
    (search (rules, the_lemmas), (record { runner = c.requires.kids.runner; nodes = c.requires.kids.nodes; known = c.loop-test.invariant.0 }, part.0))

pub some_holds-loop-test-preserved : goal.some_holds-loop-test-preserved
some_holds-loop-test-preserved t c =
    let part = part_next (sheet_by c.args.runner.now) c.args.tests.now c.loop-test.test-index c.test-item.result c.loop-test-test.true c.test-item.is c.loop-test.invariant.1 in
    (c.holds.ensures.known, part.1, fail_further (looking c.args.runner.now) (l.bare (trees c.args.kids.now)) c.args.tests.now c.loop-test.test-index c.test-item.result c.holds.result _ c.loop-test-test.true c.test-item.is c.holds.ensures.holds c.loop-test.invariant.2 c.if-holds.false)

pub some_holds-returns-then-holds-clause-holds : goal.some_holds-returns-then-holds-clause-holds
some_holds-returns-then-holds-clause-holds t c = one_holds (looking c.args.runner.now) (l.bare (trees c.args.kids.now)) c.args.tests.now c.loop-test.test-index c.test-item.result c.holds.result _ c.loop-test-test.true c.test-item.is c.holds.ensures.holds c.loop-test.invariant.2 c.if-holds.true

pub some_holds-returns-clause-holds : goal.some_holds-returns-clause-holds
some_holds-returns-clause-holds t c = all_failed (looking c.args.runner.now) (l.bare (trees c.args.kids.now)) c.args.tests.now c.loop-test.test-index _ c.loop-test-test.false c.loop-test.invariant.2

pub holds-returns-in-True-clause-holds : goal.holds-returns-in-True-clause-holds
holds-returns-in-True-clause-holds t c = sym (ap (λ w. machine.holds_in (looking c.args.runner.now) w (l.bare (trees c.args.kids.now))) (ap see.test c.in-True.is ∙ see_true))

pub holds-returns-in-False-clause-holds : goal.holds-returns-in-False-clause-holds
holds-returns-in-False-clause-holds t c = sym (ap (λ w. machine.holds_in (looking c.args.runner.now) w (l.bare (trees c.args.kids.now))) (ap see.test c.in-False.is ∙ see_false))
