use Rattle.std.proofs.Common.{◌≡◌, drop}
use Rattle.tc_model.specs.Machine as machine
use Rattle.tc_model.specs.Views as see
use Rattle.tc_run.specs.Lettered.{bare}
use Rattle.tc_rules.specs.Parts.{ArePartTests}
use Rattle.tc_run.specs.Running.{looking, sheet_by}
use Rattle.tc_run.specs.Sights.{AreSeenBy}
use Rattle.tc_run.specs.Views.{trees}
use Rattle.tc_run.proofs.looks.+tests.Given as goal

-- all tests so far hold, or none does
abbrev pub invariant-all_hold-loop-test : goal.invariant-all_hold-loop-test
invariant-all_hold-loop-test l =
    AreSeenBy l.runner l.known × ArePartTests (sheet_by l.runner) (see.tests (drop l.test-index l.tests))
    × (machine.all_hold_in (looking l.runner) (see.tests l.tests) (bare (trees l.kids)) ≡ machine.all_hold_in (looking l.runner) (see.tests (drop l.test-index l.tests)) (bare (trees l.kids)))

abbrev pub invariant-some_holds-loop-test : goal.invariant-some_holds-loop-test
invariant-some_holds-loop-test l =
    AreSeenBy l.runner l.known × ArePartTests (sheet_by l.runner) (see.tests (drop l.test-index l.tests))
    × (machine.some_holds_in (looking l.runner) (see.tests l.tests) (bare (trees l.kids)) ≡ machine.some_holds_in (looking l.runner) (see.tests (drop l.test-index l.tests)) (bare (trees l.kids)))
