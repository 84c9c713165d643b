use Rattle.tc_rules.proofs.Steps.{moved, nothing_left, look_tests, no_look_left}
use Rattle.tc_rules.proofs.walk.+look_tests.Goals as goal

pub looks_in_tests-loop-test-preserved : goal.looks_in_tests-loop-test-preserved
looks_in_tests-loop-test-preserved t c =
    moved _ _ _ _ _ _ c.in_ok-looks_in_test.ensures (look_tests _ c.loop-test.test-index _ c.loop-test-test.true c.test-item.is) c.loop-test.invariant

pub looks_in_tests-returns : goal.looks_in_tests-returns
looks_in_tests-returns t c = nothing_left _ _ _ (no_look_left _ c.loop-test.test-index c.loop-test-test.false) c.loop-test.invariant
