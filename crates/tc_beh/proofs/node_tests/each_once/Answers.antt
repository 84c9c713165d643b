use Rattle.std.proofs.Common.{subst, sym}
use Rattle.std.proofs.lemmas.List.{drop_all, get_or_default}
use Rattle.tc_beh.specs.AlikeSymbols.{asked_tests, seen}
use Rattle.tc_beh.proofs.AskedTests.{AreSoFar, none_so_far, one_more, all_asked}
use Rattle.tc_beh.proofs.Steps.{no_value}
use Rattle.tc_beh.proofs.node_tests.each_once.Goals as goal

pub loop-test-init : goal.loop-test-init
loop-test-init c = subst (λ ks. AreSoFar (seen c.args.tests.now) (seen c.args.tests.now) (asked_tests ks)) (sym c.new-found.ensures.empty) (none_so_far (seen c.args.tests.now))

pub loop-test-preserved : goal.loop-test-preserved
loop-test-preserved c =
    one_more c.args.tests.now c.loop-test.test-index _ c.loop-test-test.true (get_or_default c.args.tests.now c.loop-test.test-index _ _ c.loop-test-test.true) (asked_tests c.loop-test.found.keys) (asked_tests c.put.new.found.keys) c.loop-test.invariant
    c.in_ok-put.ensures

pub returns : goal.returns
returns c = all_asked (seen c.args.tests.now) (asked_tests c.loop-test.found.keys) (subst (λ l. AreSoFar (seen c.args.tests.now) (seen l) (asked_tests c.loop-test.found.keys)) (drop_all c.loop-test.test-index c.args.tests.now c.loop-test-test.false) c.loop-test.invariant)

pub returns-in_err-put : goal.returns-in_err-put
returns-in_err-put c = no_value c.from_residual.result _ _ c.from_residual.ensures.1
