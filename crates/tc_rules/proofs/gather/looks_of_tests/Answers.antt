use Rattle.std.proofs.Common.{Bor, refl}
use Rattle.tc_model.specs.Numberings.{looks_in_test}
use Rattle.tc_model.specs.Views as see
use Rattle.tc_model.specs.declared.sheet.Test.{Test}
use Rattle.tc_rules.specs.Views.{looks}
use Rattle.tc_rules.proofs.Steps.{told_one, told_all}
use Rattle.tc_rules.proofs.gather.looks_of_tests.Goals as goal

pub loop-test-init : goal.loop-test-init
loop-test-init c = refl

pub loop-test-preserved : goal.loop-test-preserved
loop-test-preserved c =
    told_one looks_in_test (λ (t : Bor Test). see.test t.now) (looks c.loop-test.found.items) (looks c.looks_in_test.new.found.items) _ c.args.numbered.now c.loop-test.test-index _ c.loop-test-test.true
    c.in_ok-looks_in_test.ensures c.loop-test.invariant

pub returns : goal.returns
returns c =
    told_all looks_in_test (λ (t : Bor Test). see.test t.now) (looks c.loop-test.found.items) _ c.args.numbered.now c.loop-test.test-index c.loop-test-test.false c.loop-test.invariant
