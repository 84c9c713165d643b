use Rattle.std.proofs.Common.{Bor, arith}
use Rattle.tc_model.specs.SameTests.{same_test}
use Rattle.tc_model.specs.Views as see
use Rattle.tc_model.specs.declared.sheet.Test.{Test}
use Rattle.tc_rules.proofs.Searched.{number_goes, number_found, number_past}
use Rattle.tc_rules.proofs.once.number_of_test.Goals as goal

pub loop-i-preserved : goal.loop-i-preserved
loop-i-preserved c = number_goes (λ (t : Bor Test). see.test t.now) same_test (see.test c.args.test.now) _ c.args.numbered.now c.loop-i.i c.loop-i.invariant _ c.same_test.result c.loop-i-test.true c.same_test.ensures c.if-same_test.false

pub returns-then-same_test-clause-number : goal.returns-then-same_test-clause-number
returns-then-same_test-clause-number c = number_found (λ (t : Bor Test). see.test t.now) same_test (see.test c.args.test.now) _ c.args.numbered.now c.loop-i.i c.loop-i.invariant _ c.same_test.result c.loop-i-test.true c.same_test.ensures c.if-same_test.true

pub returns-then-same_test-clause-bound : goal.returns-then-same_test-clause-bound
returns-then-same_test-clause-bound c = omega (arith, c.loop-i-test.true)

pub returns-clause-number : goal.returns-clause-number
returns-clause-number c = number_past (λ (t : Bor Test). see.test t.now) same_test (see.test c.args.test.now) _ c.args.numbered.now c.loop-i.i c.loop-i.invariant _ c.loop-i-test.false (omega arith)
