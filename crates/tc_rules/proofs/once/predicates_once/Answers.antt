use Rattle.std.proofs.Common.{Bor, arith}
use Rattle.tc_model.specs.Numbered.{each_once}
use Rattle.tc_model.specs.SameTests.{same_test}
use Rattle.tc_model.specs.Views as see
use Rattle.tc_model.specs.declared.sheet.Test.{Test}
use Rattle.tc_rules.specs.Views.{predicates}
use Rattle.tc_rules.proofs.Built.{handed_on}
use Rattle.tc_rules.proofs.Distinct.{looked_at, predicates_passed}
use Rattle.tc_rules.proofs.Sameness.{once_begun, once_ended}
use Rattle.tc_rules.proofs.once.predicates_once.Goals as goal

pub loop-test-init : goal.loop-test-init
loop-test-init c = (
  once_begun same_test (λ (t : Bor Test). see.test t.now) (predicates c.args.found.now) c.new-kept.result.items c.new-kept.ensures.items,
  omega (arith, c.new-kept.ensures.len),
)

pub loop-test-preserved : goal.loop-test-preserved
loop-test-preserved c = (
  looked_at same_test (λ (t : Bor Test). see.test t.now) (each_once same_test (predicates c.args.found.now)) (predicates c.loop-test.kept.items) (predicates c.keep_predicate.new.kept.items) c.args.found.now c.loop-test.test-index _ (omega arith) c.in_ok-keep_predicate.ensures.kept
      c.loop-test.invariant.0,
  c.in_ok-keep_predicate.ensures.few,
)

pub returns-in_err-keep_predicate-clause-cause : goal.returns-in_err-keep_predicate-clause-cause
returns-in_err-keep_predicate-clause-cause c =
    handed_on c.from_residual.result c.in_err-keep_predicate.field-0.0 _ _ c.from_residual.ensures.1
    (predicates_passed c.args.found.now c.loop-test.test-index _ (predicates c.loop-test.kept.items) (omega arith) c.loop-test.invariant.0) c.in_err-keep_predicate.ensures.cause

pub returns-clause-kept : goal.returns-clause-kept
returns-clause-kept c =
    once_ended same_test (λ (t : Bor Test). see.test t.now) (each_once same_test (predicates c.args.found.now)) c.loop-test.kept.items c.args.found.now c.loop-test.test-index c.loop-test-test.false c.loop-test.invariant.0

pub returns-clause-few : goal.returns-clause-few
returns-clause-few c = c.loop-test.invariant.1
