use Rattle.std.proofs.Common.{sym, ◌∙◌}
use Rattle.tc_path.proofs.PatternLoops.{no_tokens, some_tokens}
use Rattle.tc_path.proofs.PhraseLaws.{handed_on}
use Rattle.tc_path.proofs.Refusals.{failed_ok}
use Rattle.tc_path.proofs.WholeLaws.{memory_on, test_ends, test_goes_on, no_test}
use Rattle.tc_path.proofs.whole.whole_test.Goals as goal

pub returns-then-is_empty-clause-ok : goal.returns-then-is_empty-clause-ok
returns-then-is_empty-clause-ok c =
    test_ends c.in_ok-known.ensures.ok _ (no_tokens c.in_ok-tests.rest.now (sym c.is_empty.ensures ∙ c.if-is_empty.true)) c.in_ok-tests.ensures.0 c.disjunction.ensures

pub returns-else-is_empty-clause-no : goal.returns-else-is_empty-clause-no
returns-else-is_empty-clause-no c = test_goes_on c.in_ok-known.ensures.ok (some_tokens c.in_ok-tests.rest.now (sym c.is_empty.ensures ∙ c.if-is_empty.false)) c.in_ok-tests.ensures.0

pub returns-in_err-known-clause-ok : goal.returns-in_err-known-clause-ok
returns-in_err-known-clause-ok c = failed_ok c.from_residual.result _ _ c.from_residual.ensures.1

pub returns-in_err-known-clause-no : goal.returns-in_err-known-clause-no
returns-in_err-known-clause-no c = memory_on _ c.from_residual.result _ c.from_residual.ensures.1 c.in_err-known.ensures.no

pub returns-in_err-tests-clause-ok : goal.returns-in_err-tests-clause-ok
returns-in_err-tests-clause-ok c = failed_ok c.from_residual-in_err-tests.result _ _ c.from_residual-in_err-tests.ensures.1

pub returns-in_err-tests-clause-no : goal.returns-in_err-tests-clause-no
returns-in_err-tests-clause-no c = handed_on c.from_residual-in_err-tests.result _ c.from_residual-in_err-tests.ensures.1 (no_test c.in_ok-known.ensures.ok) c.in_err-tests.ensures
