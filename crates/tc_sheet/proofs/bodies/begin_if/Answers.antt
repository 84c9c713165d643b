use Rattle.tc_sheet.proofs.Refused.{handed_on}
use Rattle.tc_sheet.proofs.LeafLaws.{of_if_test}
use Rattle.tc_sheet.proofs.ReadLaws.{if_head}
use Rattle.tc_sheet.specs.Constructs.{of_if}
use Rattle.tc_sheet.proofs.Passed.{no_value}
use Rattle.tc_sheet.proofs.bodies.begin_if.Goals as goal

pub test_of-requires-clause-test : goal.test_of-requires-clause-test
test_of-requires-clause-test c = of_if c.requires

pub returns-in_err-test-clause-no : goal.returns-in_err-test-clause-no
returns-in_err-test-clause-no c = handed_on _ c.from_residual.result c.in_err-test.field-0.0 c.from_residual.ensures.1 (of_if_test c.args.element.now c.in_err-test.field-0.0 c.requires c.in_err-test.ensures.no)

pub returns-clause-ok : goal.returns-clause-ok
returns-clause-ok c = if_head c.args.element.now c.in_ok-test.test c.in_ok-test.ensures.ok

pub returns-in_err-test-clause-ok : goal.returns-in_err-test-clause-ok
returns-in_err-test-clause-ok c = no_value c.from_residual.result _ _ c.from_residual.ensures.1

pub returns-clause-no : goal.returns-clause-no
returns-clause-no c = tt
