use Rattle.std.proofs.lemmas.Result.{IfErr-weaker, IfOk-weaker}
use Rattle.tc_sheet.specs.Readings.{alone}
use Rattle.tc_sheet.proofs.Refused.{handed_on, refused}
use Rattle.tc_sheet.proofs.Unrefused.{test_weighed}
use Rattle.tc_sheet.proofs.Passed.{no_value}
use Rattle.tc_sheet.proofs.bodies.test_of.Goals as goal

pub only_attributes-requires-clause-weighed : goal.only_attributes-requires-clause-weighed
only_attributes-requires-clause-weighed c = test_weighed c.requires.test

pub returns-in_err-only_attributes-clause-no : goal.returns-in_err-only_attributes-clause-no
returns-in_err-only_attributes-clause-no c = handed_on _ c.from_residual.result c.in_err-only_attributes.field-0.0 c.from_residual.ensures.1 (refused (alone c.args.element.now) (λ d h olds when b y. h olds b y.only) c.in_err-only_attributes.field-0.0 c.in_err-only_attributes.ensures.no)

pub returns-clause-ok : goal.returns-clause-ok
returns-clause-ok c = IfOk-weaker c.required_test.result _ _ (λ when h. record { only = c.in_ok-only_attributes.ensures.ok; test = h }) c.required_test.ensures.ok

pub returns-clause-no : goal.returns-clause-no
returns-clause-no c = IfErr-weaker c.required_test.result _ _ (λ x r. refused (alone c.args.element.now) (λ d h olds when b y. h olds when b y.test) x r) c.required_test.ensures.no

pub returns-in_err-only_attributes-clause-ok : goal.returns-in_err-only_attributes-clause-ok
returns-in_err-only_attributes-clause-ok c = no_value c.from_residual.result _ _ c.from_residual.ensures.1
