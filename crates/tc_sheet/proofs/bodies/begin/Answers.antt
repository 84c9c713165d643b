use Rattle.tc_sheet.specs.Views.{instruction}
use Rattle.tc_sheet.proofs.Refused.{handed_on}
use Rattle.tc_sheet.proofs.BodyLaws.{literal_refuses, literal_around, begun_ok, begun_no, misplaced_in_body}
use Rattle.std.proofs.Common.{sym}
use Rattle.tc_sheet.proofs.Passed.{no_value}
use Rattle.tc_sheet.proofs.bodies.begin.Goals as goal

pub returns-in_err-check_literal_attributes-clause-no : goal.returns-in_err-check_literal_attributes-clause-no
returns-in_err-check_literal_attributes-clause-no c = handed_on _ c.from_residual.result c.in_err-check_literal_attributes.field-0.0 c.from_residual.ensures.1 (literal_refuses c.args.element.now c.if-not-is_xslt.ensures c.in_err-check_literal_attributes.field-0.0 c.in_err-check_literal_attributes.ensures.no)

pub returns-then-not-is_xslt-clause-ok : goal.returns-then-not-is_xslt-clause-ok
returns-then-not-is_xslt-clause-ok c = literal_around c.args.element.now c.if-not-is_xslt.ensures c.in_ok-check_literal_attributes.ensures.ok

pub returns-in-Some-clause-ok : goal.returns-in-Some-clause-ok
returns-in-Some-clause-ok c = begun_ok c.args.element.now (instruction c.in-Some.instruction) (sym c.in-Some.ensures) c.begin_instruction.result c.begin_instruction.ensures.ok

pub returns-in-Some-clause-no : goal.returns-in-Some-clause-no
returns-in-Some-clause-no c = begun_no c.args.element.now (instruction c.in-Some.instruction) (sym c.in-Some.ensures) c.begin_instruction.result c.begin_instruction.ensures.no

pub returns-in-None-clause-no : goal.returns-in-None-clause-no
returns-in-None-clause-no c = misplaced_in_body c.args.element.now c.if-not-is_xslt.ensures (sym c.in-None.ensures) c.misplaced.result c.misplaced.ensures

pub returns-in_err-check_literal_attributes-clause-ok : goal.returns-in_err-check_literal_attributes-clause-ok
returns-in_err-check_literal_attributes-clause-ok c = no_value c.from_residual.result _ _ c.from_residual.ensures.1

pub returns-then-not-is_xslt-clause-no : goal.returns-then-not-is_xslt-clause-no
returns-then-not-is_xslt-clause-no c = tt

pub returns-in-None-clause-ok : goal.returns-in-None-clause-ok
returns-in-None-clause-ok c = tt
