use Rattle.std.proofs.Common.{sym}
use Rattle.tc_model.specs.Views.{attribute}
use Rattle.tc_sheet.specs.Readings.{alone}
use Rattle.tc_sheet.proofs.Refused.{fault_refuses}
use Rattle.tc_sheet.proofs.AttributeLaws.{not_literal}
use Rattle.tc_sheet.proofs.attributes.check_literal_attribute.Goals as goal

pub returns-else-is_passed_over-clause-no : goal.returns-else-is_passed_over-clause-no
returns-else-is_passed_over-clause-no c = fault_refuses (alone c.args.element.now) (λ k. not_literal c.args.element.now (attribute c.args.attribute.now) c.requires.has (sym c.if-is_passed_over.ensures) k) c.unexpected_in_literal.result c.unexpected_in_literal.ensures

pub returns-else-is_passed_over-clause-ok : goal.returns-else-is_passed_over-clause-ok
returns-else-is_passed_over-clause-ok c = tt
