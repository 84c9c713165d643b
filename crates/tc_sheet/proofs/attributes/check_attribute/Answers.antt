use Rattle.std.proofs.Common.{sym, map}
use Rattle.tc_model.specs.Views.{attribute}
use Rattle.tc_sheet.specs.Readings.{alone}
use Rattle.tc_sheet.proofs.Refused.{fault_refuses}
use Rattle.tc_sheet.proofs.AttributeLaws.{not_only}
use Rattle.tc_sheet.proofs.attributes.check_attribute.Goals as goal

pub returns-else-is_expected-clause-no : goal.returns-else-is_expected-clause-no
returns-else-is_expected-clause-no c = fault_refuses (alone c.args.element.now) (λ k. not_only c.args.element.now (map (λ w. w.now) c.args.locals.now) (attribute c.args.attribute.now) c.requires.own.has (sym c.if-is_expected.ensures) k) c.unexpected.result c.unexpected.ensures

pub returns-else-is_expected-clause-ok : goal.returns-else-is_expected-clause-ok
returns-else-is_expected-clause-ok c = tt
