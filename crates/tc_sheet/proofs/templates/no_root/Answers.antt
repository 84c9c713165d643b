use Rattle.tc_model.specs.Views.{attribute}
use Rattle.tc_sheet.proofs.TemplateLaws.{no_root_cause, no_simplified, simplified_cause}
use Rattle.tc_sheet.proofs.templates.no_root.Goals as goal

pub returns-then-is_xslt-clause-cause : goal.returns-then-is_xslt-clause-cause
returns-then-is_xslt-clause-cause c = no_root_cause c.args.element.now c.requires (λ s. s.literal c.if-is_xslt.ensures)

pub returns-in-Some-clause-cause : goal.returns-in-Some-clause-cause
returns-in-Some-clause-cause c = simplified_cause c.args.element.now (attribute c.in-Some._version.now) c.requires c.if-is_xslt.ensures c.in-Some.ensures.has c.in-Some.ensures.name

pub returns-in-None-clause-cause : goal.returns-in-None-clause-cause
returns-in-None-clause-cause c = no_root_cause c.args.element.now c.requires (no_simplified c.args.element.now c.in-None.ensures.none)
