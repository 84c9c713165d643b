use Rattle.std.proofs.Common.{arith}
use Rattle.tc_sheet.proofs.NumberLaws.{rules_end, rules_step}
use Rattle.tc_sheet.proofs.numbering.eaches_in_rules.Goals as goal

pub loop-template-init : goal.loop-template-init
loop-template-init c = omega arith

pub loop-template-preserved : goal.loop-template-preserved
loop-template-preserved c = rules_step c.args.templates.now c.loop-template.template-index _ c.loop-template-test.true c.loop-template.count c.in_ok-count.count _ c.in_ok-count.ensures.ok c.loop-template.invariant

pub returns-clause-ok : goal.returns-clause-ok
returns-clause-ok c = rules_end c.args.templates.now c.loop-template.template-index c.loop-template.count _ c.loop-template-test.false c.loop-template.invariant

pub returns-clause-no : goal.returns-clause-no
returns-clause-no c = tt
