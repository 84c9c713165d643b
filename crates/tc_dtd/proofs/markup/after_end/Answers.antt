use Rattle.tc_dtd.proofs.MarkupLaws.{an_end, no_end}
use Rattle.tc_dtd.proofs.markup.after_end.Goals as goal

pub returns-in-Some-clause-ok : goal.returns-in-Some-clause-ok
returns-in-Some-clause-ok c = an_end c.args.text.now c.after_white-end.result.now c.in-Some.after.now c.after_white-end.ensures c.in-Some.ensures

pub returns-in-None-clause-no : goal.returns-in-None-clause-no
returns-in-None-clause-no c = no_end c.args.text.now c.after_white-end.result.now c.unexpected.result c.after_white-end.ensures c.in-None.ensures c.unexpected.ensures
