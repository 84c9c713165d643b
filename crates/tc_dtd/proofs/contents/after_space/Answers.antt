use Rattle.tc_dtd.proofs.ContentsLaws.{some_space, no_space}
use Rattle.tc_dtd.proofs.contents.after_space.Goals as goal

pub returns-in-Some-clause-ok : goal.returns-in-Some-clause-ok
returns-in-Some-clause-ok c = some_space c.args.text.now c.in-Some.rest.now c.in-Some.ensures.0 c.in-Some.ensures.1

pub returns-in-None-clause-no : goal.returns-in-None-clause-no
returns-in-None-clause-no c = no_space c.args.text.now c.unexpected.result c.in-None.ensures c.unexpected.ensures
