use Rattle.tc_dtd.proofs.ContentsLaws.{a_prefix, this_name}
use Rattle.tc_dtd.proofs.contents.element_name.Goals as goal

pub returns-then-begins-clause-no : goal.returns-then-begins-clause-no
returns-then-begins-clause-no c = let (r, e) = c.if-begins.ensures in a_prefix c.args.text.now c.in-Some.name.now c.in-Some.rest.now r c.in-Some.ensures e

pub returns-clause-ok : goal.returns-clause-ok
returns-clause-ok c = this_name c.args.text.now c.in-Some.name.now c.in_ok-name.name.now c.in-Some.rest.now c.in-Some.ensures c.if-begins.ensures c.in_ok-name.ensures
