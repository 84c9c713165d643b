use Rattle.tc_dtd.proofs.ContentsLaws.{a_colon, no_name_stops}
use Rattle.tc_dtd.proofs.contents.no_name.Goals as goal

pub returns-then-begins : goal.returns-then-begins
returns-then-begins c = let (r, e) = c.if-begins.ensures in a_colon c.args.text.now r e

pub returns : goal.returns
returns c = no_name_stops c.args.text.now c.unexpected.result c.requires c.if-begins.ensures c.unexpected.ensures
