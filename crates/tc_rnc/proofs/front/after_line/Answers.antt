use Rattle.tc_rnc.proofs.FrontLaws.{cut_after_line}
use Rattle.tc_rnc.proofs.front.after_line.Goals as goal

pub range_from-requires : goal.range_from-requires
range_from-requires c = λ _. cut_after_line c.args.text.now c.line_len-count.result c.utf8.text c.line_len-count.ensures.count
