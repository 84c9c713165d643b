use Rattle.tc_rnc.proofs.FrontLaws.{cut_after_line}
use Rattle.tc_rnc.proofs.front.line.Goals as goal

pub range-requires-clause-end_boundary : goal.range-requires-clause-end_boundary
range-requires-clause-end_boundary c = cut_after_line c.args.text.now c.line_len-count.result c.utf8.text c.line_len-count.ensures.count
