use Rattle.std.proofs.Common.{sym, subst}
use Rattle.tc_stream.specs.TagEnds.{TellsEndTag}
use Rattle.tc_stream.proofs.TagSearch.{end_tag_found, end_tag_none}
use Rattle.tc_stream.proofs.tag_ends.end_of_end_tag.Goals as goal

pub returns-in_err-at : goal.returns-in_err-at
returns-in_err-at c = subst (TellsEndTag c.args.bytes.now) (sym c.from_residual.ensures) (end_tag_none c.args.bytes.now c.memchr.result c.memchr.ensures c.in_err-at.was)

pub returns : goal.returns
returns c = end_tag_found c.args.bytes.now c.memchr.result c.in_ok-at.at c.memchr.ensures c.in_ok-at.was
