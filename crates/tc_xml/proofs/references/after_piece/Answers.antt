use Rattle.tc_model.specs.XmlTextBytes.{line_ends}
use Rattle.tc_model.specs.XmlTextReferences.{spaced}
use Rattle.tc_tags.specs.Values.{plain, reference}
use Rattle.tc_xml.proofs.references.after_piece.Goals as goal
use Rattle.tc_tags.proofs.ValueLaws.{cut_after_plain, run_at}

pub split_at-requires : goal.split_at-requires
split_at-requires c = cut_after_plain c.args.quote c.plain_len_within-count.result c.args.text.now c.requires c.plain_len_within-count.ensures.count

pub returns-in-Ok : goal.returns-in-Ok
returns-in-Ok c = (_, reference c.in-Ok.ensures.ok)

pub returns : goal.returns
returns c = (
  spaced (line_ends c.split_at.result.0.now),
  plain (run_at c.args.quote c.plain_len_within-count.result c.args.text.now c.split_at.result.0.now _ c.plain_len_within-count.ensures.count c.if-count-eq0.false c.split_at.ensures.front c.split_at.ensures.back),
)
