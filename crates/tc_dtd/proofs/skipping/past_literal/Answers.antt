use Rattle.tc_dtd.specs.DtdTextDeclarations.{is_within}
use Rattle.tc_dtd.proofs.MarkupLaws.{passed_at, cut_literal, ends_within}
use Rattle.tc_dtd.proofs.skipping.past_literal.Goals as goal

pub range_from-requires : goal.range_from-requires
range_from-requires c = λ _.
    cut_literal c.args.references c.args.quote c.args.text.now c.literal_len-count.result c.requires c.utf8.text c.literal_len-count.ensures.count c.literal_len-count.ensures.within c.if-count-text.false

pub returns : goal.returns
returns c =
    let at =
    passed_at (is_within c.args.references c.args.quote) c.args.text.now c.as_bytes.result.now c.range_from.result.now c.literal_len-count.result c.literal_len-count.ensures.count c.literal_len-count.ensures.within
    c.if-count-text.false c.as_bytes.ensures.value c.range_from.ensures.value in
    (at, ends_within c.args.references c.args.quote c.args.text.now _ c.range_from.result.now at)
