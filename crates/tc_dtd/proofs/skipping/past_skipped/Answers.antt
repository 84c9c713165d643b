use Rattle.tc_dtd.specs.DtdTextDeclarations.{is_skipped}
use Rattle.tc_dtd.proofs.MarkupLaws.{passed_at, cut_skipped, ends_skipped}
use Rattle.tc_dtd.proofs.skipping.past_skipped.Goals as goal

pub range_from-requires : goal.range_from-requires
range_from-requires c = λ _. cut_skipped c.args.text.now c.skipped_len-count.result c.utf8.text c.skipped_len-count.ensures.count c.skipped_len-count.ensures.within c.if-count-text.false

pub returns : goal.returns
returns c =
    let at =
    passed_at is_skipped c.args.text.now c.as_bytes.result.now c.range_from.result.now c.skipped_len-count.result c.skipped_len-count.ensures.count c.skipped_len-count.ensures.within c.if-count-text.false
    c.as_bytes.ensures.value c.range_from.ensures.value in
    (at, ends_skipped c.args.text.now _ c.range_from.result.now at)
