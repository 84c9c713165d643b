use Rattle.std.proofs.Common.{true, false, sym, ◌∙◌, ap, ◌++◌}
use Rattle.tc_scan.proofs.FrontLaws.{cut_after_mark, begun, not_begun, same_start}
use Rattle.tc_scan.proofs.front.after_mark.Goals as goal

pub range_from-requires : goal.range_from-requires
range_from-requires c = λ _.
    cut_after_mark c.args.mark.now c.args.text.now c.utf8.text c.utf8.mark
    (same_start true _ _ c.args.text.now c.args.mark.now c.as_bytes.ensures.value c.as_bytes-2.ensures.value c.if-starts_with.ensures.value)

pub returns-then-starts_with : goal.returns-then-starts_with
returns-then-starts_with c =
    begun c.args.mark.now c.args.text.now
    (same_start true _ _ c.args.text.now c.args.mark.now c.as_bytes.ensures.value c.as_bytes-2.ensures.value c.if-starts_with.ensures.value)
    ∙ ap (λ w. c.args.mark.now ++ w) (sym c.range_from.ensures.value)

pub returns-else-starts_with : goal.returns-else-starts_with
returns-else-starts_with c = λ r.
    not_begun c.args.mark.now c.args.text.now r
    (same_start false _ _ c.args.text.now c.args.mark.now c.as_bytes.ensures.value c.as_bytes-2.ensures.value c.if-starts_with.ensures.value)
