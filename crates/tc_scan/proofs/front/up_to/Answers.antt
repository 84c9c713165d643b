use Rattle.std.proofs.Common.{◌∙◌}
use Rattle.tc_scan.proofs.FrontLaws.{cut_before_found, cut_behind_found, found, stands_at, same_range}
use Rattle.tc_scan.proofs.front.up_to.Goals as goal

pub range-requires-clause-end_boundary : goal.range-requires-clause-end_boundary
range-requires-clause-end_boundary c =
    let count = c.length_before-count.ensures in
    cut_before_found c.args.mark.now c.args.text.now c.length_before-count.result c.utf8.text c.requires.some c.requires.ascii count.within
    (stands_at c.args.mark.now c.args.text.now c.length_before-count.result count.count count.within c.if-count-text.false)

pub range_from-requires : goal.range_from-requires
range_from-requires c = λ _.
    let count = c.length_before-count.ensures in
    cut_behind_found c.args.mark.now c.args.text.now c.length_before-count.result c.utf8.text c.utf8.mark c.requires.some c.requires.ascii count.within
    (stands_at c.args.mark.now c.args.text.now c.length_before-count.result count.count count.within c.if-count-text.false)

pub returns : goal.returns
returns c =
    let count = c.length_before-count.ensures in
    found c.args.mark.now c.args.text.now c.range.result.now c.range_from.result.now c.length_before-count.result count.count
    (c.range.ensures.value ∙ same_range c.length_before-count.result c.args.text.now)
    (stands_at c.args.mark.now c.args.text.now c.length_before-count.result count.count count.within c.if-count-text.false) c.range_from.ensures.value
