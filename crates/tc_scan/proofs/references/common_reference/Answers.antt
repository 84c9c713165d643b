use Rattle.tc_scan.proofs.ReferenceLaws.{amp_at, lt_at, gt_at}
use Rattle.tc_scan.proofs.references.common_reference.Goals as goal

pub returns-in-Some : goal.returns-in-Some
returns-in-Some c = amp_at c.args.text.now c.in-Some.rest.now c.in-Some.ensures

pub returns-in-Some-after_mark : goal.returns-in-Some-after_mark
returns-in-Some-after_mark c = lt_at c.args.text.now c.in-Some-after_mark.rest.now c.in-Some-after_mark.ensures

pub returns : goal.returns
returns c = gt_at c.args.text.now c.in_ok-after_mark.field-0.now c.in_ok-after_mark.ensures
