use Rattle.tc_scan.proofs.ReferenceLaws.{cut_after_digits, all_digits}
use Rattle.tc_scan.proofs.references.by_number.Goals as goal

pub split_at-requires : goal.split_at-requires
split_at-requires c = cut_after_digits c.args.base c.digits_len-count.result c.args.text.now c.requires.1 c.digits_len-count.ensures.count c.utf8.text

pub numbered-requires-clause-digits : goal.numbered-requires-clause-digits
numbered-requires-clause-digits c = all_digits c.args.base c.digits_len-count.result c.args.text.now c.split_at.result.0.now c.digits_len-count.ensures.count c.split_at.ensures.front
