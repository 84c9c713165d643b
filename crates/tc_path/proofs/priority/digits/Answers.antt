use Rattle.std.proofs.Common.{subst, sym, ap, ◌∙◌, take, IsCharBoundary}
use Rattle.std.specs.List.{list_all}
use Rattle.tc_model.specs.PathTextTokens.{is_digit}
use Rattle.tc_scan.proofs.FrontLaws.{same_range}
use Rattle.tc_path.proofs.Digits.{cut_after_digits}
use Rattle.tc_path.proofs.PriorityLaws.{all_digits}
use Rattle.tc_path.proofs.priority.digits.Goals as goal

pub range-requires-clause-end_boundary : goal.range-requires-clause-end_boundary
range-requires-clause-end_boundary c = subst (IsCharBoundary c.args.text.now) (sym c.digits_len-count.ensures.count) (cut_after_digits c.args.text.now c.utf8.text)

pub range_from-requires : goal.range_from-requires
range_from-requires c = λ _. subst (IsCharBoundary c.args.text.now) (sym c.digits_len-count.ensures.count) (cut_after_digits c.args.text.now c.utf8.text)

pub returns-clause-digits : goal.returns-clause-digits
returns-clause-digits c =
    ap (list_all is_digit) (c.range.ensures.value ∙ (same_range c.digits_len-count.result c.args.text.now ∙ ap (λ n. take n c.args.text.now) c.digits_len-count.ensures.count)) ∙ all_digits c.args.text.now
