use Rattle.std.proofs.Common.{subst, sym, IsCharBoundary}
use Rattle.tc_path.proofs.Digits.{cut_after_digits}
use Rattle.tc_path.proofs.front.after_digits.Goals as goal

pub range_from-requires : goal.range_from-requires
range_from-requires c = λ _. subst (IsCharBoundary c.args.text.now) (sym c.digits_len-count.ensures.count) (cut_after_digits c.args.text.now c.utf8.text)
