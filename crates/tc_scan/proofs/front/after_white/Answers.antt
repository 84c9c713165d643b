use Rattle.std.proofs.Common.{subst, sym, IsCharBoundary}
use Rattle.tc_scan.proofs.FrontLaws.{cut_after_white}
use Rattle.tc_scan.proofs.front.after_white.Goals as goal

pub range_from-requires : goal.range_from-requires
range_from-requires c = λ _. subst (IsCharBoundary c.args.text.now) (sym c.white_len-count.ensures.count) (cut_after_white c.args.text.now c.utf8.text)
