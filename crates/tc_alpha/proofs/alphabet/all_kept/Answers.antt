use Rattle.tc_alpha.proofs.Errors.{error_no_value}
use borrow.Author.Count.{falls}
use Rattle.tc_alpha.proofs.alphabet.all_kept.Goals as goal

pub returns-in_err-kept : goal.returns-in_err-kept
returns-in_err-kept c = error_no_value c.from_residual.result _ _ c.from_residual.ensures.1

pub returns-in_err-push : goal.returns-in_err-push
returns-in_err-push c = error_no_value c.from_residual-in_err-push.result _ _ c.from_residual-in_err-push.ensures.1

pub bounds-mentions-mention-index : goal.bounds-mentions-mention-index
bounds-mentions-mention-index c = c.loop-mention-test.true

pub loop-mention-smaller : goal.loop-mention-smaller
loop-mention-smaller c = falls _ c.loop-mention.mention-index c.loop-mention-test.true
