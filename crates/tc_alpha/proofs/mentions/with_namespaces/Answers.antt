use Rattle.tc_alpha.proofs.Errors.{error_no_value}
use borrow.Author.Count.{falls}
use Rattle.tc_alpha.proofs.mentions.with_namespaces.Goals as goal

pub returns-in_err-add : goal.returns-in_err-add
returns-in_err-add c = error_no_value c.from_residual.result _ _ c.from_residual.ensures.1

pub returns-in_err-add-2 : goal.returns-in_err-add-2
returns-in_err-add-2 c = error_no_value c.from_residual-in_err-add-2.result _ _ c.from_residual-in_err-add-2.ensures.1

pub bounds-found-mention-index : goal.bounds-found-mention-index
bounds-found-mention-index c = c.loop-mention-test.true

pub loop-mention-smaller : goal.loop-mention-smaller
loop-mention-smaller c = falls _ c.loop-mention.mention-index c.loop-mention-test.true
