use Rattle.std.proofs.Common.{subst, sym}
use Rattle.tc_cert.proofs.Lists.{PairsGoOn, no_pair, pairs_next, pairs_begun, pairs_done}
use Rattle.tc_cert.proofs.Steps.{no_value, no_memory}
use Rattle.tc_cert.proofs.pieces.pairs.Goals as goal

pub returns-in_default-pair-clause-no : goal.returns-in_default-pair-clause-no
returns-in_default-pair-clause-no c = λ _ p. no_pair c.loop-after.invariant c.in_default.ensures c.in_default-pair.ensures p.0 p.1 p.2

pub loop-after-preserved : goal.loop-after-preserved
loop-after-preserved c =
    subst (λ l. PairsGoOn c.args.bytes.now l c.in-Some-pair.behind.now) (sym c.in_ok-push.ensures.ok)
    (pairs_next c.loop-after.invariant c.in-Some-pair.ensures.1 c.in-Some-pair.ensures.2)

pub returns-in_err-push-clause-ok : goal.returns-in_err-push-clause-ok
returns-in_err-push-clause-ok c = no_value c.from_residual.result _ _ c.from_residual.ensures.1

pub loop-after-init : goal.loop-after-init
loop-after-init c = subst (λ l. PairsGoOn c.args.bytes.now l c.args.bytes.now) (sym c.new-found.ensures) (pairs_begun c.args.bytes.now)

pub returns-in-Some-clause-ok : goal.returns-in-Some-clause-ok
returns-in-Some-clause-ok c = pairs_done c.loop-after.invariant c.in-Some.ensures

pub returns-in-Some-clause-no : goal.returns-in-Some-clause-no
returns-in-Some-clause-no c = tt

pub returns-in_err-push-clause-no : goal.returns-in_err-push-clause-no
returns-in_err-push-clause-no c = no_memory _ c.from_residual.result c.from_residual.ensures.1
