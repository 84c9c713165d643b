use Rattle.std.proofs.Common.{get_or, refl}
use Rattle.tc_close.proofs.Pushed.{pushed_taken}
use Rattle.tc_close.proofs.HandedOn.{no_value}
use Rattle.tc_close.proofs.order.ranked.Goals as goal

pub loop-place-preserved : goal.loop-place-preserved
loop-place-preserved c =
    pushed_taken (λ n. get_or c.args.ranks.now n 0) c.args.numbers.now c.loop-place.place c.get.result.now c.loop-place.list c.push.new.self _ c.get.ensures c.loop-place.invariant c.in_ok-push.ensures.ok refl

pub returns-in_err-push : goal.returns-in_err-push
returns-in_err-push c = no_value c.from_residual.result _ _ c.from_residual.ensures.1
