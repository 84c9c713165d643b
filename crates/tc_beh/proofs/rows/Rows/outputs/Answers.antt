use Rattle.tc_beh.proofs.InOrder.{one_list_more}
use Rattle.tc_beh.proofs.Steps.{no_value}
use Rattle.tc_beh.proofs.rows.Rows.outputs.Goals as goal

pub loop-number-preserved : goal.loop-number-preserved
loop-number-preserved c =
    one_list_more c.args.self.now.outputs.matrices c.loop-number.number c.get.result.now c.in_ok-pairs.pairs c.loop-number.lists c.push.new.self c.get.ensures.matrix c.in_ok-pairs.ensures c.loop-number.invariant c.in_ok-push.ensures.ok

pub returns-in_err-pairs : goal.returns-in_err-pairs
returns-in_err-pairs c = no_value c.from_residual.result _ _ c.from_residual.ensures.1

pub returns-in_err-push : goal.returns-in_err-push
returns-in_err-push c = no_value c.from_residual-in_err-push.result _ _ c.from_residual-in_err-push.ensures.1
