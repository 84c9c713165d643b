use Rattle.tc_beh.proofs.AskedTests.{is_put, none_put}
use Rattle.tc_beh.proofs.Steps.{not_done}
use Rattle.tc_beh.proofs.node_tests.put.Goals as goal

pub returns-in_ok-insert : goal.returns-in_ok-insert
returns-in_ok-insert c = is_put c.in-Some.asked _ c.in-Some.ensures c.args.found.now.keys c.insert.new.self.keys c.in_ok-insert.ensures.keys

pub returns-in_default : goal.returns-in_default
returns-in_default c = none_put _ _ c.in_default.ensures

pub returns-in_err-insert : goal.returns-in_err-insert
returns-in_err-insert c = not_done c.from_residual.result _ _ c.from_residual.ensures.1
