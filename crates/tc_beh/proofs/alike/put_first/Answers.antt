use Rattle.std.proofs.Common.{rules}
use Rattle.tc_beh.proofs.FirstAlike.{firsts_more, known_first, new_first}
use Rattle.tc_beh.proofs.Steps.{not_done}
use Rattle.tc_beh.proofs.alike.put_first.Goals as goal

pub returns-in-Some-clause-firsts : goal.returns-in-Some-clause-firsts
returns-in-Some-clause-firsts c = λ key_at are here.
    let now = known_first key_at c.args.symbol c.args.known.now c.args.bits are.0 here c.in-Some.first (search rules) in
    (now.0, firsts_more key_at c.args.firsts.now.items c.push.new.self.items c.in-Some.first c.args.symbol c.requires c.in_ok-push.ensures.items are.1 now.1)

pub returns-clause-firsts : goal.returns-clause-firsts
returns-clause-firsts c = λ key_at are here.
    let now = new_first key_at c.args.symbol c.args.known.now c.args.bits are.0 here c.insert.new.self (search rules) c.in_ok-insert.ensures.updates in
    (now.0, firsts_more key_at c.args.firsts.now.items c.push-2.new.self.items c.args.symbol c.args.symbol c.requires c.in_ok-push-2.ensures.items are.1 now.1)

pub returns-in_err-push-clause-count : goal.returns-in_err-push-clause-count
returns-in_err-push-clause-count c = not_done c.from_residual.result _ _ c.from_residual.ensures.1

pub returns-in_err-push-clause-firsts : goal.returns-in_err-push-clause-firsts
returns-in_err-push-clause-firsts c = not_done c.from_residual.result _ _ c.from_residual.ensures.1

pub returns-in_err-insert-clause-count : goal.returns-in_err-insert-clause-count
returns-in_err-insert-clause-count c = not_done c.from_residual-in_err-insert.result _ _ c.from_residual-in_err-insert.ensures.1

pub returns-in_err-insert-clause-firsts : goal.returns-in_err-insert-clause-firsts
returns-in_err-insert-clause-firsts c = not_done c.from_residual-in_err-insert.result _ _ c.from_residual-in_err-insert.ensures.1

pub returns-in_err-push-2-clause-count : goal.returns-in_err-push-2-clause-count
returns-in_err-push-2-clause-count c = not_done c.from_residual-in_err-push-2.result _ _ c.from_residual-in_err-push-2.ensures.1

pub returns-in_err-push-2-clause-firsts : goal.returns-in_err-push-2-clause-firsts
returns-in_err-push-2-clause-firsts c = not_done c.from_residual-in_err-push-2.result _ _ c.from_residual-in_err-push-2.ensures.1
