use Rattle.tc_cert.proofs.ReadLines.{after_by_order}
use Rattle.tc_cert.proofs.Steps.{no_value}
use Rattle.tc_cert.proofs.reader.is_behind.Goals as goal

pub returns-in_ok-order-in-Some-clause-ok : goal.returns-in_ok-order-in-Some-clause-ok
returns-in_ok-order-in-Some-clause-ok c = after_by_order c.args.before c.in-Some.before c.args.pairs.now c.in_ok-order-in-Some.order c.is_less.result c.in-Some.is c.requires.0 c.requires.1 c.in_ok-order-in-Some.ensures c.is_less.ensures

pub returns-in_err-order-in-Some-clause-ok : goal.returns-in_err-order-in-Some-clause-ok
returns-in_err-order-in-Some-clause-ok c = no_value c.from_residual.result _ _ c.from_residual.ensures.1
