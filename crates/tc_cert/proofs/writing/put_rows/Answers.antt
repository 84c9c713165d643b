use Rattle.tc_cert.proofs.Ends.{first_of_three, second_of_three, third_put, third_fault}
use Rattle.tc_cert.proofs.writing.put_rows.Goals as goal

pub returns-in_err-put_trees-clause-cause : goal.returns-in_err-put_trees-clause-cause
returns-in_err-put_trees-clause-cause c = first_of_three c.args.text.now _ _ _ c.from_residual.result c.in_err-put_trees.field-0.0 c.from_residual.ensures.1 c.in_err-put_trees.ensures.cause

pub returns-in_err-put_hedges-clause-cause : goal.returns-in_err-put_hedges-clause-cause
returns-in_err-put_hedges-clause-cause c = second_of_three c.args.text.now c.put_trees.new.text _ _ _ c.from_residual-in_err-put_hedges.result c.in_err-put_hedges.field-0.0 c.from_residual-in_err-put_hedges.ensures.1 c.in_ok-put_trees.ensures.ok c.in_err-put_hedges.ensures.cause

pub returns-clause-ok : goal.returns-clause-ok
returns-clause-ok c = third_put c.args.text.now c.put_trees.new.text c.put_hedges.new.text c.put.new.self _ _ _ c.put.result c.in_ok-put_trees.ensures.ok c.in_ok-put_hedges.ensures.ok c.put.ensures.ok

pub returns-clause-cause : goal.returns-clause-cause
returns-clause-cause c = third_fault c.args.text.now c.put_trees.new.text c.put_hedges.new.text _ _ _ c.put.result c.in_ok-put_trees.ensures.ok c.in_ok-put_hedges.ensures.ok c.put.ensures.cause
