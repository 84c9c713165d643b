use Rattle.tc_decide.proofs.Verifications.{by_no_form}
use Rattle.tc_decide.proofs.verifying.verify_fitting.Goals as goal
use Rattle.tc_rows.specs.Triples as t

pub verify_data-requires-clause-formed : goal.verify_data-requires-clause-formed
verify_data-requires-clause-formed c = c.in-Ok.ensures.ok.formed

pub returns-in-Ok : goal.returns-in-Ok
returns-in-Ok c = λ x is within_limits. c.verify_data.ensures x is within_limits c.args.text.now c.in-Ok.ensures.ok

pub returns-in-Err : goal.returns-in-Err
returns-in-Err c = λ x is within_limits. by_no_form c.args.text.now x.input x.output (t.sheet x) c.no_form.result within_limits (c.no_form.ensures c.args.text.now c.in-Err.ensures.fault)
