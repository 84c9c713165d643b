use Rattle.tc_cert.specs.Fields.{fields_of}
use Rattle.tc_cert.proofs.Numbers.{bool_apart}
use Rattle.tc_cert.proofs.ReadRows.{not_whole, is_whole}
use Rattle.tc_cert.proofs.Steps.{no_value}
use Rattle.tc_cert.proofs.rows.whole_behind.Goals as goal

pub returns-then-not-may_be_whole-clause-no : goal.returns-then-not-may_be_whole-clause-no
returns-then-not-may_be_whole-clause-no c = λ _.
    not_whole c.args.style c.args.kind (fields_of c.args.before.now) (fields_of c.in_ok-row.row) c.args.bytes.now c.in_ok-row.rest.now c.requires c.in_ok-row.ensures.ok
    (λ m. bool_apart c.may_be_whole.result (c.may_be_whole.ensures.1 m) c.if-not-may_be_whole.true)

pub returns-clause-ok : goal.returns-clause-ok
returns-clause-ok c = is_whole c.args.style c.args.kind (fields_of c.args.before.now) (fields_of c.in_ok-row.row) c.args.bytes.now c.in_ok-row.rest.now c.requires c.in_ok-row.ensures.ok (c.may_be_whole.ensures.0 c.if-not-may_be_whole.false)

pub returns-in_err-row-clause-ok : goal.returns-in_err-row-clause-ok
returns-in_err-row-clause-ok c = no_value c.from_residual.result _ _ c.from_residual.ensures.1
