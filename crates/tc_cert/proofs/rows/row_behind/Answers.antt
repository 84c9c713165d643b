use Rattle.tc_cert.specs.Fields.{fields_of}
use Rattle.tc_cert.proofs.Steps.{missing_as, value_as}
use Rattle.tc_cert.proofs.ReadRows.{changed_of_next, whole_of_next, next_of_changed, next_of_whole}
use Rattle.tc_cert.proofs.rows.row_behind.Goals as goal

pub returns-then-is_by_changes-clause-no : goal.returns-then-is_by_changes-clause-no
returns-then-is_by_changes-clause-no c =
    missing_as c.changed.result (λ p. let q = changed_of_next c.args.style c.args.kind (fields_of c.args.before) c.args.bytes.now p.0 p.1 c.if-is_by_changes.ensures p.2 in (p.0, p.1, q.0, q.1)) c.changed.ensures.no

pub returns-clause-no : goal.returns-clause-no
returns-clause-no c =
    missing_as c.whole_behind.result (λ p. (p.0, p.1, whole_of_next c.args.style c.args.kind (fields_of c.args.before) c.args.bytes.now p.0 p.1 c.if-is_by_changes.ensures p.2)) c.whole_behind.ensures.no

pub changed-requires : goal.changed-requires
changed-requires c = c.requires

pub whole_behind-requires : goal.whole_behind-requires
whole_behind-requires c = c.requires.0

pub returns-then-is_by_changes-clause-ok : goal.returns-then-is_by_changes-clause-ok
returns-then-is_by_changes-clause-ok c =
    value_as c.changed.result (λ r p. next_of_changed c.args.style c.args.kind (fields_of c.args.before) c.args.bytes.now (fields_of r.0) r.1.now c.if-is_by_changes.ensures p.0 p.1) c.changed.ensures.ok

pub returns-clause-ok : goal.returns-clause-ok
returns-clause-ok c =
    value_as c.whole_behind.result (λ r w. next_of_whole c.args.style c.args.kind (fields_of c.args.before) c.args.bytes.now (fields_of r.0) r.1.now w) c.whole_behind.ensures.ok
