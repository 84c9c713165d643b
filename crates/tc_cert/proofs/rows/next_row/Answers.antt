use Rattle.std.proofs.Common.{List, ℕ, IfErr, subst, sym}
use Rattle.std.specs.Option.{option_map}
use Rattle.tc_cert.specs.Fields.{Fields, fields_of, IsNextRow}
use Rattle.tc_cert.specs.Pieces.{IsMissing}
use Rattle.tc_cert.specs.Styles.{version_of}
use Rattle.tc_cert.proofs.Steps.{value_as, missing_as}
use Rattle.tc_cert.proofs.rows.next_row.Goals as goal

pub returns-in-Some-clause-no : goal.returns-in-Some-clause-no
returns-in-Some-clause-no c =
    subst (λ o. IfErr c.row_behind.result (IsMissing ((f : Fields) × (rest : List ℕ) × IsNextRow (version_of c.args.style) c.args.kind (option_map fields_of o) c.args.bytes.now f rest))) (sym c.in-Some.is) c.row_behind.ensures.no

pub returns-in-None-clause-ok : goal.returns-in-None-clause-ok
returns-in-None-clause-ok c =
    value_as c.whole.result (λ r w. subst (λ o. IsNextRow (version_of c.args.style) c.args.kind (option_map fields_of o) c.args.bytes.now (fields_of r.0) r.1.now) (sym c.in-None.is) (record { formed = w.formed; behind = tt; spelled = w.spelled })) c.whole.ensures.ok

pub returns-in-None-clause-no : goal.returns-in-None-clause-no
returns-in-None-clause-no c =
    subst (λ o. IfErr c.whole.result (IsMissing ((f : Fields) × (rest : List ℕ) × IsNextRow (version_of c.args.style) c.args.kind (option_map fields_of o) c.args.bytes.now f rest))) (sym c.in-None.is)
    (missing_as c.whole.result (λ p. (p.0, p.1, record { formed = p.2.formed; spelled = p.2.spelled })) c.whole.ensures.no)

pub returns-in-Some-clause-ok : goal.returns-in-Some-clause-ok
returns-in-Some-clause-ok c =
    value_as c.row_behind.result (λ r n. subst (λ o. IsNextRow (version_of c.args.style) c.args.kind (option_map fields_of o) c.args.bytes.now (fields_of r.0) r.1.now) (sym c.in-Some.is) n) c.row_behind.ensures.ok
