use Rattle.std.proofs.Common.{List, ℕ, Some, subst, sym}
use Rattle.tc_cert.specs.Fields.{Fields, fields_of, IsBehind, row_line}
use Rattle.tc_cert.specs.NextRows.{IsChangedAt, IsMade, IsMadeBehind}
use Rattle.tc_cert.specs.Pieces.{IsMissing}
use Rattle.tc_cert.proofs.Steps.{same_error, no_value}
use Rattle.tc_cert.proofs.ReadRows.{changed_no_front, changed_no_outs, changed_no_looks, changed_not_behind, changed_not_made, changed_ok}
use Rattle.tc_cert.proofs.rows.changed.Goals as goal

pub returns-in_err-front-clause-no : goal.returns-in_err-front-clause-no
returns-in_err-front-clause-no c =
    same_error (IsMissing ((f : Fields) × (rest : List ℕ) × IsChangedAt c.args.kind (fields_of c.args.before) c.args.bytes.now f rest × IsBehind (row_line c.args.kind) (Some (fields_of c.args.before)) f))
    c.from_residual.result c.in_err-front.field-0.0 c.from_residual.ensures.1
    (λ e. changed_no_front c.args.kind (fields_of c.args.before) c.args.bytes.now c.changes_letter.result c.changes_letter.ensures c.requires.1 (c.in_err-front.ensures.no e))

pub returns-in_err-outs-clause-no : goal.returns-in_err-outs-clause-no
returns-in_err-outs-clause-no c =
    same_error (IsMissing ((f : Fields) × (rest : List ℕ) × IsChangedAt c.args.kind (fields_of c.args.before) c.args.bytes.now f rest × IsBehind (row_line c.args.kind) (Some (fields_of c.args.before)) f))
    c.from_residual-in_err-outs.result c.in_err-outs.field-0.0 c.from_residual-in_err-outs.ensures.1
    (λ e. changed_no_outs c.args.kind (fields_of c.args.before) c.args.bytes.now c.changes_letter.result c.changes_letter.ensures c.requires.1
    c.in_ok-front.front.one c.in_ok-front.front.other c.in_ok-front.front.members.items c.in_ok-front.rest.now c.in_ok-front.ensures.ok (c.in_err-outs.ensures.no e))

pub returns-in_err-looks-clause-no : goal.returns-in_err-looks-clause-no
returns-in_err-looks-clause-no c =
    same_error (IsMissing ((f : Fields) × (rest : List ℕ) × IsChangedAt c.args.kind (fields_of c.args.before) c.args.bytes.now f rest × IsBehind (row_line c.args.kind) (Some (fields_of c.args.before)) f))
    c.from_residual-in_err-looks.result c.in_err-looks.field-0.0 c.from_residual-in_err-looks.ensures.1
    (λ e. changed_no_looks c.args.kind (fields_of c.args.before) c.args.bytes.now c.changes_letter.result c.changes_letter.ensures c.requires.1
    c.in_ok-front.front.one c.in_ok-front.front.other c.in_ok-front.front.members.items c.in_ok-front.rest.now c.in_ok-front.ensures.ok
    c.in_ok-outs.outs.items c.in_ok-outs.rest.now c.in_ok-outs.ensures.ok (c.in_err-looks.ensures.no e))

pub returns-then-not-is_behind-clause-no : goal.returns-then-not-is_behind-clause-no
returns-then-not-is_behind-clause-no c = λ _.
    changed_not_behind c.args.kind (fields_of c.args.before) c.args.bytes.now c.changes_letter.result c.changes_letter.ensures c.requires.1
    c.in_ok-front.front.one c.in_ok-front.front.other c.in_ok-front.front.members.items c.in_ok-front.rest.now c.in_ok-front.ensures.ok
    c.in_ok-outs.outs.items c.in_ok-looks.looks.items c.in_ok-outs.rest.now c.in_ok-looks.rest.now c.is_behind.result c.requires.0 c.in_ok-outs.ensures.ok c.in_ok-looks.ensures.ok
    (subst (λ l. IsMadeBehind (fields_of c.args.before) c.in_ok-front.front.one c.in_ok-front.front.other c.in_ok-front.front.members.items l c.in_ok-looks.looks.items c.is_behind.result) c.deref.ensures.value
    (subst (λ l. IsMadeBehind (fields_of c.args.before) c.in_ok-front.front.one c.in_ok-front.front.other c.in_ok-front.front.members.items c.deref.result.now l c.is_behind.result) c.deref-2.ensures.value c.is_behind.ensures))
    c.if-not-is_behind.true

pub returns-in-Some-clause-ok : goal.returns-in-Some-clause-ok
returns-in-Some-clause-ok c =
    changed_ok c.args.kind (fields_of c.args.before) c.args.bytes.now c.changes_letter.result c.changes_letter.ensures c.requires.1
    c.in_ok-front.front.one c.in_ok-front.front.other c.in_ok-front.front.members.items c.in_ok-front.rest.now c.in_ok-front.ensures.ok
    c.in_ok-outs.outs.items c.in_ok-looks.looks.items c.in_ok-outs.rest.now c.in_ok-looks.rest.now c.is_behind.result c.requires.0 c.in_ok-outs.ensures.ok c.in_ok-looks.ensures.ok
    (subst (λ l. IsMadeBehind (fields_of c.args.before) c.in_ok-front.front.one c.in_ok-front.front.other c.in_ok-front.front.members.items l c.in_ok-looks.looks.items c.is_behind.result) c.deref.ensures.value
    (subst (λ l. IsMadeBehind (fields_of c.args.before) c.in_ok-front.front.one c.in_ok-front.front.other c.in_ok-front.front.members.items c.deref.result.now l c.is_behind.result) c.deref-2.ensures.value c.is_behind.ensures))
    c.if-not-is_behind.false (fields_of c.in-Some.row)
    (subst (λ l. IsMade (fields_of c.args.before) c.in_ok-front.front.one c.in_ok-front.front.other c.in_ok-front.front.members.items l c.in_ok-looks.looks.items (fields_of c.in-Some.row)) c.deref-3.ensures.value
    (subst (λ l. IsMade (fields_of c.args.before) c.in_ok-front.front.one c.in_ok-front.front.other c.in_ok-front.front.members.items c.deref-3.result.now l (fields_of c.in-Some.row)) c.deref-4.ensures.value c.in-Some.ensures))

pub returns-clause-no : goal.returns-clause-no
returns-clause-no c = λ _.
    changed_not_made c.args.kind (fields_of c.args.before) c.args.bytes.now c.changes_letter.result c.changes_letter.ensures c.requires.1
    c.in_ok-front.front.one c.in_ok-front.front.other c.in_ok-front.front.members.items c.in_ok-front.rest.now c.in_ok-front.ensures.ok
    c.in_ok-outs.outs.items c.in_ok-looks.looks.items c.in_ok-outs.rest.now c.in_ok-looks.rest.now c.in_ok-outs.ensures.ok c.in_ok-looks.ensures.ok
    (λ f m. c.in-None.ensures f
    (subst (λ l. IsMade (fields_of c.args.before) c.in_ok-front.front.one c.in_ok-front.front.other c.in_ok-front.front.members.items l c.deref-4.result.now f) (sym c.deref-3.ensures.value)
    (subst (λ l. IsMade (fields_of c.args.before) c.in_ok-front.front.one c.in_ok-front.front.other c.in_ok-front.front.members.items c.in_ok-outs.outs.items l f) (sym c.deref-4.ensures.value) m)))

pub returns-in_err-front-clause-ok : goal.returns-in_err-front-clause-ok
returns-in_err-front-clause-ok c = no_value c.from_residual.result _ _ c.from_residual.ensures.1

pub returns-in_err-outs-clause-ok : goal.returns-in_err-outs-clause-ok
returns-in_err-outs-clause-ok c = no_value c.from_residual-in_err-outs.result _ _ c.from_residual-in_err-outs.ensures.1

pub returns-in_err-looks-clause-ok : goal.returns-in_err-looks-clause-ok
returns-in_err-looks-clause-ok c = no_value c.from_residual-in_err-looks.result _ _ c.from_residual-in_err-looks.ensures.1
