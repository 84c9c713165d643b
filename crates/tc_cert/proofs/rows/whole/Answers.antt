use Rattle.std.proofs.Common.{All, ℕ, List, ◌≤◌, subst, sym}
use Rattle.tc_cert.specs.Fields.{Fields}
use Rattle.tc_cert.specs.NextRows.{IsWholeAt}
use Rattle.tc_cert.specs.Pieces.{IsMissing}
use Rattle.tc_cert.proofs.Numbers.{bool_apart}
use Rattle.tc_cert.proofs.Steps.{same_error, no_value}
use Rattle.tc_cert.proofs.ReadRows.{whole_no_front, whole_no_outs, whole_no_looks, whole_not_small, whole_ok}
use Rattle.tc_cert.proofs.rows.whole.Goals as goal

pub returns-in_err-front-clause-no : goal.returns-in_err-front-clause-no
returns-in_err-front-clause-no c =
    same_error (IsMissing ((f : Fields) × (rest : List ℕ) × IsWholeAt c.args.kind c.args.bytes.now f rest)) c.from_residual.result c.in_err-front.field-0.0 c.from_residual.ensures.1
    (λ e. whole_no_front c.args.kind c.args.bytes.now c.letter.result c.letter.ensures (c.in_err-front.ensures.no e))

pub returns-in_err-outs-clause-no : goal.returns-in_err-outs-clause-no
returns-in_err-outs-clause-no c =
    same_error (IsMissing ((f : Fields) × (rest : List ℕ) × IsWholeAt c.args.kind c.args.bytes.now f rest)) c.from_residual-in_err-outs.result c.in_err-outs.field-0.0 c.from_residual-in_err-outs.ensures.1
    (λ e. whole_no_outs c.args.kind c.args.bytes.now c.letter.result c.letter.ensures c.in_ok-front.front.one c.in_ok-front.front.other c.in_ok-front.front.members.items c.in_ok-front.rest.now c.in_ok-front.ensures.ok (c.in_err-outs.ensures.no e))

pub returns-in_err-looks-clause-no : goal.returns-in_err-looks-clause-no
returns-in_err-looks-clause-no c =
    same_error (IsMissing ((f : Fields) × (rest : List ℕ) × IsWholeAt c.args.kind c.args.bytes.now f rest)) c.from_residual-in_err-looks.result c.in_err-looks.field-0.0 c.from_residual-in_err-looks.ensures.1
    (λ e. whole_no_looks c.args.kind c.args.bytes.now c.letter.result c.letter.ensures c.in_ok-front.front.one c.in_ok-front.front.other c.in_ok-front.front.members.items c.in_ok-front.rest.now c.in_ok-front.ensures.ok
    c.in_ok-outs.outs.items c.in_ok-outs.rest.now c.in_ok-outs.ensures.ok (c.in_err-looks.ensures.no e))

pub returns-then-not-are_looks-clause-no : goal.returns-then-not-are_looks-clause-no
returns-then-not-are_looks-clause-no c = λ _.
    whole_not_small c.args.kind c.args.bytes.now c.letter.result c.letter.ensures c.in_ok-front.front.one c.in_ok-front.front.other c.in_ok-front.front.members.items c.in_ok-front.rest.now c.in_ok-front.ensures.ok
    c.in_ok-outs.outs.items c.in_ok-outs.rest.now c.in_ok-looks.looks.items c.in_ok-looks.rest.now c.in_ok-outs.ensures.ok c.in_ok-looks.ensures.ok
    (λ a. bool_apart c.are_looks.result (c.are_looks.ensures.1 (subst (All (λ n. n ≤ 2)) (sym c.deref.ensures.value) a)) c.if-not-are_looks.true)

pub returns-clause-ok : goal.returns-clause-ok
returns-clause-ok c =
    whole_ok c.args.kind c.args.bytes.now c.letter.result c.letter.ensures c.in_ok-front.front.one c.in_ok-front.front.other c.in_ok-front.front.members.items c.in_ok-front.rest.now c.in_ok-front.ensures.ok
    c.in_ok-outs.outs.items c.in_ok-outs.rest.now c.in_ok-looks.looks.items c.in_ok-looks.rest.now c.in_ok-outs.ensures.ok c.in_ok-looks.ensures.ok
    (subst (All (λ n. n ≤ 2)) c.deref.ensures.value (c.are_looks.ensures.0 c.if-not-are_looks.false))

pub returns-in_err-front-clause-ok : goal.returns-in_err-front-clause-ok
returns-in_err-front-clause-ok c = no_value c.from_residual.result _ _ c.from_residual.ensures.1

pub returns-in_err-outs-clause-ok : goal.returns-in_err-outs-clause-ok
returns-in_err-outs-clause-ok c = no_value c.from_residual-in_err-outs.result _ _ c.from_residual-in_err-outs.ensures.1

pub returns-in_err-looks-clause-ok : goal.returns-in_err-looks-clause-ok
returns-in_err-looks-clause-ok c = no_value c.from_residual-in_err-looks.result _ _ c.from_residual-in_err-looks.ensures.1
