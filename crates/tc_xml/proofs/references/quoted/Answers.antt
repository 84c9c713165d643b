use Rattle.std.proofs.Common.{string_bytes, List, ℕ}
use Rattle.tc_model.specs.XmlTextRefusals.{QuotedRefuses}
use Rattle.tc_xml.specs.Refusals.{OnMalformed}
use Rattle.tc_tags.proofs.FailedLaws.{failed_ok}
use Rattle.tc_xml.proofs.ContentLaws.{failed}
use Rattle.tc_xml.proofs.MalformedLaws.{of_refuses}
use Rattle.tc_xml.proofs.ValueLaws.{no_quoted, read_whole, step_more, err_refuses, err_stands}
use Rattle.tc_xml.proofs.references.quoted.Goals as goal
use Rattle.tc_tags.proofs.FormLaws.{no_quoted_refused, quoted_refuses}
use Rattle.tc_tags.proofs.ValueLaws.{piece_shorter, text_past_piece}

pub returns-in-Some-after_byte-clause-ok : goal.returns-in-Some-after_byte-clause-ok
returns-in-Some-after_byte-clause-ok c =
    read_whole c.in-Some.quote c.args.text.now c.in-Some.inside.now (string_bytes c.loop-after.value) c.into_bump_str.result.now c.loop-after.rest.now _
    c.in-Some.ensures.0 c.in-Some.ensures.1 c.loop-after.invariant.step c.into_bump_str.ensures c.in-Some-after_byte.ensures

pub returns-in_err-rest-clause-no : goal.returns-in_err-rest-clause-no
returns-in_err-rest-clause-no c =
    err_refuses c.from_residual.result c.in_err-rest.field-0.0 _ _ _ _ c.from_residual.ensures.1 c.in_err-rest.ensures.no
    (no_quoted c.in-Some.quote c.args.text.now c.in-Some.inside.now c.loop-after.rest.now c.in-Some.ensures.1 c.loop-after.invariant.step.any c.in_default-after_byte.ensures)
    (no_quoted c.in-Some.quote c.args.text.now c.in-Some.inside.now c.loop-after.rest.now c.in-Some.ensures.1 c.loop-after.invariant.step.strict c.in_default-after_byte.ensures)

pub returns-in_err-rest-clause-stands : goal.returns-in_err-rest-clause-stands
returns-in_err-rest-clause-stands c =
    err_stands c.from_residual.result c.in_err-rest.field-0.0 _ _ c.from_residual.ensures.1 c.in_err-rest.ensures.stands
    (λ why at h. (h.0, quoted_refuses c.in-Some.quote c.args.text.now c.in-Some.inside.now (string_bytes c.loop-after.value) c.loop-after.rest.now at c.in-Some.ensures.0 c.in-Some.ensures.1 c.loop-after.invariant.step h.1 h.2))

pub loop-after-smaller : goal.loop-after-smaller
loop-after-smaller c = piece_shorter c.in-Some.quote c.loop-after.rest.now c.in_ok-rest.ensures.ok.0 c.in_ok-rest.rest.now c.in_ok-rest.ensures.ok.1

pub loop-after-preserved : goal.loop-after-preserved
loop-after-preserved c = record {
  step = step_more c.in-Some.quote c.in-Some.inside.now (string_bytes c.loop-after.value) (string_bytes c.push_piece.new.value) c.loop-after.rest.now c.in_ok-rest.rest.now c.in-Some.ensures.0 c.loop-after.invariant.step c.in_ok-rest.ensures.ok;
  text = text_past_piece c.in-Some.quote c.loop-after.rest.now c.in_ok-rest.ensures.ok.0 c.in_ok-rest.rest.now c.in-Some.ensures.0 c.in_ok-rest.ensures.ok.1 c.loop-after.invariant.text;
}

pub returns-in_err-rest-clause-malformed : goal.returns-in_err-rest-clause-malformed
returns-in_err-rest-clause-malformed c =
    let e = c.in_err-rest.field-0.0 in
    let Q = (at : List ℕ) → QuotedRefuses c.args.text.now at → ⊥ in
    failed c.from_residual.result (λ e. OnMalformed e Q) e c.from_residual.ensures.1
    (of_refuses e _ _ Q (no_quoted_refused c.in-Some.quote c.args.text.now c.in-Some.inside.now c.loop-after.rest.now c.in-Some.ensures.1 c.loop-after.invariant.step.comes) c.in_err-rest.ensures.no)

pub returns-in_err-rest-clause-ok : goal.returns-in_err-rest-clause-ok
returns-in_err-rest-clause-ok c = failed_ok _ _ _ c.from_residual.ensures.1
