use Rattle.std.proofs.Common.{◌≡◌, ◌++◌, [], List, ℕ, refl, ap, arith, length, true, false, rules}
use Rattle.tc_base.specs.declared.reasons.Why.{Why}
use Rattle.tc_base.specs.declared.reasons.Why.TheVariants.{EntityReference}
use Rattle.tc_model.specs.XmlTextReferences.{QuotedAt, closed}
use Rattle.tc_model.specs.XmlTextRefusals.{QuotedRefuses}
use Rattle.tc_tags.specs.Forms.{Refuses, UnsupportedAt, OnMalformed}
use Rattle.tc_tags.proofs.FormLaws.{failed, refuse_both, unsupported_map, of_refuses, step_none, step_more, no_quoted, quoted_refuses, no_quote_refused, no_quoted_refused}
use Rattle.tc_tags.proofs.TagReadLaws.{stop_refuses, stop_stands, stop_malformed}
use Rattle.tc_tags.proofs.ValueLaws.{piece_shorter, text_past_piece}
use Rattle.tc_tags.proofs.FailedLaws.{failed_ok}
use Rattle.tc_tags.proofs.tags.value_at.Goals as goal

pub returns-in_default-clause-no : goal.returns-in_default-clause-no
returns-in_default-clause-no c = stop_refuses c.lacking.result _ _ c.lacking.ensures (λ v after a. c.in_default.ensures a.quote a.rest a.is_quote a.opens)

pub returns-in_default-clause-stands : goal.returns-in_default-clause-stands
returns-in_default-clause-stands c = stop_stands c.args.total c.lacking.result _ c.lacking.ensures

pub returns-in_default-clause-malformed : goal.returns-in_default-clause-malformed
returns-in_default-clause-malformed c = stop_malformed c.lacking.result _ c.lacking.ensures (no_quote_refused c.args.text.now c.in_default.ensures)

pub loop-after-init : goal.loop-after-init
loop-after-init c = record {
  step = ([], step_none c.in-Some.quote c.in-Some.inside.now);
  text = search rules;
  within = let long = ap length c.in-Some.ensures.1 in let fits = c.requires in omega (arith, long, fits);
}

pub returns-in-Some-after_byte-clause-ok : goal.returns-in-Some-after_byte-clause-ok
returns-in-Some-after_byte-clause-ok c =
    let (read, step) = c.loop-after.invariant.step in
    let long = ap length c.in-Some.ensures.1 in
    let fits = c.requires in (
      read ++ [],
      record {
        inside = c.in-Some.inside.now;
        is_quote = c.in-Some.ensures.0;
        opens = c.in-Some.ensures.1;
        closes = step.forth [] c.in-Some-after_byte.after.now (closed c.in-Some-after_byte.ensures);
        stands = omega (arith, long, fits);
      },
    )

pub returns-in_err-rest-clause-no : goal.returns-in_err-rest-clause-no
returns-in_err-rest-clause-no c =
    let t = c.args.text.now in
    let e = c.in_err-rest.field-0.0 in
    let (read, step) = c.loop-after.invariant.step in
    let A = (v after : List ℕ) → QuotedAt true t v after → ⊥ in
    let B = (v after : List ℕ) → QuotedAt false t v after → ⊥ in
    failed c.from_residual.result (λ e. Refuses e A B) e c.from_residual.ensures.1
    (refuse_both e _ A _ B
    (no_quoted c.in-Some.quote t c.in-Some.inside.now c.loop-after.rest.now c.in-Some.ensures.1 step.any c.in_default-after_byte.ensures)
    (no_quoted c.in-Some.quote t c.in-Some.inside.now c.loop-after.rest.now c.in-Some.ensures.1 step.strict c.in_default-after_byte.ensures)
    c.in_err-rest.ensures.no)

pub returns-in_err-rest-clause-stands : goal.returns-in_err-rest-clause-stands
returns-in_err-rest-clause-stands c =
    let t = c.args.text.now in
    let e = c.in_err-rest.field-0.0 in
    let (read, step) = c.loop-after.invariant.step in
    let P : Why → List ℕ → Type 0 = λ why at. (why ≡ EntityReference) × QuotedRefuses t at in
    failed c.from_residual.result (λ e. UnsupportedAt c.args.total e P) e c.from_residual.ensures.1
    (unsupported_map c.args.total e _ P
    (λ why at h. (h.0, quoted_refuses c.in-Some.quote t c.in-Some.inside.now read c.loop-after.rest.now at c.in-Some.ensures.0 c.in-Some.ensures.1 step h.1 h.2))
    c.in_err-rest.ensures.stands)

pub returns-in_err-rest-clause-malformed : goal.returns-in_err-rest-clause-malformed
returns-in_err-rest-clause-malformed c =
    let e = c.in_err-rest.field-0.0 in
    let (read, step) = c.loop-after.invariant.step in
    let Q = (at : List ℕ) → QuotedRefuses c.args.text.now at → ⊥ in
    failed c.from_residual.result (λ e. OnMalformed e Q) e c.from_residual.ensures.1
    (of_refuses e _ _ Q (no_quoted_refused c.in-Some.quote c.args.text.now c.in-Some.inside.now c.loop-after.rest.now c.in-Some.ensures.1 step.comes) c.in_err-rest.ensures.no)

pub loop-after-smaller : goal.loop-after-smaller
loop-after-smaller c = piece_shorter c.in-Some.quote c.loop-after.rest.now c.in_ok-rest.ensures.ok.0 c.in_ok-rest.rest.now c.in_ok-rest.ensures.ok.1

pub loop-after-preserved : goal.loop-after-preserved
loop-after-preserved c =
    let (read, step) = c.loop-after.invariant.step in
    let (piece, a) = c.in_ok-rest.ensures.ok in
    record {
      step = (read ++ piece, step_more c.in-Some.quote c.in-Some.inside.now read (read ++ piece) c.loop-after.rest.now c.in_ok-rest.rest.now c.in-Some.ensures.0 step (piece, a, refl));
      text = text_past_piece c.in-Some.quote c.loop-after.rest.now piece c.in_ok-rest.rest.now c.in-Some.ensures.0 a c.loop-after.invariant.text;
      within = let less = piece_shorter c.in-Some.quote c.loop-after.rest.now piece c.in_ok-rest.rest.now a in let fits = c.loop-after.invariant.within in omega (arith, less, fits);
    }

pub returns-in_default-clause-ok : goal.returns-in_default-clause-ok
returns-in_default-clause-ok c = tt

pub returns-in-Some-after_byte-clause-no : goal.returns-in-Some-after_byte-clause-no
returns-in-Some-after_byte-clause-no c = tt

pub returns-in-Some-after_byte-clause-stands : goal.returns-in-Some-after_byte-clause-stands
returns-in-Some-after_byte-clause-stands c = tt

pub returns-in-Some-after_byte-clause-malformed : goal.returns-in-Some-after_byte-clause-malformed
returns-in-Some-after_byte-clause-malformed c = tt

pub returns-in_err-rest-clause-ok : goal.returns-in_err-rest-clause-ok
returns-in_err-rest-clause-ok c = failed_ok _ _ _ c.from_residual.ensures.1

pub lacking-requires : goal.lacking-requires
lacking-requires c = c.requires
