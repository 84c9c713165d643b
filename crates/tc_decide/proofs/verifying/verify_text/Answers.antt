use Rattle.std.proofs.Common.{subst}
use Rattle.tc_cert.specs.Fits.{sizes_of}
use Rattle.tc_cert.specs.declared.ranges.Ranges.{Ranges}
use Rattle.tc_close.proofs.Pushed.{some_of}
use Rattle.tc_decide.proofs.Triples.{triple_is}
use Rattle.tc_decide.proofs.Verifications.{unfit_line, by_no_form}
use Rattle.tc_decide.proofs.verifying.verify_text.Goals as goal
use Rattle.tc_model.specs.CertificateFits.{AllFit, IsFirstUnfit}
use Rattle.tc_rows.specs.Triples as t

pub returns-in-Ok-Some : goal.returns-in-Ok-Some
returns-in-Ok-Some c = λ x is within_limits.
    let (d, means, first) = c.in-Ok-Some.ensures.ok in
    let line = c.in-Ok-Some.line in
    let unfit = some_of (AllFit (sizes_of c.ranges_by.result) d) (λ n. IsFirstUnfit (sizes_of c.ranges_by.result) d n) c.in-Ok-Some.field-0 line first c.in-Ok-Some.field-0-is in
    (within_limits, unfit_line x (triple_is is) c.shape.result (c.shape.ensures x is) c.args.text.now d line means (subst (λ (r : Ranges). IsFirstUnfit (sizes_of r) d line) c.ranges_by.ensures unfit))

pub returns-in-Err : goal.returns-in-Err
returns-in-Err c = λ x is within_limits. by_no_form c.args.text.now x.input x.output (t.sheet x) c.no_form.result within_limits (c.no_form.ensures c.args.text.now c.in-Err.ensures.fault)
