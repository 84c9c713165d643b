use Rattle.std.proofs.Common.{◌≡◌, ◌<◌, List, ℕ, length, flat_map, subst, sym}
use Rattle.tc_base.specs.declared.limits.TheConstants.{LONGEST_FILE}
use Rattle.tc_beh.specs.Outs.{sets_of}
use Rattle.tc_cert.specs.Texts.{output_text}
use Rattle.tc_close.specs.Lines.{output_lines}
use Rattle.tc_close.specs.Orders.{IsOrder}
use Rattle.tc_close.proofs.Certified.{least_certificate, long_certificate}
use Rattle.tc_close.proofs.Pushed.{none_of, some_of}
use Rattle.tc_close.proofs.HandedOn.{no_value}
use Rattle.tc_close.proofs.certificate.cert_data.Goals as goal

pub returns-in_default-clause-data : goal.returns-in_default-clause-data
returns-in_default-clause-data g c = λ x o.
    let s = c.args.rows.now in
    long_certificate x s g.K.Over.is_of o c.output_count-outputs.ensures.known c.shape-shape.result (c.shape-shape.ensures.stands x o) c.shape-shape.ensures.fits c.requires.all.closed c.requires.all.derive c.requires.whole c.requires.all.trees c.requires.all.hedges
    (none_of (LONGEST_FILE < length (flat_map output_text (sets_of s.outputs.matrices))) (λ (all : List (List ℕ)). all ≡ output_lines s) c.in_ok-lines.field-0 c.in_ok-lines.ensures c.in_default.is)

pub returns-clause-same : goal.returns-clause-same
returns-clause-same g c = c.data_by.ensures.same

pub returns-clause-data : goal.returns-clause-data
returns-clause-data g c = λ x o.
    let s = c.args.rows.now in
    let lines : c.in-Some.lines ≡ output_lines s =
    some_of (LONGEST_FILE < length (flat_map output_text (sets_of s.outputs.matrices))) (λ (all : List (List ℕ)). all ≡ output_lines s) c.in_ok-lines.field-0 c.in-Some.lines c.in_ok-lines.ensures c.in-Some.is in
    let order : IsOrder (output_lines s) c.deref.result.now =
    subst (λ (ls : List (List ℕ)). IsOrder ls c.deref.result.now) lines (subst (IsOrder c.in-Some.lines) (sym c.deref.ensures.value) c.in_ok-numbers.ensures) in
    least_certificate x s g.K.Over.is_of o c.output_count-outputs.ensures.known c.shape-shape.result (c.shape-shape.ensures.stands x o) c.shape-shape.ensures.fits c.requires.all.closed c.requires.all.derive c.requires.whole c.requires.all.trees c.requires.all.hedges
    c.deref.result.now order c.in_ok-data.data (c.in_ok-data.ensures.made x o)

pub returns-in_err-lines-clause-data : goal.returns-in_err-lines-clause-data
returns-in_err-lines-clause-data g c = no_value c.from_residual.result _ _ c.from_residual.ensures.1

pub returns-in_err-numbers-clause-data : goal.returns-in_err-numbers-clause-data
returns-in_err-numbers-clause-data g c = no_value c.from_residual-in_err-numbers.result _ _ c.from_residual-in_err-numbers.ensures.1

pub returns-in_err-data-clause-data : goal.returns-in_err-data-clause-data
returns-in_err-data-clause-data g c = no_value c.from_residual-in_err-data.result _ _ c.from_residual-in_err-data.ensures.1
