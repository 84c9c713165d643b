use Rattle.tc_cert.specs.Texts as texts
use Rattle.tc_cert.specs.Puts.{IsCause, IsPut}
use Rattle.tc_cert.proofs.Steps.{piece_step, piece_cause, same_error, not_done}
use Rattle.std.proofs.Common.{refl, arith, codes, length, flat_map, subst}
use Rattle.tc_cert.proofs.Puts.{both, at_first, at_second, begun, ended}
use Rattle.tc_cert.proofs.Loops.{no_piece}
use Rattle.tc_cert.proofs.Ends.{stops_first}
use Rattle.tc_cert.proofs.writing.put_outputs.Goals as goal

pub returns-in_err-put_pairs_line-clause-cause : goal.returns-in_err-put_pairs_line-clause-cause
returns-in_err-put_pairs_line-clause-cause c =
    same_error (IsCause c.args.text.now (texts.outputs_part c.args.outputs.now)) c.from_residual-in_err-put_pairs_line.result c.in_err-put_pairs_line.field-0.0 c.from_residual-in_err-put_pairs_line.ensures.1
    (piece_cause texts.output_text c.args.outputs.now c.loop-i.i c.get.result.now c.get.ensures c.loop-i.invariant (at_first _ c.in_err-put_pairs_line.ensures.cause))

pub returns-in_err-put-clause-cause : goal.returns-in_err-put-clause-cause
returns-in_err-put-clause-cause c =
    same_error (IsCause c.args.text.now (texts.outputs_part c.args.outputs.now)) c.from_residual-in_err-put.result c.in_err-put.field-0.0 c.from_residual-in_err-put.ensures.1
    (piece_cause texts.output_text c.args.outputs.now c.loop-i.i c.get.result.now c.get.ensures c.loop-i.invariant (at_second c.in_ok-put_pairs_line.ensures.ok c.in_err-put.ensures.cause))

pub loop-i-preserved : goal.loop-i-preserved
loop-i-preserved c = piece_step texts.output_text c.args.outputs.now c.loop-i.i c.get.result.now c.get.ensures c.loop-i.invariant (both c.in_ok-put_pairs_line.ensures.ok c.in_ok-put.ensures.ok)

pub returns-in_err-put_count-clause-ok : goal.returns-in_err-put_count-clause-ok
returns-in_err-put_count-clause-ok c = not_done c.from_residual.result _ _ c.from_residual.ensures.1

pub returns-in_err-put_pairs_line-clause-ok : goal.returns-in_err-put_pairs_line-clause-ok
returns-in_err-put_pairs_line-clause-ok c = not_done c.from_residual-in_err-put_pairs_line.result _ _ c.from_residual-in_err-put_pairs_line.ensures.1

pub returns-in_err-put-clause-ok : goal.returns-in_err-put-clause-ok
returns-in_err-put-clause-ok c = not_done c.from_residual-in_err-put.result _ _ c.from_residual-in_err-put.ensures.1

pub returns-in_err-put_count-clause-cause : goal.returns-in_err-put_count-clause-cause
returns-in_err-put_count-clause-cause c = stops_first c.args.text.now (texts.ended (texts.counted (codes "outputs") (length c.args.outputs.now))) (flat_map texts.output_text c.args.outputs.now) c.from_residual.result c.in_err-put_count.field-0.0 c.from_residual.ensures.1 (subst (λ n. IsCause c.args.text.now (texts.ended (texts.counted (codes "outputs") n)) c.in_err-put_count.field-0.0) c.len.ensures c.in_err-put_count.ensures.cause)

pub loop-i-init : goal.loop-i-init
loop-i-init c = begun (subst (λ n. IsPut c.args.text.now c.put_count.new.text (texts.ended (texts.counted (codes "outputs") n))) c.len.ensures c.in_ok-put_count.ensures.ok) refl

pub returns-clause-ok : goal.returns-clause-ok
returns-clause-ok c = ended c.loop-i.invariant (no_piece texts.output_text c.args.outputs.now c.loop-i.i (omega arith))

pub returns-clause-cause : goal.returns-clause-cause
returns-clause-cause c = tt
