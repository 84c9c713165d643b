use Rattle.std.proofs.Common.{[], ◌∷◌, ◌++◌, ap, ◌∙◌, sym}
use Rattle.tc_model.specs.Runs.{run_text}
use Rattle.tc_tags.proofs.FailedLaws.{failed_some}
use Rattle.tc_xml.proofs.TakingLaws.{goes_out, open_named}
use Rattle.tc_xml.proofs.taking.end_tag.Goals as goal

pub returns-clause-steps : goal.returns-clause-steps
returns-clause-steps g c = λ deepest root begun s.
    let last = c.in_ok-open.open in
    let (bs, past, named) = open_named _ c.args.total deepest root c.args.text.now (run_text c.args.reader.now.run) begun c.args.reader.now.taker c.args.levels.now _ last s c.in_ok-open.ensures.items in
    let (es, scope, opens, tells, after) =
    goes_out _ c.args.total deepest root c.args.text.now c.in_ok-rest.rest.now (run_text c.args.reader.now.run) (run_text c.leave.new.reader.run) begun c.args.reader.now.taker c.end_run.new.reader.taker c.leave.new.reader.taker
    c.args.levels.now c.leave.new.levels.open.items last c.leave.new.levels.bindings s (c.in_ok-open.ensures.items ∙ ap (λ os. os ++ last ∷ []) (sym c.leave.ensures.opens)) (c.in_ok-rest.ensures.ends bs past named) c.in_ok-leave.ensures.bindings
    c.in_ok-end_run.ensures.taken c.in_ok-leave.ensures.taken (ap run_text c.leave.ensures.run ∙ c.in_ok-end_run.ensures.ended) in
    record { started = es; scope = scope; shows = record { opens = opens; tells = tells; right = c.in_ok-leave.ensures.right s.shows.right }; stands = after }

pub returns-clause-shorter : goal.returns-clause-shorter
returns-clause-shorter g c = c.in_ok-rest.ensures.shorter

pub returns-in_err-open-clause-steps : goal.returns-in_err-open-clause-steps
returns-in_err-open-clause-steps g c = failed_some _ _ c.from_residual.ensures

pub returns-in_err-open-clause-shorter : goal.returns-in_err-open-clause-shorter
returns-in_err-open-clause-shorter g c = failed_some _ _ c.from_residual.ensures

pub returns-in_err-rest-clause-steps : goal.returns-in_err-rest-clause-steps
returns-in_err-rest-clause-steps g c = failed_some _ _ c.from_residual-in_err-rest.ensures

pub returns-in_err-rest-clause-shorter : goal.returns-in_err-rest-clause-shorter
returns-in_err-rest-clause-shorter g c = failed_some _ _ c.from_residual-in_err-rest.ensures

pub returns-in_err-end_run-clause-steps : goal.returns-in_err-end_run-clause-steps
returns-in_err-end_run-clause-steps g c = failed_some _ _ c.from_residual-in_err-end_run.ensures

pub returns-in_err-end_run-clause-shorter : goal.returns-in_err-end_run-clause-shorter
returns-in_err-end_run-clause-shorter g c = failed_some _ _ c.from_residual-in_err-end_run.ensures

pub returns-in_err-leave-clause-steps : goal.returns-in_err-leave-clause-steps
returns-in_err-leave-clause-steps g c = failed_some _ _ c.from_residual-in_err-leave.ensures

pub returns-in_err-leave-clause-shorter : goal.returns-in_err-leave-clause-shorter
returns-in_err-leave-clause-shorter g c = failed_some _ _ c.from_residual-in_err-leave.ensures
