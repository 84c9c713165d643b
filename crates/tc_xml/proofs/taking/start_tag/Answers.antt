use Rattle.std.proofs.Common.{arith, ap, ◌∙◌, length}
use Rattle.tc_model.specs.Runs.{run_text}
use Rattle.tc_tags.proofs.FailedLaws.{failed_some}
use Rattle.tc_xml.proofs.TakingLaws.{passes, goes_into}
use Rattle.tc_xml.proofs.taking.start_tag.Goals as goal

pub returns-in-Some-clause-steps : goal.returns-in-Some-clause-steps
returns-in-Some-clause-steps g c = λ deepest root begun s.
    passes _ c.args.total deepest c.count-outer_count.result root c.args.text.now c.in-Some.rest.now (run_text c.args.reader.now.run) (run_text c.leave.new.reader.run) begun c.args.reader.now.taker
    c.start_element.new.reader.taker c.leave.new.reader.taker c.args.levels.now c.read_tag.new.self c.leave.new.levels c.in_ok-tag.tag s c.in_ok-tag.ensures.deep ((c.in_ok-tag.ensures.reads s.shows.right).reads c.args.total) (c.in_ok-leave.ensures.right (c.in_ok-tag.ensures.reads s.shows.right).right) c.in-Some.ensures
    c.count-outer_count.ensures c.in_ok-leave.ensures.bindings (c.leave.ensures.opens ∙ c.read_tag.ensures.opens) (c.leave.ensures.depth ∙ c.read_tag.ensures.depth) c.in_ok-start_element.ensures.taken
    c.in_ok-leave.ensures.taken (ap run_text c.leave.ensures.run ∙ c.in_ok-start_element.ensures.ended)

pub returns-in-Some-clause-shorter : goal.returns-in-Some-clause-shorter
returns-in-Some-clause-shorter g c = omega (arith, c.in_ok-tag.ensures.shorter, ap length c.in-Some.ensures)

pub enter-requires : goal.enter-requires
enter-requires g c = omega (arith, c.in_ok-tag.ensures.deep, c.read_tag.ensures.depth)

pub returns-clause-steps : goal.returns-clause-steps
returns-clause-steps g c = λ deepest root begun s.
    goes_into _ c.args.total deepest c.count-outer_count.result root c.args.text.now c.in_ok-inside.inside.now (run_text c.args.reader.now.run) (run_text c.start_element.new.reader.run) begun c.args.reader.now.taker
    c.start_element.new.reader.taker c.args.levels.now c.read_tag.new.self c.enter.new.levels c.in_ok-tag.tag s ((c.in_ok-tag.ensures.reads s.shows.right).reads c.args.total) (c.in_ok-tag.ensures.reads s.shows.right).right c.read_tag.ensures.opens c.read_tag.ensures.depth
    c.count-outer_count.ensures c.in_ok-enter.ensures c.in_ok-inside.ensures c.in_ok-start_element.ensures.taken c.in_ok-start_element.ensures.ended

pub returns-clause-shorter : goal.returns-clause-shorter
returns-clause-shorter g c = omega (arith, c.in_ok-tag.ensures.shorter, ap length c.in_ok-inside.ensures)

pub returns-in_err-tag-clause-steps : goal.returns-in_err-tag-clause-steps
returns-in_err-tag-clause-steps g c = failed_some _ _ c.from_residual.ensures

pub returns-in_err-tag-clause-shorter : goal.returns-in_err-tag-clause-shorter
returns-in_err-tag-clause-shorter g c = failed_some _ _ c.from_residual.ensures

pub returns-in_err-start_element-clause-steps : goal.returns-in_err-start_element-clause-steps
returns-in_err-start_element-clause-steps g c = failed_some _ _ c.from_residual-in_err-start_element.ensures

pub returns-in_err-start_element-clause-shorter : goal.returns-in_err-start_element-clause-shorter
returns-in_err-start_element-clause-shorter g c = failed_some _ _ c.from_residual-in_err-start_element.ensures

pub returns-in_err-leave-clause-steps : goal.returns-in_err-leave-clause-steps
returns-in_err-leave-clause-steps g c = failed_some _ _ c.from_residual-in_err-leave.ensures

pub returns-in_err-leave-clause-shorter : goal.returns-in_err-leave-clause-shorter
returns-in_err-leave-clause-shorter g c = failed_some _ _ c.from_residual-in_err-leave.ensures

pub returns-in_err-inside-clause-steps : goal.returns-in_err-inside-clause-steps
returns-in_err-inside-clause-steps g c = failed_some _ _ c.from_residual-in_err-inside.ensures

pub returns-in_err-inside-clause-shorter : goal.returns-in_err-inside-clause-shorter
returns-in_err-inside-clause-shorter g c = failed_some _ _ c.from_residual-in_err-inside.ensures

pub returns-in_err-enter-clause-steps : goal.returns-in_err-enter-clause-steps
returns-in_err-enter-clause-steps g c = failed_some _ _ c.from_residual-in_err-enter.ensures

pub returns-in_err-enter-clause-shorter : goal.returns-in_err-enter-clause-shorter
returns-in_err-enter-clause-shorter g c = failed_some _ _ c.from_residual-in_err-enter.ensures
