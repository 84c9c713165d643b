use Rattle.std.proofs.Common.{◌≡◌, ◌+◌, ◌∙◌, [], ap, arith, refl, sym}
use Rattle.tc_sheet.specs.Views.{body}
use Rattle.tc_model.specs.SheetText.{eaches_in}
use Rattle.tc_sheet.specs.declared.faults.SheetFault.TheVariants.{NoMemory}
use Rattle.tc_sheet.specs.declared.written.Written.TheVariants as v
use Rattle.tc_sheet.proofs.Refused.{handed_on}
use Rattle.tc_sheet.proofs.NumberLaws.{body_count, body_counted, branches_count, branches_counted, counted_by, if_ok}
use Rattle.tc_sheet.proofs.WrittenParts.{eaches_of_choose, eaches_of_each, inner_eaches, no_eaches}
use Rattle.tc_sheet.proofs.Passed.{no_value}
use Rattle.tc_sheet.proofs.numbering.+eaches.Goals as goal

pub eaches_in-loop-instruction-preserved : goal.eaches_in-loop-instruction-preserved
eaches_in-loop-instruction-preserved t c =
    body_count c.args.body.now c.loop-instruction.instruction-index c.instruction-item.result c.loop-instruction-test.true c.instruction-item.is c.loop-instruction.count c.in_ok-count.count _ c.in_ok-count.ensures.ok
    c.loop-instruction.invariant

pub eaches_in-returns-clause-ok : goal.eaches_in-returns-clause-ok
eaches_in-returns-clause-ok t c = body_counted c.args.body.now c.loop-instruction.instruction-index c.loop-instruction.count _ c.loop-instruction-test.false c.loop-instruction.invariant

pub eaches_in_branches-loop-branch-preserved : goal.eaches_in_branches-loop-branch-preserved
eaches_in_branches-loop-branch-preserved t c =
    branches_count c.args.branches.now c.loop-branch.branch-index _ c.loop-branch-test.true c.loop-branch.count c.in_ok-count.count _ c.in_ok-count.ensures.ok c.loop-branch.invariant

pub eaches_in_branches-returns-clause-ok : goal.eaches_in_branches-returns-clause-ok
eaches_in_branches-returns-clause-ok t c = branches_counted c.args.branches.now c.loop-branch.branch-index c.loop-branch.count _ c.loop-branch-test.false c.loop-branch.invariant

pub eaches_in_one-returns-in_ok-outer-in-ForEach-clause-ok : goal.eaches_in_one-returns-in_ok-outer-in-ForEach-clause-ok
eaches_in_one-returns-in_ok-outer-in-ForEach-clause-ok t c =
    if_ok c.eaches_in.result (λ n. n ≡ c.in_ok-outer-in-ForEach.outer + eaches_in (body c.in-ForEach.inner.now)) _
    (λ n e. counted_by [] [] c.args.instruction.now c.args.before n (v.ForEach c.in-ForEach.field-0 c.in-ForEach.inner) _ c.in-ForEach.is (eaches_of_each c.in-ForEach.field-0 c.in-ForEach.inner)
    (omega (arith, e, c.in_ok-outer-in-ForEach.ensures.ok))) c.eaches_in.ensures.ok

pub eaches_in_one-returns-in_ok-chosen-in-Choose-clause-ok : goal.eaches_in_one-returns-in_ok-chosen-in-Choose-clause-ok
eaches_in_one-returns-in_ok-chosen-in-Choose-clause-ok t c =
    if_ok c.eaches_in-in-Choose.result (λ n. n ≡ c.in_ok-chosen-in-Choose.chosen + eaches_in (body c.in-Choose.last.now)) _
    (λ n e. counted_by [] [] c.args.instruction.now c.args.before n (v.Choose c.in-Choose.branches c.in-Choose.last) _ c.in-Choose.is (eaches_of_choose c.in-Choose.branches c.in-Choose.last)
    (omega (arith, e, c.in_ok-chosen-in-Choose.ensures.ok))) c.eaches_in-in-Choose.ensures.ok

pub eaches_in_one-returns-in-Text-clause-ok : goal.eaches_in_one-returns-in-Text-clause-ok
eaches_in_one-returns-in-Text-clause-ok t c = omega (arith, no_eaches c.args.instruction.now c.in-Text.is)

pub eaches_in_one-returns-in-Text-2-clause-ok : goal.eaches_in_one-returns-in-Text-2-clause-ok
eaches_in_one-returns-in-Text-2-clause-ok t c = omega (arith, no_eaches c.args.instruction.now c.in-Text.is)

pub eaches_in_one-returns-in-Text-3-clause-ok : goal.eaches_in_one-returns-in-Text-3-clause-ok
eaches_in_one-returns-in-Text-3-clause-ok t c = omega (arith, no_eaches c.args.instruction.now c.in-Text.is)

pub eaches_in_one-returns-in-Text-4-clause-ok : goal.eaches_in_one-returns-in-Text-4-clause-ok
eaches_in_one-returns-in-Text-4-clause-ok t c = omega (arith, no_eaches c.args.instruction.now c.in-Text.is)

pub eaches_in_one-returns-in-Text-5-clause-ok : goal.eaches_in_one-returns-in-Text-5-clause-ok
eaches_in_one-returns-in-Text-5-clause-ok t c = omega (arith, no_eaches c.args.instruction.now c.in-Text.is)

pub eaches_in_one-returns-in-Elem-clause-ok : goal.eaches_in_one-returns-in-Elem-clause-ok
eaches_in_one-returns-in-Elem-clause-ok t c = if_ok c.eaches_in-in-Elem.result (λ n. n ≡ c.args.before + eaches_in (body c.in-Elem.inner.now)) _ (λ n e. e ∙ ap (λ k. c.args.before + k) (sym (inner_eaches c.args.instruction.now c.in-Elem.inner c.in-Elem.is))) c.eaches_in-in-Elem.ensures.ok

pub eaches_in-loop-instruction-init : goal.eaches_in-loop-instruction-init
eaches_in-loop-instruction-init t c = refl

pub eaches_in_branches-loop-branch-init : goal.eaches_in_branches-loop-branch-init
eaches_in_branches-loop-branch-init t c = refl

pub eaches_in_one-returns-in_ok-outer-in-ForEach-clause-no : goal.eaches_in_one-returns-in_ok-outer-in-ForEach-clause-no
eaches_in_one-returns-in_ok-outer-in-ForEach-clause-no t c = c.eaches_in.ensures.no

pub eaches_in_one-returns-in_ok-chosen-in-Choose-clause-no : goal.eaches_in_one-returns-in_ok-chosen-in-Choose-clause-no
eaches_in_one-returns-in_ok-chosen-in-Choose-clause-no t c = c.eaches_in-in-Choose.ensures.no

pub eaches_in_one-returns-in-Elem-clause-no : goal.eaches_in_one-returns-in-Elem-clause-no
eaches_in_one-returns-in-Elem-clause-no t c = c.eaches_in-in-Elem.ensures.no

pub eaches_in_one-returns-in-Text-clause-no : goal.eaches_in_one-returns-in-Text-clause-no
eaches_in_one-returns-in-Text-clause-no t c = tt

pub eaches_in_one-returns-in-Text-2-clause-no : goal.eaches_in_one-returns-in-Text-2-clause-no
eaches_in_one-returns-in-Text-2-clause-no t c = tt

pub eaches_in_one-returns-in-Text-3-clause-no : goal.eaches_in_one-returns-in-Text-3-clause-no
eaches_in_one-returns-in-Text-3-clause-no t c = tt

pub eaches_in_one-returns-in-Text-4-clause-no : goal.eaches_in_one-returns-in-Text-4-clause-no
eaches_in_one-returns-in-Text-4-clause-no t c = tt

pub eaches_in_one-returns-in-Text-5-clause-no : goal.eaches_in_one-returns-in-Text-5-clause-no
eaches_in_one-returns-in-Text-5-clause-no t c = tt

pub eaches_in-returns-clause-no : goal.eaches_in-returns-clause-no
eaches_in-returns-clause-no t c = tt

pub eaches_in_branches-returns-clause-no : goal.eaches_in_branches-returns-clause-no
eaches_in_branches-returns-clause-no t c = tt

pub eaches_in-returns-in_err-count-clause-ok : goal.eaches_in-returns-in_err-count-clause-ok
eaches_in-returns-in_err-count-clause-ok t c = no_value c.from_residual.result _ _ c.from_residual.ensures.1

pub eaches_in-returns-in_err-count-clause-no : goal.eaches_in-returns-in_err-count-clause-no
eaches_in-returns-in_err-count-clause-no t c = handed_on (λ e. e ≡ NoMemory) c.from_residual.result c.in_err-count.field-0.0 c.from_residual.ensures.1 c.in_err-count.ensures.no

pub eaches_in_branches-returns-in_err-count-clause-ok : goal.eaches_in_branches-returns-in_err-count-clause-ok
eaches_in_branches-returns-in_err-count-clause-ok t c = no_value c.from_residual.result _ _ c.from_residual.ensures.1

pub eaches_in_branches-returns-in_err-count-clause-no : goal.eaches_in_branches-returns-in_err-count-clause-no
eaches_in_branches-returns-in_err-count-clause-no t c = handed_on (λ e. e ≡ NoMemory) c.from_residual.result c.in_err-count.field-0.0 c.from_residual.ensures.1 c.in_err-count.ensures.no

pub eaches_in_one-returns-in_err-outer-in-ForEach-clause-ok : goal.eaches_in_one-returns-in_err-outer-in-ForEach-clause-ok
eaches_in_one-returns-in_err-outer-in-ForEach-clause-ok t c = no_value c.from_residual.result _ _ c.from_residual.ensures.1

pub eaches_in_one-returns-in_err-outer-in-ForEach-clause-no : goal.eaches_in_one-returns-in_err-outer-in-ForEach-clause-no
eaches_in_one-returns-in_err-outer-in-ForEach-clause-no t c = handed_on (λ e. e ≡ NoMemory) c.from_residual.result c.in_err-outer-in-ForEach.field-0.0 c.from_residual.ensures.1 c.in_err-outer-in-ForEach.ensures.no

pub eaches_in_one-returns-in_err-chosen-in-Choose-clause-ok : goal.eaches_in_one-returns-in_err-chosen-in-Choose-clause-ok
eaches_in_one-returns-in_err-chosen-in-Choose-clause-ok t c = no_value c.from_residual-in_err-chosen-in-Choose.result _ _ c.from_residual-in_err-chosen-in-Choose.ensures.1

pub eaches_in_one-returns-in_err-chosen-in-Choose-clause-no : goal.eaches_in_one-returns-in_err-chosen-in-Choose-clause-no
eaches_in_one-returns-in_err-chosen-in-Choose-clause-no t c = handed_on (λ e. e ≡ NoMemory) c.from_residual-in_err-chosen-in-Choose.result c.in_err-chosen-in-Choose.field-0.0 c.from_residual-in_err-chosen-in-Choose.ensures.1 c.in_err-chosen-in-Choose.ensures.no
