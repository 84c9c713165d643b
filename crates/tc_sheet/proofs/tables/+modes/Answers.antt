use Rattle.std.proofs.Common.{◌≡◌, ◌∙◌, ap, append-nil, refl, sym}
use Rattle.tc_graph.proofs.Tops.{on_ok}
use Rattle.tc_sheet.specs.SeenCalls.{names_seen}
use Rattle.tc_sheet.specs.Tables.{puts}
use Rattle.tc_sheet.specs.declared.faults.SheetFault.TheVariants.{NoMemory}
use Rattle.tc_sheet.specs.declared.written.Written.TheVariants as v
use Rattle.tc_sheet.proofs.Refused.{handed_on}
use Rattle.tc_sheet.proofs.WrittenParts.{choose_puts_modes, inner_modes, modes_as, modes_branch, modes_branches_end, modes_end, modes_of_apply, modes_step, no_modes}
use Rattle.tc_sheet.proofs.tables.+modes.Goals as goal

pub put_modes_of_one-returns-in_ok-put_modes_of_branches-in-Choose-clause-ok : goal.put_modes_of_one-returns-in_ok-put_modes_of_branches-in-Choose-clause-ok
put_modes_of_one-returns-in_ok-put_modes_of_branches-in-Choose-clause-ok t c =
    on_ok c.put_modes.result
    (choose_puts_modes c.in-Choose.branches c.in-Choose.last c.args.instruction.now (names_seen c.args.modes.now) (names_seen c.put_modes_of_branches.new.modes) (names_seen c.put_modes.new.modes)
    c.in-Choose.is c.in_ok-put_modes_of_branches-in-Choose.ensures.ok)
    c.put_modes.ensures.ok

pub put_modes-loop-instruction-preserved : goal.put_modes-loop-instruction-preserved
put_modes-loop-instruction-preserved t c =
    modes_step c.args.body.now c.loop-instruction.instruction-index c.instruction-item.result c.loop-instruction-test.true c.instruction-item.is (names_seen c.loop-instruction.modes) (names_seen c.put_modes_of_one.new.modes) _
    c.in_ok-put_modes_of_one.ensures.ok c.loop-instruction.invariant

pub put_modes_of_branches-loop-branch-preserved : goal.put_modes_of_branches-loop-branch-preserved
put_modes_of_branches-loop-branch-preserved t c =
    modes_branch c.args.branches.now c.loop-branch.branch-index _ c.loop-branch-test.true (names_seen c.loop-branch.modes) (names_seen c.put_modes.new.modes) _
    c.in_ok-put_modes.ensures.ok c.loop-branch.invariant

pub put_modes-returns-clause-ok : goal.put_modes-returns-clause-ok
put_modes-returns-clause-ok t c = modes_end c.args.body.now c.loop-instruction.instruction-index (names_seen c.loop-instruction.modes) _ c.loop-instruction-test.false c.loop-instruction.invariant

pub put_modes_of_branches-returns-clause-ok : goal.put_modes_of_branches-returns-clause-ok
put_modes_of_branches-returns-clause-ok t c = modes_branches_end c.args.branches.now c.loop-branch.branch-index (names_seen c.loop-branch.modes) _ c.loop-branch-test.false c.loop-branch.invariant

pub put_modes-returns-in_err-put_modes_of_one-clause-no : goal.put_modes-returns-in_err-put_modes_of_one-clause-no
put_modes-returns-in_err-put_modes_of_one-clause-no t c = handed_on (λ e. e ≡ NoMemory) c.from_residual.result c.in_err-put_modes_of_one.field-0.0 c.from_residual.ensures.1 c.in_err-put_modes_of_one.ensures.no

pub put_modes_of_branches-returns-in_err-put_modes-clause-no : goal.put_modes_of_branches-returns-in_err-put_modes-clause-no
put_modes_of_branches-returns-in_err-put_modes-clause-no t c = handed_on (λ e. e ≡ NoMemory) c.from_residual.result c.in_err-put_modes.field-0.0 c.from_residual.ensures.1 c.in_err-put_modes.ensures.no

pub put_modes_of_one-returns-in_err-put_modes_of_branches-in-Choose-clause-no : goal.put_modes_of_one-returns-in_err-put_modes_of_branches-in-Choose-clause-no
put_modes_of_one-returns-in_err-put_modes_of_branches-in-Choose-clause-no t c = handed_on (λ e. e ≡ NoMemory) c.from_residual.result c.in_err-put_modes_of_branches-in-Choose.field-0.0 c.from_residual.ensures.1 c.in_err-put_modes_of_branches-in-Choose.ensures.no

pub put_modes_of_one-returns-in-Text-clause-ok : goal.put_modes_of_one-returns-in-Text-clause-ok
put_modes_of_one-returns-in-Text-clause-ok t c = sym (ap (puts (names_seen c.args.modes.now)) (no_modes c.args.instruction.now c.in-Text.is) ∙ append-nil (names_seen c.args.modes.now))

pub put_modes_of_one-returns-in-Text-2-clause-ok : goal.put_modes_of_one-returns-in-Text-2-clause-ok
put_modes_of_one-returns-in-Text-2-clause-ok t c = sym (ap (puts (names_seen c.args.modes.now)) (no_modes c.args.instruction.now c.in-Text.is) ∙ append-nil (names_seen c.args.modes.now))

pub put_modes_of_one-returns-in-Text-3-clause-ok : goal.put_modes_of_one-returns-in-Text-3-clause-ok
put_modes_of_one-returns-in-Text-3-clause-ok t c = sym (ap (puts (names_seen c.args.modes.now)) (no_modes c.args.instruction.now c.in-Text.is) ∙ append-nil (names_seen c.args.modes.now))

pub put_modes_of_one-returns-in-Text-4-clause-ok : goal.put_modes_of_one-returns-in-Text-4-clause-ok
put_modes_of_one-returns-in-Text-4-clause-ok t c = sym (ap (puts (names_seen c.args.modes.now)) (no_modes c.args.instruction.now c.in-Text.is) ∙ append-nil (names_seen c.args.modes.now))

pub put_modes_of_one-returns-in-Elem-clause-ok : goal.put_modes_of_one-returns-in-Elem-clause-ok
put_modes_of_one-returns-in-Elem-clause-ok t c = on_ok c.put_modes-in-Elem.result (λ e. e ∙ ap (puts (names_seen c.args.modes.now)) (sym (inner_modes c.args.instruction.now c.in-Elem.inner c.in-Elem.is))) c.put_modes-in-Elem.ensures.ok

pub put_modes-loop-instruction-init : goal.put_modes-loop-instruction-init
put_modes-loop-instruction-init t c = refl

pub put_modes_of_branches-loop-branch-init : goal.put_modes_of_branches-loop-branch-init
put_modes_of_branches-loop-branch-init t c = refl

pub put_modes_of_one-returns-in_ok-put_modes_of_branches-in-Choose-clause-no : goal.put_modes_of_one-returns-in_ok-put_modes_of_branches-in-Choose-clause-no
put_modes_of_one-returns-in_ok-put_modes_of_branches-in-Choose-clause-no t c = c.put_modes.ensures.no

pub put_modes_of_one-returns-in-Elem-clause-no : goal.put_modes_of_one-returns-in-Elem-clause-no
put_modes_of_one-returns-in-Elem-clause-no t c = c.put_modes-in-Elem.ensures.no

pub put_modes_of_one-returns-in-Text-clause-no : goal.put_modes_of_one-returns-in-Text-clause-no
put_modes_of_one-returns-in-Text-clause-no t c = tt

pub put_modes_of_one-returns-in-Text-2-clause-no : goal.put_modes_of_one-returns-in-Text-2-clause-no
put_modes_of_one-returns-in-Text-2-clause-no t c = tt

pub put_modes_of_one-returns-in-Text-3-clause-no : goal.put_modes_of_one-returns-in-Text-3-clause-no
put_modes_of_one-returns-in-Text-3-clause-no t c = tt

pub put_modes_of_one-returns-in-Text-4-clause-no : goal.put_modes_of_one-returns-in-Text-4-clause-no
put_modes_of_one-returns-in-Text-4-clause-no t c = tt

pub put_modes-returns-clause-no : goal.put_modes-returns-clause-no
put_modes-returns-clause-no t c = tt

pub put_modes_of_branches-returns-clause-no : goal.put_modes_of_branches-returns-clause-no
put_modes_of_branches-returns-clause-no t c = tt

pub put_modes_of_one-returns-in-Apply-clause-ok : goal.put_modes_of_one-returns-in-Apply-clause-ok
put_modes_of_one-returns-in-Apply-clause-ok t c = on_ok c.put_mode.result (modes_as c.args.instruction.now (v.Apply c.in-Apply.field-0 c.in-Apply.mode) (names_seen c.args.modes.now) (names_seen c.put_mode.new.modes) c.in-Apply.is (modes_of_apply c.in-Apply.field-0 c.in-Apply.mode)) c.put_mode.ensures.ok

pub put_modes_of_one-returns-in-Apply-clause-no : goal.put_modes_of_one-returns-in-Apply-clause-no
put_modes_of_one-returns-in-Apply-clause-no t c = c.put_mode.ensures.no
