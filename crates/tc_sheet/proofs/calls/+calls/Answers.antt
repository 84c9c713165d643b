use Rattle.std.proofs.Common.{◌≡◌, ◌++◌, ◌∙◌, ap, append-nil, map, refl, sym}
use Rattle.std.proofs.lemmas.List.{map_push}
use Rattle.tc_graph.proofs.Tops.{on_ok}
use Rattle.tc_sheet.specs.SeenCalls.{site}
use Rattle.tc_sheet.specs.declared.faults.SheetFault.TheVariants.{NoMemory}
use Rattle.tc_sheet.specs.declared.written.Written.TheVariants as v
use Rattle.tc_sheet.proofs.Refused.{handed_on}
use Rattle.tc_sheet.proofs.WrittenParts.{calls_as, calls_of_call, choose_puts, calls_step, calls_end, calls_branch, calls_branches_end, inner_calls, no_calls}
use Rattle.tc_sheet.proofs.calls.+calls.Goals as goal

pub put_calls-loop-instruction-preserved : goal.put_calls-loop-instruction-preserved
put_calls-loop-instruction-preserved t c =
    calls_step c.args.body.now c.loop-instruction.instruction-index c.instruction-item.result c.loop-instruction-test.true c.instruction-item.is (map site c.loop-instruction.sites.items)
    (map site c.put_calls_of_one.new.sites.items) _ c.in_ok-put_calls_of_one.ensures.ok c.loop-instruction.invariant

pub put_calls-returns-clause-ok : goal.put_calls-returns-clause-ok
put_calls-returns-clause-ok t c = calls_end c.args.body.now c.loop-instruction.instruction-index (map site c.loop-instruction.sites.items) _ c.loop-instruction-test.false c.loop-instruction.invariant

pub put_calls_of_branches-loop-branch-preserved : goal.put_calls_of_branches-loop-branch-preserved
put_calls_of_branches-loop-branch-preserved t c =
    calls_branch c.args.branches.now c.loop-branch.branch-index _ c.loop-branch-test.true (map site c.loop-branch.sites.items) (map site c.put_calls.new.sites.items) _ c.in_ok-put_calls.ensures.ok c.loop-branch.invariant

pub put_calls_of_branches-returns-clause-ok : goal.put_calls_of_branches-returns-clause-ok
put_calls_of_branches-returns-clause-ok t c = calls_branches_end c.args.branches.now c.loop-branch.branch-index (map site c.loop-branch.sites.items) _ c.loop-branch-test.false c.loop-branch.invariant

pub put_calls_of_one-returns-in_ok-put_calls_of_branches-in-Choose-clause-ok : goal.put_calls_of_one-returns-in_ok-put_calls_of_branches-in-Choose-clause-ok
put_calls_of_one-returns-in_ok-put_calls_of_branches-in-Choose-clause-ok t c =
    on_ok c.put_calls.result
    (choose_puts c.in-Choose.branches c.in-Choose.last c.args.instruction.now (map site c.args.sites.now.items) (map site c.put_calls_of_branches.new.sites.items) (map site c.put_calls.new.sites.items)
    c.in-Choose.is c.in_ok-put_calls_of_branches-in-Choose.ensures.ok)
    c.put_calls.ensures.ok

pub put_calls_of_one-returns-in_ok-push-in-Call-clause-ok : goal.put_calls_of_one-returns-in_ok-push-in-Call-clause-ok
put_calls_of_one-returns-in_ok-push-in-Call-clause-ok t c =
    calls_as c.args.instruction.now (v.Call c.in-Call.name c.in-Call.place) (map site c.args.sites.now.items) (map site c.push.new.self.items) c.in-Call.is (calls_of_call c.in-Call.name c.in-Call.place)
    (ap (map site) c.in_ok-push-in-Call.ensures.items ∙ map_push site c.args.sites.now.items _)

pub put_calls-returns-in_err-put_calls_of_one-clause-no : goal.put_calls-returns-in_err-put_calls_of_one-clause-no
put_calls-returns-in_err-put_calls_of_one-clause-no t c = handed_on (λ e. e ≡ NoMemory) c.from_residual.result c.in_err-put_calls_of_one.field-0.0 c.from_residual.ensures.1 c.in_err-put_calls_of_one.ensures.no

pub put_calls_of_branches-returns-in_err-put_calls-clause-no : goal.put_calls_of_branches-returns-in_err-put_calls-clause-no
put_calls_of_branches-returns-in_err-put_calls-clause-no t c = handed_on (λ e. e ≡ NoMemory) c.from_residual.result c.in_err-put_calls.field-0.0 c.from_residual.ensures.1 c.in_err-put_calls.ensures.no

pub put_calls_of_one-returns-in_err-put_calls_of_branches-in-Choose-clause-no : goal.put_calls_of_one-returns-in_err-put_calls_of_branches-in-Choose-clause-no
put_calls_of_one-returns-in_err-put_calls_of_branches-in-Choose-clause-no t c = handed_on (λ e. e ≡ NoMemory) c.from_residual-in_err-put_calls_of_branches-in-Choose.result c.in_err-put_calls_of_branches-in-Choose.field-0.0 c.from_residual-in_err-put_calls_of_branches-in-Choose.ensures.1 c.in_err-put_calls_of_branches-in-Choose.ensures.no

pub put_calls_of_one-returns-in-Text-clause-ok : goal.put_calls_of_one-returns-in-Text-clause-ok
put_calls_of_one-returns-in-Text-clause-ok t c = sym (ap (λ z. (map site c.args.sites.now.items) ++ z) (no_calls c.args.instruction.now c.in-Text.is) ∙ append-nil (map site c.args.sites.now.items))

pub put_calls_of_one-returns-in-Text-2-clause-ok : goal.put_calls_of_one-returns-in-Text-2-clause-ok
put_calls_of_one-returns-in-Text-2-clause-ok t c = sym (ap (λ z. (map site c.args.sites.now.items) ++ z) (no_calls c.args.instruction.now c.in-Text.is) ∙ append-nil (map site c.args.sites.now.items))

pub put_calls_of_one-returns-in-Text-3-clause-ok : goal.put_calls_of_one-returns-in-Text-3-clause-ok
put_calls_of_one-returns-in-Text-3-clause-ok t c = sym (ap (λ z. (map site c.args.sites.now.items) ++ z) (no_calls c.args.instruction.now c.in-Text.is) ∙ append-nil (map site c.args.sites.now.items))

pub put_calls_of_one-returns-in-Text-4-clause-ok : goal.put_calls_of_one-returns-in-Text-4-clause-ok
put_calls_of_one-returns-in-Text-4-clause-ok t c = sym (ap (λ z. (map site c.args.sites.now.items) ++ z) (no_calls c.args.instruction.now c.in-Text.is) ∙ append-nil (map site c.args.sites.now.items))

pub put_calls_of_one-returns-in-Elem-clause-ok : goal.put_calls_of_one-returns-in-Elem-clause-ok
put_calls_of_one-returns-in-Elem-clause-ok t c = on_ok c.put_calls-in-Elem.result (λ e. e ∙ ap (λ z. (map site c.args.sites.now.items) ++ z) (sym (inner_calls c.args.instruction.now c.in-Elem.inner c.in-Elem.is))) c.put_calls-in-Elem.ensures.ok

pub put_calls-loop-instruction-init : goal.put_calls-loop-instruction-init
put_calls-loop-instruction-init t c = refl

pub put_calls_of_branches-loop-branch-init : goal.put_calls_of_branches-loop-branch-init
put_calls_of_branches-loop-branch-init t c = refl

pub put_calls_of_one-returns-in_ok-put_calls_of_branches-in-Choose-clause-no : goal.put_calls_of_one-returns-in_ok-put_calls_of_branches-in-Choose-clause-no
put_calls_of_one-returns-in_ok-put_calls_of_branches-in-Choose-clause-no t c = c.put_calls.ensures.no

pub put_calls_of_one-returns-in-Elem-clause-no : goal.put_calls_of_one-returns-in-Elem-clause-no
put_calls_of_one-returns-in-Elem-clause-no t c = c.put_calls-in-Elem.ensures.no

pub put_calls_of_one-returns-in-Text-clause-no : goal.put_calls_of_one-returns-in-Text-clause-no
put_calls_of_one-returns-in-Text-clause-no t c = tt

pub put_calls_of_one-returns-in-Text-2-clause-no : goal.put_calls_of_one-returns-in-Text-2-clause-no
put_calls_of_one-returns-in-Text-2-clause-no t c = tt

pub put_calls_of_one-returns-in-Text-3-clause-no : goal.put_calls_of_one-returns-in-Text-3-clause-no
put_calls_of_one-returns-in-Text-3-clause-no t c = tt

pub put_calls_of_one-returns-in-Text-4-clause-no : goal.put_calls_of_one-returns-in-Text-4-clause-no
put_calls_of_one-returns-in-Text-4-clause-no t c = tt

pub put_calls_of_one-returns-in_ok-push-in-Call-clause-no : goal.put_calls_of_one-returns-in_ok-push-in-Call-clause-no
put_calls_of_one-returns-in_ok-push-in-Call-clause-no t c = tt

pub put_calls-returns-clause-no : goal.put_calls-returns-clause-no
put_calls-returns-clause-no t c = tt

pub put_calls_of_branches-returns-clause-no : goal.put_calls_of_branches-returns-clause-no
put_calls_of_branches-returns-clause-no t c = tt
