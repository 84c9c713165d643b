use Rattle.std.proofs.Common.{◌≡◌, sym, subst}
use Rattle.tc_decide.specs.Checking.{IsLargeRun}
use Rattle.tc_decide.proofs.Triples.{rules_sheet, rules_stand, much_work, too_open}
use Rattle.tc_decide.proofs.checking.output_of.Goals as goal
use Rattle.tc_model.specs.Safety.{IsResultOf}
use Rattle.tc_model.specs.Sheets.{Sheet}
use Rattle.tc_model.specs.Trees.{none}
use Rattle.tc_model.specs.Views.{before, trees}
use Rattle.tc_rows.specs.Triples.{sheet}
use Rattle.tc_rules.specs.Kept.{IsRulesOf, told}
use Rattle.tc_rules.specs.declared.rules.Rules.{Rules}
use Rattle.tc_run.specs.Limits.{KeepsLimits, IsCause}

pub run-requires-clause-rules : goal.run-requires-clause-rules
run-requires-clause-rules c =
    let (x, is) = c.requires.machine in
    subst (λ (r : Rules). IsRulesOf c.alphabet.result.now r) (sym c.rules.ensures) (subst (λ w. IsRulesOf w c.args.machine.now.rules) (sym c.alphabet.ensures) (rules_stand is))

pub returns-in-Ok : goal.returns-in-Ok
returns-in-Ok c = λ x is.
    let d = before c.args.document.now none in
    let same : (told c.rules.result.now).sheet ≡ sheet x = subst (λ (r : Rules). (told r).sheet ≡ sheet x) (sym c.rules.ensures) (rules_sheet is) in
    (subst (λ (s : Sheet). KeepsLimits s d) same c.in-Ok.ensures.within, subst (λ (s : Sheet). IsResultOf s d (trees c.in-Ok.nodes.now)) same c.in-Ok.ensures.result)

pub returns-in-Err-TooMuchWork : goal.returns-in-Err-TooMuchWork
returns-in-Err-TooMuchWork c = λ x is.
    let d = before c.args.document.now none in
    let cause = subst (IsCause (told c.rules.result.now).sheet d) c.in-Err-TooMuchWork.field-0-is c.in-Err-TooMuchWork.ensures.cause in
    let same : (told c.rules.result.now).sheet ≡ sheet x = subst (λ (r : Rules). (told r).sheet ≡ sheet x) (sym c.rules.ensures) (rules_sheet is) in
    subst (λ (s : Sheet). IsLargeRun s d) same (much_work (told c.rules.result.now).sheet d cause)

pub returns-in-Err-TooOpen : goal.returns-in-Err-TooOpen
returns-in-Err-TooOpen c = λ x is.
    let d = before c.args.document.now none in
    let cause = subst (IsCause (told c.rules.result.now).sheet d) c.in-Err-TooOpen.field-0-is c.in-Err-TooOpen.ensures.cause in
    let same : (told c.rules.result.now).sheet ≡ sheet x = subst (λ (r : Rules). (told r).sheet ≡ sheet x) (sym c.rules.ensures) (rules_sheet is) in
    subst (λ (s : Sheet). IsLargeRun s d) same (too_open (told c.rules.result.now).sheet d cause)
