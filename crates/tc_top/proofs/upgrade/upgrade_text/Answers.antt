use Rattle.std.proofs.Common.{◌≤◌, sym, subst, List, ℕ, length}
use Rattle.std.proofs.lemmas.Result.{IfOk-weaker}
use Rattle.tc_base.specs.Reading.{longest_text}
use Rattle.tc_top.specs.Certifying.{Upgrades}
use Rattle.tc_top.specs.VerdictsSeen.{name_of_two, upgrade_answer}
use Rattle.tc_top.proofs.Decided.{of_verdict, upgraded_by, upgrade_fails}
use Rattle.tc_top.proofs.upgrade.upgrade_text.Goals as goal

pub returns-in-Ok : goal.returns-in-Ok
returns-in-Ok c =
    let v = c.in-Ok.upgrade in
    let short = subst (λ (w : List ℕ). length w ≤ longest_text) (sym c.deref.ensures.value) c.requires in
    let upgrades = upgraded_by c.deref.result.now v short (of_verdict v c.in-Ok.ensures.upgraded) in
    IfOk-weaker c.answer_upgrade.result _ _ (λ said says. (upgrade_answer v, says, subst (λ w. Upgrades w (upgrade_answer v)) c.deref.ensures.value upgrades)) c.answer_upgrade.ensures

pub returns-in-Err : goal.returns-in-Err
returns-in-Err c =
    let name = c.args.certificate.now.name.now in
    IfOk-weaker c.answer_pair_failure.result _ _ (λ said says.
    let told = upgrade_fails c.deref.result.now (name_of_two name name) c.in-Err.failure said c.in-Err.ensures.counted says in
    (told.0, told.1, subst (λ w. Upgrades w told.0) c.deref.ensures.value told.2)) c.answer_pair_failure.ensures
