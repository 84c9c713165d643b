use Rattle.std.proofs.Common.{◌≤◌, refl, subst, List, ℕ, length}
use Rattle.tc_cert.specs.Readings.{IsNotUpgraded}
use Rattle.tc_decide.specs.declared.limits.TheConstants.{LONGEST_CERTIFICATE}
use Rattle.tc_decide.proofs.upgrading.upgrade_text.Goals as goal

pub returns-in-Ok : goal.returns-in-Ok
returns-in-Ok c =
    let u = c.in-Ok.ensures.ok in
    (u.held, u.means, subst (λ (w : List ℕ). length w ≤ LONGEST_CERTIFICATE) u.spelled u.within, u.spelled)

pub returns-in-Err-Form : goal.returns-in-Err-Form
returns-in-Err-Form c = subst (IsNotUpgraded c.args.certificate.now) c.in-Err-Form.field-0-is c.in-Err-Form.ensures.fault

pub returns-in-Err-TooLong : goal.returns-in-Err-TooLong
returns-in-Err-TooLong c =
    let long = subst (IsNotUpgraded c.args.certificate.now) c.in-Err-TooLong.field-0-is c.in-Err-TooLong.ensures.fault in
    ((long.held, long.means, long.long), refl)
