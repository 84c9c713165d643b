use Rattle.std.proofs.Common.{refl, subst}
use Rattle.tc_cert.specs.Readings.{IsUnread}
use Rattle.tc_decide.proofs.verifying.no_form.Goals as goal

pub returns-in-Form : goal.returns-in-Form
returns-in-Form c = λ bytes h. (c.in-Form.line, subst (IsUnread bytes) c.in-Form.is h, refl)
