use Rattle.tc_decide.specs.Verified.{OnAccepted}
use Rattle.tc_decide.proofs.Meanings.{of_verdict}
use Rattle.tc_decide.proofs.Verifications.{decides, says_safe, limits}
use Rattle.tc_model.specs.Safety.{IsSafe}
use Rattle.tc_decide.proofs.verifying.verify.Goals as goal

pub returns-clause-accepted_safe : goal.returns-clause-accepted_safe
returns-clause-accepted_safe c =
    of_verdict (λ r i o s. OnAccepted r (IsSafe i o s)) (λ e i o s. tt) _ _ _ c.verify_texts.result c.verify_texts.ensures.refusal
    (λ i o s a b d. says_safe c.args.certificate.now i o s c.verify_texts.result (c.verify_texts.ensures.found i o s a b d))

pub returns-clause-declared : goal.returns-clause-declared
returns-clause-declared c = λ i o s a b d. says_safe c.args.certificate.now i o s c.verify_texts.result (c.verify_texts.ensures.found i o s a b d)

pub returns-clause-verified : goal.returns-clause-verified
returns-clause-verified c = λ i o s a b d. decides c.args.certificate.now i o s c.requires.certificate c.verify_texts.result (c.verify_texts.ensures.found i o s a b d)

pub returns-clause-counted : goal.returns-clause-counted
returns-clause-counted c = λ i o s a b d. limits c.args.certificate.now i o s c.verify_texts.result (c.verify_texts.ensures.found i o s a b d)

pub returns-clause-refused : goal.returns-clause-refused
returns-clause-refused c = c.verify_texts.ensures.refusal
