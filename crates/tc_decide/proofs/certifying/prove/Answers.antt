use Rattle.tc_decide.specs.Certificates.{OnCertified, IfRefuted}
use Rattle.tc_decide.specs.Deciding.{IsShownBy}
use Rattle.tc_decide.proofs.Meanings.{of_verdict}
use Rattle.tc_decide.proofs.Proving.{says_safe, shows, proved, counted}
use Rattle.tc_model.specs.Safety.{IsSafe}
use Rattle.tc_decide.proofs.certifying.prove.Goals as goal

pub returns-clause-certified_safe : goal.returns-clause-certified_safe
returns-clause-certified_safe c =
    of_verdict (λ r i o s. OnCertified r (IsSafe i o s)) (λ e i o s. tt) _ _ _ c.prove_texts.result c.prove_texts.ensures.refusal
    (λ i o s a b d. says_safe c.args.most i o s c.prove_texts.result (c.prove_texts.ensures.found i o s a b d))

pub returns-clause-shown : goal.returns-clause-shown
returns-clause-shown c =
    of_verdict (λ r i o s. IfRefuted r (IsShownBy i o s)) (λ e i o s. tt) _ _ _ c.prove_texts.result c.prove_texts.ensures.refusal
    (λ i o s a b d. shows c.args.most i o s c.prove_texts.result (c.prove_texts.ensures.found i o s a b d))

pub returns-clause-proved : goal.returns-clause-proved
returns-clause-proved c = λ i o s a b d. proved c.args.most i o s c.prove_texts.result (c.prove_texts.ensures.found i o s a b d)

pub returns-clause-counted : goal.returns-clause-counted
returns-clause-counted c = λ i o s a b d. counted c.args.most i o s c.prove_texts.result (c.prove_texts.ensures.found i o s a b d)

pub returns-clause-refused : goal.returns-clause-refused
returns-clause-refused c = c.prove_texts.ensures.refusal
