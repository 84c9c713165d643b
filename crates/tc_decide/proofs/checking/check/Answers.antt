use Rattle.std.proofs.Common.{OnOk}
use Rattle.tc_decide.specs.Deciding.{OnSafe, IfUnsafe, IsShownBy, DecidesSafety}
use Rattle.tc_decide.proofs.Deciding.{says_safe, shows, headline, counted}
use Rattle.tc_decide.proofs.Meanings.{of_verdict}
use Rattle.tc_model.specs.Safety.{IsSafe}
use Rattle.tc_decide.proofs.checking.check.Goals as goal

pub returns-clause-safe : goal.returns-clause-safe
returns-clause-safe c =
    of_verdict (λ r i o s. OnSafe r (IsSafe i o s)) (λ e i o s. tt) _ _ _ c.check_texts.result c.check_texts.ensures.refusal
    (λ i o s a b d. says_safe c.args.most i o s c.check_texts.result (c.check_texts.ensures.found i o s a b d))

pub returns-clause-shown : goal.returns-clause-shown
returns-clause-shown c =
    of_verdict (λ r i o s. IfUnsafe r (IsShownBy i o s)) (λ e i o s. tt) _ _ _ c.check_texts.result c.check_texts.ensures.refusal
    (λ i o s a b d. shows c.args.most i o s c.check_texts.result (c.check_texts.ensures.found i o s a b d))

pub returns-clause-headline : goal.returns-clause-headline
returns-clause-headline c =
    of_verdict (λ r i o s. OnOk r (DecidesSafety i o s r)) (λ e i o s. tt) _ _ _ c.check_texts.result c.check_texts.ensures.refusal
    (λ i o s a b d. headline c.args.most i o s c.check_texts.result (c.check_texts.ensures.found i o s a b d))

pub returns-clause-declared : goal.returns-clause-declared
returns-clause-declared c = λ i o s a b d. headline c.args.most i o s c.check_texts.result (c.check_texts.ensures.found i o s a b d)

pub returns-clause-counted : goal.returns-clause-counted
returns-clause-counted c = λ i o s a b d. counted c.args.most i o s c.check_texts.result (c.check_texts.ensures.found i o s a b d)

pub returns-clause-refused : goal.returns-clause-refused
returns-clause-refused c = c.check_texts.ensures.refusal
