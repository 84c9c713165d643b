use Rattle.tc_decide.specs.Comparing.{OnSame, IsSo, equality}
use Rattle.tc_decide.proofs.Meanings.{of_comparison}
use Rattle.tc_decide.proofs.Compared.{says_same, shows_different, equality_decides, equality_limits}
use Rattle.tc_decide.proofs.comparing.same.Goals as goal

pub returns-clause-equal : goal.returns-clause-equal
returns-clause-equal c =
    of_comparison (λ r x y. OnSame r (IsSo x y equality)) (λ e x y. tt) _ _ c.same_texts.result c.same_texts.ensures.refusal
    (λ x y p q. says_same x y c.same_texts.result (c.same_texts.ensures.found x y p q))

pub returns-clause-shown : goal.returns-clause-shown
returns-clause-shown c = λ x y p q. shows_different x y c.same_texts.result (c.same_texts.ensures.found x y p q)

pub returns-clause-equality : goal.returns-clause-equality
returns-clause-equality c = λ x y p q. equality_decides x y c.same_texts.result (c.same_texts.ensures.found x y p q)

pub returns-clause-counted : goal.returns-clause-counted
returns-clause-counted c = λ x y p q. equality_limits x y c.same_texts.result (c.same_texts.ensures.found x y p q)

pub returns-clause-refused : goal.returns-clause-refused
returns-clause-refused c = c.same_texts.ensures.refusal
