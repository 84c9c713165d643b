use Rattle.tc_decide.specs.Comparing.{OnIncluded, IfNotIncluded}
use Rattle.tc_decide.proofs.Meanings.{of_comparison}
use Rattle.tc_incl.specs.Schemas.{IsIncluded, IsDifference}
use Rattle.tc_decide.proofs.Compared.{says_included, shows_difference, inclusion_decides, inclusion_counts}
use Rattle.tc_decide.proofs.comparing.include.Goals as goal

pub returns-clause-included : goal.returns-clause-included
returns-clause-included c =
    of_comparison (λ r x y. OnIncluded r (IsIncluded x y)) (λ e x y. tt) _ _ c.include_texts.result c.include_texts.ensures.refusal
    (λ x y p q. says_included x y c.include_texts.result (c.include_texts.ensures.found x y p q))

pub returns-clause-shown : goal.returns-clause-shown
returns-clause-shown c =
    of_comparison (λ r x y. IfNotIncluded r (IsDifference x y)) (λ e x y. tt) _ _ c.include_texts.result c.include_texts.ensures.refusal
    (λ x y p q. shows_difference x y c.include_texts.result (c.include_texts.ensures.found x y p q))

pub returns-clause-inclusion : goal.returns-clause-inclusion
returns-clause-inclusion c = λ x y p q. inclusion_decides x y c.include_texts.result (c.include_texts.ensures.found x y p q)

pub returns-clause-counted : goal.returns-clause-counted
returns-clause-counted c = λ x y p q. inclusion_counts x y c.include_texts.result (c.include_texts.ensures.found x y p q)

pub returns-clause-refused : goal.returns-clause-refused
returns-clause-refused c = c.include_texts.ensures.refusal
