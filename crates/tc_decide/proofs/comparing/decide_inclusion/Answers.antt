use Rattle.std.proofs.Common.{subst}
use Rattle.tc_decide.specs.Comparing.{forward}
use Rattle.tc_decide.specs.ComparingSeen.{FindsInclusion}
use Rattle.tc_decide.specs.declared.limits.TheConstants.{MOST_ROWS}
use Rattle.tc_decide.proofs.Compared.{tells_included, tells_not, tells_none, inclusion_many}
use Rattle.tc_decide.proofs.TextsRead.{err_whole}
use Rattle.tc_decide.proofs.comparing.decide_inclusion.Goals as goal
use Rattle.tc_incl.specs.Answers.{IsAnswer}

pub returns-in_err-cover : goal.returns-in_err-cover
returns-in_err-cover c = λ x y is.
    err_whole c.from_residual.result _ (FindsInclusion x y) c.from_residual.ensures.1 (inclusion_many x y is.within_limits c.in_err-cover.field-0.0 (c.in_err-cover.ensures.cause x y is))

pub returns-in-Included : goal.returns-in-Included
returns-in-Included c = λ x y is. tells_included x y is.within_limits _ _ (subst (IsAnswer (forward x y) MOST_ROWS) c.in-Included.is (c.in_ok-cover.ensures.answer x y is))

pub returns-in-Not : goal.returns-in-Not
returns-in-Not c = λ x y is. tells_not x y is.within_limits _ (subst (IsAnswer (forward x y) MOST_ROWS) c.in-Not.is (c.in_ok-cover.ensures.answer x y is))

pub returns-in-NotLarge : goal.returns-in-NotLarge
returns-in-NotLarge c = λ x y is. tells_none x y is.within_limits (subst (IsAnswer (forward x y) MOST_ROWS) c.in-NotLarge.is (c.in_ok-cover.ensures.answer x y is))
