use Rattle.std.proofs.Common.{subst, inr}
use Rattle.tc_decide.specs.Comparing.{backward}
use Rattle.tc_decide.specs.declared.limits.TheConstants.{MOST_ROWS}
use Rattle.tc_decide.proofs.Compared.{never, tells_equal, tells_no_one, tells_second_beyond}
use Rattle.tc_decide.proofs.comparing.tell_second.Goals as goal
use Rattle.tc_incl.specs.Answers.{IsAnswer}

pub returns-in-Included : goal.returns-in-Included
returns-in-Included c = λ x y trees hedges w into told. tells_equal x y w trees hedges _ _ into (subst (IsAnswer (backward x y) MOST_ROWS) c.in-Included.is told)

pub returns-in-Not : goal.returns-in-Not
returns-in-Not c = λ x y trees hedges w into told. tells_second_beyond x y w _ into.keeps (never x y w x y into.included) (subst (IsAnswer (backward x y) MOST_ROWS) c.in-Not.is told)

pub returns-in-NotLarge : goal.returns-in-NotLarge
returns-in-NotLarge c = λ x y trees hedges w into told.
    let far = subst (IsAnswer (backward x y) MOST_ROWS) c.in-NotLarge.is told in
    tells_no_one x y w into.keeps far.keeps far.some.0 (inr far.some.1) (never x y w x y into.included) far.far
