use Rattle.std.proofs.Common.{subst}
use Rattle.tc_decide.specs.Comparing.{backward}
use Rattle.tc_decide.specs.ComparingSeen.{HasFewNodes}
use Rattle.tc_decide.specs.declared.limits.TheConstants.{MOST_ROWS}
use Rattle.tc_decide.proofs.Compared.{never, one_only, tells_first_beyond}
use Rattle.tc_decide.proofs.comparing.tell_first.Goals as goal
use Rattle.tc_incl.specs.Answers.{IsAnswer}

pub smaller_of-requires-clause-second : goal.smaller_of-requires-clause-second
smaller_of-requires-clause-second c = subst HasFewNodes c.in-Not.is c.requires.back

pub returns-in-Not : goal.returns-in-Not
returns-in-Not c = λ x y w first told. one_only x y c.smaller_of.result (c.smaller_of.ensures x y w first (subst (IsAnswer (backward x y) MOST_ROWS) c.in-Not.is told))

pub returns-in-Included : goal.returns-in-Included
returns-in-Included c = λ x y w first told.
    let into = subst (IsAnswer (backward x y) MOST_ROWS) c.in-Included.is told in
    tells_first_beyond x y w _ first into.keeps (never x y w y x into.included)

pub returns-in-NotLarge : goal.returns-in-NotLarge
returns-in-NotLarge c = λ x y w first told.
    let far = subst (IsAnswer (backward x y) MOST_ROWS) c.in-NotLarge.is told in
    tells_first_beyond x y w _ first far.keeps far.far
