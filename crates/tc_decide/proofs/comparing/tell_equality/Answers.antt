use Rattle.std.proofs.Common.{subst, inl}
use Rattle.tc_decide.specs.Comparing.{backward, forward}
use Rattle.tc_decide.specs.ComparingSeen.{HasFewNodes}
use Rattle.tc_decide.specs.declared.limits.TheConstants.{MOST_ROWS}
use Rattle.tc_decide.proofs.Compared.{never, tells_no_one, tells_second_beyond}
use Rattle.tc_decide.proofs.comparing.tell_equality.Goals as goal
use Rattle.tc_incl.specs.Answers.{IsAnswer}

pub returns-in-Included : goal.returns-in-Included
returns-in-Included c = λ x y w forth back. c.tell_second.ensures x y _ _ w (subst (IsAnswer (forward x y) MOST_ROWS) c.in-Included.is forth) back

pub tell_first-requires-clause-first : goal.tell_first-requires-clause-first
tell_first-requires-clause-first c = subst HasFewNodes c.in-Not.is c.requires.forth

pub returns-in-Not : goal.returns-in-Not
returns-in-Not c = λ x y w forth back. c.tell_first.ensures x y w (subst (IsAnswer (forward x y) MOST_ROWS) c.in-Not.is forth) back

pub returns-in-Not-back : goal.returns-in-Not-back
returns-in-Not-back c = λ x y w forth back.
    let far = subst (IsAnswer (forward x y) MOST_ROWS) c.in-NotLarge.is forth in
    let least = subst (IsAnswer (backward x y) MOST_ROWS) c.in-Not-back.is back in
    tells_second_beyond x y w _ far.keeps far.far least

pub returns-in-Included-back : goal.returns-in-Included-back
returns-in-Included-back c = λ x y w forth back.
    let far = subst (IsAnswer (forward x y) MOST_ROWS) c.in-NotLarge.is forth in
    let into = subst (IsAnswer (backward x y) MOST_ROWS) c.in-Included-back.is back in
    tells_no_one x y w far.keeps into.keeps far.some.0 (inl far.some.1) far.far (never x y w y x into.included)

pub returns-in-NotLarge-back : goal.returns-in-NotLarge-back
returns-in-NotLarge-back c = λ x y w forth back.
    let far = subst (IsAnswer (forward x y) MOST_ROWS) c.in-NotLarge.is forth in
    let more = subst (IsAnswer (backward x y) MOST_ROWS) c.in-NotLarge-back.is back in
    tells_no_one x y w far.keeps more.keeps far.some.0 (inl far.some.1) far.far more.far
