use Rattle.std.proofs.Common.{subst, rules}
use Rattle.tc_simple.specs.Refused.{Refuses}
use Rattle.tc_read.specs.Schemas.{passes_pattern, passes_depth, passes_elements}
use Rattle.tc_read.proofs.schemas.of_fault.Goals as goal

pub returns-in-TooManyNodes-clause-ok : goal.returns-in-TooManyNodes-clause-ok
returns-in-TooManyNodes-clause-ok c = λ bytes s spelled f.
    let large = subst (Refuses s) c.in-TooManyNodes.is f in (large.0, (s, spelled, large.1), passes_pattern large.2)

pub returns-in-TooNested-clause-ok : goal.returns-in-TooNested-clause-ok
returns-in-TooNested-clause-ok c = λ bytes s spelled f.
    let large = subst (Refuses s) c.in-TooNested.is f in (large.0, (s, spelled, large.1), passes_depth large.2)

pub returns-in-TooManyElements-clause-ok : goal.returns-in-TooManyElements-clause-ok
returns-in-TooManyElements-clause-ok c = λ bytes s spelled f.
    let large = subst (Refuses s) c.in-TooManyElements.is f in (large.0, (s, spelled, large.1), passes_elements large.2)

pub returns-in-Loop-clause-no : goal.returns-in-Loop-clause-no
returns-in-Loop-clause-no c = search rules

pub returns-in-Twice-clause-no : goal.returns-in-Twice-clause-no
returns-in-Twice-clause-no c = λ bytes s spelled f. (s, spelled, subst (Refuses s) c.in-Twice.is f)

pub returns-in-Undefined-clause-no : goal.returns-in-Undefined-clause-no
returns-in-Undefined-clause-no c = λ bytes s spelled f. (s, spelled, subst (Refuses s) c.in-Undefined.is f)

pub returns-in-BadExcept-clause-no : goal.returns-in-BadExcept-clause-no
returns-in-BadExcept-clause-no c = λ bytes s spelled f. (s, spelled, subst (Refuses s) c.in-BadExcept.is f)

pub returns-in-BadStart-clause-no : goal.returns-in-BadStart-clause-no
returns-in-BadStart-clause-no c = λ bytes s spelled f. (s, spelled, subst (Refuses s) c.in-BadStart.is f)

pub returns-in-Twice-clause-ok : goal.returns-in-Twice-clause-ok
returns-in-Twice-clause-ok c = tt

pub returns-in-Undefined-clause-ok : goal.returns-in-Undefined-clause-ok
returns-in-Undefined-clause-ok c = tt

pub returns-in-Loop-clause-ok : goal.returns-in-Loop-clause-ok
returns-in-Loop-clause-ok c = tt

pub returns-in-BadExcept-clause-ok : goal.returns-in-BadExcept-clause-ok
returns-in-BadExcept-clause-ok c = tt

pub returns-in-BadStart-clause-ok : goal.returns-in-BadStart-clause-ok
returns-in-BadStart-clause-ok c = tt

pub returns-in-NoMemory-clause-ok : goal.returns-in-NoMemory-clause-ok
returns-in-NoMemory-clause-ok c = tt

pub returns-in-TooManyNodes-clause-no : goal.returns-in-TooManyNodes-clause-no
returns-in-TooManyNodes-clause-no c = tt

pub returns-in-TooNested-clause-no : goal.returns-in-TooNested-clause-no
returns-in-TooNested-clause-no c = tt

pub returns-in-TooManyElements-clause-no : goal.returns-in-TooManyElements-clause-no
returns-in-TooManyElements-clause-no c = tt

pub returns-in-NoMemory-clause-no : goal.returns-in-NoMemory-clause-no
returns-in-NoMemory-clause-no c = λ bytes s spelled f. tt
