use Rattle.std.proofs.Common.{length}
use Rattle.tc_rnc.specs.Schemas.{Declares}
use Rattle.tc_rnc.specs.Scopes.{scope_of}
use Rattle.tc_rnc.specs.Views as seen
use Rattle.tc_rnc.proofs.declarations.declarations.Given as goal

abbrev pub invariant-loop-end : goal.invariant-loop-end
invariant-loop-end l = Declares (seen.end l.end) (scope_of l.fn.scope) (scope_of l.scope) (seen.tokens l.tokens) (seen.tokens l.rest)

abbrev pub decreases-loop-end : goal.decreases-loop-end
decreases-loop-end l = length (seen.tokens l.rest)
