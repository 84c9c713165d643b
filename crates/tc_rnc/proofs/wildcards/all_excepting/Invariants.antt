use Rattle.std.proofs.Common.{length}
use Rattle.tc_rnc.specs.Scopes.{scope_of}
use Rattle.tc_rnc.specs.Views as seen
use Rattle.tc_rnc.specs.Wildcards.{ExceptsAt}
use Rattle.tc_rnc.proofs.wildcards.all_excepting.Given as goal

-- the wildcards so far
abbrev pub invariant-loop-wildcard : goal.invariant-loop-wildcard
invariant-loop-wildcard l = ExceptsAt (scope_of l.scope) (seen.tokens l.tokens) l.all.items (seen.tokens l.rest)

abbrev pub decreases-loop-wildcard : goal.decreases-loop-wildcard
decreases-loop-wildcard l = length (seen.tokens l.rest)
