use Rattle.std.proofs.Common.{◌*◌, ◌+◌, length}
use Rattle.tc_rnc.specs.Views as seen
use Rattle.tc_rnc.proofs.PatternLaws.{BalancedSoFar}
use Rattle.tc_rnc.proofs.patterns.+balanced.Given as goal

abbrev pub decreases-balanced : goal.decreases-balanced
decreases-balanced l = 2 * l.deepest + 1

abbrev pub decreases-balanced_part : goal.decreases-balanced_part
decreases-balanced_part l = 2 * l.deepest

abbrev pub invariant-balanced-loop-after : goal.invariant-balanced-loop-after
invariant-balanced-loop-after l = BalancedSoFar (seen.end l.end) l.deepest (seen.tokens l.tokens) (seen.tokens l.rest)

abbrev pub decreases-balanced-loop-after : goal.decreases-balanced-loop-after
decreases-balanced-loop-after l = length (seen.tokens l.rest)
