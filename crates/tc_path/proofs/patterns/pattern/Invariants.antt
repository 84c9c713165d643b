use Rattle.std.proofs.Common.{length, map}
use Rattle.tc_path.specs.Scopes.{in_scope}
use Rattle.tc_path.specs.Views.{alternative, tokens_of}
use Rattle.tc_path.proofs.PatternLoops.{PatternsSoFar}
use Rattle.tc_path.proofs.patterns.pattern.Given as goal

abbrev pub invariant-loop-found : goal.invariant-loop-found
invariant-loop-found l = PatternsSoFar (in_scope l.scope) (tokens_of l.tokens) (map alternative l.found.items) (tokens_of l.rest)

abbrev pub decreases-loop-found : goal.decreases-loop-found
decreases-loop-found l = length l.rest
