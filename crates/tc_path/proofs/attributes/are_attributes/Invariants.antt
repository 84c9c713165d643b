use Rattle.std.proofs.Common.{length}
use Rattle.tc_path.specs.Scopes.{in_scope}
use Rattle.tc_path.specs.Views.{tokens_of}
use Rattle.tc_path.proofs.AttributeLoops.{AttributesRead}
use Rattle.tc_path.proofs.attributes.are_attributes.Given as goal

abbrev pub invariant-loop-next : goal.invariant-loop-next
invariant-loop-next l = AttributesRead (in_scope l.scope) (tokens_of l.tokens) l.all (tokens_of l.rest)

abbrev pub decreases-loop-next : goal.decreases-loop-next
decreases-loop-next l = length l.rest
