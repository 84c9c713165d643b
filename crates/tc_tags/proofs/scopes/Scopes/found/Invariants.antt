use Rattle.std.proofs.Common.{[], length}
use Rattle.tc_tags.specs.Chained.{chain_of}
use Rattle.tc_tags.specs.Scoped.{declares}
use Rattle.tc_tags.proofs.ChainLaws.{Walk}
use Rattle.tc_tags.proofs.scopes.Scopes.found.Given as goal

-- a walk along the chain of the prefix
abbrev pub invariant-loop-at : goal.invariant-loop-at
invariant-loop-at l = Walk (declares l.names.bytes.items l.prefix) l.self.declared.items l.self.chains.chains (chain_of l.prefix []) (length l.self.declared.items) l.at

abbrev pub decreases-loop-at : goal.decreases-loop-at
decreases-loop-at l = l.at
