use Rattle.std.proofs.Common.{length}
use Rattle.tc_tags.specs.Chained.{chain_of}
use Rattle.tc_tags.specs.Listed.{parts, has_parts}
use Rattle.tc_tags.proofs.ChainLaws.{Walk}
use Rattle.tc_tags.proofs.attributes.Sort.occurs.Given as goal

-- a walk along the chain of the name
abbrev pub invariant-loop-at : goal.invariant-loop-at
invariant-loop-at l =
    Walk (λ b. has_parts (l.name.0.now, l.name.1.now) (parts l.self l.tag l.names.bytes.items l.scopes.declared.items b)) l.seen l.chains.chains (chain_of l.name.0.now l.name.1.now) (length l.seen) l.at

abbrev pub decreases-loop-at : goal.decreases-loop-at
decreases-loop-at l = l.at
