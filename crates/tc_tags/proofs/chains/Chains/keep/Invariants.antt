use Rattle.std.proofs.Common.{◌≡◌, length, take}
use Rattle.tc_tags.proofs.chains.Chains.keep.Given as goal

abbrev pub invariant-loop-self : goal.invariant-loop-self
invariant-loop-self l = record {
  most : l.self.most ≡ l.fn.self.most;
  chains : take l.count l.self.chains ≡ take l.count l.fn.self.chains;
}

abbrev pub decreases-loop-self : goal.decreases-loop-self
decreases-loop-self l = length l.self.chains
