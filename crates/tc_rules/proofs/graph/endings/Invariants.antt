use Rattle.std.proofs.Common.{◌≡◌, ◌++◌, drop}
use Rattle.tc_rules.specs.Rows as seen
use Rattle.tc_rules.proofs.graph.endings.Given as goal

abbrev pub invariant-loop-state : goal.invariant-loop-state
invariant-loop-state l = seen.endings_of (seen.states l.ends l.states.keys) ≡ seen.lists l.endings.items ++ seen.endings_of (seen.states l.ends (drop l.state-index l.states.keys))
