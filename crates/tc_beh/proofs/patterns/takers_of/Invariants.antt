use Rattle.tc_beh.specs.Around.{AreTakers}
use Rattle.tc_beh.proofs.patterns.takers_of.Given as goal

abbrev pub invariant-loop-before : goal.invariant-loop-before
invariant-loop-before l = AreTakers l.input l.sym.0 l.before l.takers.items
