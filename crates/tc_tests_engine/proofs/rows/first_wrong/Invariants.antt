use Rattle.tc_tests_engine.specs.Kept.{AreKept}
use Rattle.tc_tests_engine.proofs.rows.first_wrong.Given as goal

abbrev pub invariant-loop-name : goal.invariant-loop-name
invariant-loop-name l = AreKept l.rows l.hedges.items l.trees.items
