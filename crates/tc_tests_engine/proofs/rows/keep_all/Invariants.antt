use Rattle.tc_tests_engine.specs.Kept.{AreKept}
use Rattle.tc_tests_engine.proofs.rows.keep_all.Given as goal

abbrev pub invariant-loop-step : goal.invariant-loop-step
invariant-loop-step l = AreKept l.rows l.hedges.items l.trees.items
