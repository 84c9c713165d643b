use Rattle.tc_tests_engine.specs.Kept.{AreKept}
use Rattle.tc_tests_engine.proofs.random_rows.tell_of_steps.Given as goal

abbrev pub invariant-loop : goal.invariant-loop
invariant-loop l = AreKept l.rows l.hedges.items l.trees.items
