use Rattle.std.proofs.Common.{drop}
use Rattle.tc_beh.specs.AlikeSymbols.{asked_tests, seen}
use Rattle.tc_beh.proofs.AskedTests.{AreSoFar}
use Rattle.tc_beh.proofs.node_tests.each_once.Given as goal

abbrev pub invariant-loop-test : goal.invariant-loop-test
invariant-loop-test l = AreSoFar (seen l.tests) (seen (drop l.test-index l.tests)) (asked_tests l.found.keys)
