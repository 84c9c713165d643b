use Rattle.std.proofs.Common.{◌≡◌, None, drop}
use Rattle.tc_model.specs.SimplifiesFaults.{first_answer, misplaced_in}
use Rattle.tc_model.specs.SimplifiesParts.{nodes_in_all}
use Rattle.tc_rnc.specs.Views as see
use Rattle.tc_simple.proofs.checks.+excepts.Given as goal

abbrev pub invariant-bad_except_among-loop-pattern : goal.invariant-bad_except_among-loop-pattern
invariant-bad_except_among-loop-pattern l = first_answer misplaced_in (nodes_in_all (see.patterns l.patterns)) None ≡ first_answer misplaced_in (nodes_in_all (see.patterns (drop l.pattern-index l.patterns))) None
