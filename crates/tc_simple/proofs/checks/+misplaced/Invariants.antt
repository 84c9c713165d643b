use Rattle.std.proofs.Common.{◌≡◌, drop}
use Rattle.tc_model.specs.SimplifiesFaults.{first_place, misplaced_among}
use Rattle.tc_rnc.specs.Views as see
use Rattle.tc_simple.proofs.checks.+misplaced.Given as goal

abbrev pub invariant-misplaced_among-loop-class : goal.invariant-misplaced_among-loop-class
invariant-misplaced_among-loop-class l = first_place (misplaced_among l.any l.namespaces (see.classes l.classes)) ≡ first_place (misplaced_among l.any l.namespaces (see.classes (drop l.class-index l.classes)))
