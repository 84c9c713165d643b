use Rattle.std.proofs.Common.{◌≡◌, ◌++◌, drop}
use Rattle.tc_model.specs.Views as see
use Rattle.tc_model.specs.Sheets as s
use Rattle.tc_rules.specs.Usages.{usages_in, usages_in_branches}
use Rattle.tc_rules.specs.Views.{usages}
use Rattle.tc_rules.proofs.walk.+bodies.Given as goal

abbrev pub invariant-usages_in_body-loop-instruction : goal.invariant-usages_in_body-loop-instruction
invariant-usages_in_body-loop-instruction l =
    usages l.found.items ++ usages_in (see.body (drop l.instruction-index l.body))
    ≡ usages l.initial.found.items ++ usages_in (see.body l.body)

abbrev pub invariant-usages_in_branches-loop-branch : goal.invariant-usages_in_branches-loop-branch
invariant-usages_in_branches-loop-branch l =
    (rest : s.Branches)
    → usages l.found.items ++ usages_in_branches (see.branches (drop l.branch-index l.branches) rest)
    ≡ usages l.initial.found.items ++ usages_in_branches (see.branches l.branches rest)
