use Rattle.std.proofs.Common.{◌≡◌, ◌++◌, drop}
use Rattle.tc_alpha.specs.Views.{seen}
use Rattle.tc_model.specs.Views as see
use Rattle.tc_model.specs.Sheets as s
use Rattle.tc_model.specs.Symbols.{in_body, in_branches, mentions_of_name, mentions_of_test}
use Rattle.tc_alpha.proofs.mentions.+bodies.Given as goal

abbrev pub invariant-mention_body-loop-instruction : goal.invariant-mention_body-loop-instruction
invariant-mention_body-loop-instruction l =
    seen l.found.items ++ in_body mentions_of_test mentions_of_name (see.body (drop l.instruction-index l.body))
    ≡ seen l.initial.found.items ++ in_body mentions_of_test mentions_of_name (see.body l.body)

abbrev pub invariant-mention_branches-loop-branch : goal.invariant-mention_branches-loop-branch
invariant-mention_branches-loop-branch l =
    (rest : s.Branches)
    → seen l.found.items ++ in_branches mentions_of_test mentions_of_name (see.branches (drop l.branch-index l.branches) rest)
    ≡ seen l.initial.found.items ++ in_branches mentions_of_test mentions_of_name (see.branches l.branches rest)
