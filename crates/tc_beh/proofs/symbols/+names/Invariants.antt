use Rattle.tc_beh.specs.Named.{AreNamed}
use Rattle.tc_beh.proofs.symbols.+names.Given as goal

abbrev pub invariant-add_body-loop-instruction : goal.invariant-add_body-loop-instruction
invariant-add_body-loop-instruction l = AreNamed l.alphabet l.names.items

abbrev pub invariant-add_branches-loop-branch : goal.invariant-add_branches-loop-branch
invariant-add_branches-loop-branch l = AreNamed l.alphabet l.names.items
