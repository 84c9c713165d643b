use Rattle.tc_beh.specs.Named.{AreNamed}
use Rattle.tc_beh.proofs.symbols.add_sheet.Given as goal

abbrev pub invariant-loop-rule : goal.invariant-loop-rule
invariant-loop-rule l = AreNamed l.alphabet l.names.items

abbrev pub invariant-loop-body : goal.invariant-loop-body
invariant-loop-body l = AreNamed l.alphabet l.names.items
