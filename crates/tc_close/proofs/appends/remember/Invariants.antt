use Rattle.tc_close.specs.NumberTables.{ComesOn}
use Rattle.tc_close.proofs.appends.remember.Given as goal

abbrev pub invariant-loop-class : goal.invariant-loop-class
invariant-loop-class l = ComesOn l.numbers.0 l.numbers.1 l.numbers.2 l.fn.made.places.items l.made.places.items
