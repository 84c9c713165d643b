use Rattle.tc_beh.proofs.guesses.Guesses.of.Given as goal

abbrev pub invariant-loop-number : goal.invariant-loop-number
invariant-loop-number l = Unit {0}
