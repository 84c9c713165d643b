use Rattle.tc_incl.specs.Covers.{AreOf}
use Rattle.tc_incl.proofs.inclusion.included.Given as goal

abbrev pub ghosts-included_over : goal.ghosts-included_over
ghosts-included_over a = record { is_of = λ x. AreOf a.first.now a.second.now a.alphabet.now x }
