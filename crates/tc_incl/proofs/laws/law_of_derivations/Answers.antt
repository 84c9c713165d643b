use Rattle.tc_incl.proofs.Derived.{derivations_are_exact}
use Rattle.tc_incl.proofs.laws.law_of_derivations.Goals as goal

pub returns : goal.returns
returns c = derivations_are_exact
