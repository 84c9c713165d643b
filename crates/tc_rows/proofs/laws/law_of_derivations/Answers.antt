use Rattle.tc_rows.proofs.Derived.{derivations_are_exact}
use Rattle.tc_rows.proofs.laws.law_of_derivations.Goals as goal

pub returns : goal.returns
returns c = derivations_are_exact
