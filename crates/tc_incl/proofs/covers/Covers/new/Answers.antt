use Rattle.tc_incl.proofs.HandedOn.{no_value}
use Rattle.tc_incl.proofs.covers.Covers.new.Goals as goal

pub returns-in_err-both-clause-hedges : goal.returns-in_err-both-clause-hedges
returns-in_err-both-clause-hedges g c = no_value c.from_residual.result _ _ c.from_residual.ensures.1

pub returns-in_err-both-clause-trees : goal.returns-in_err-both-clause-trees
returns-in_err-both-clause-trees g c = no_value c.from_residual.result _ _ c.from_residual.ensures.1
