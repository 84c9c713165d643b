use Rattle.std.proofs.Common.{subst}
use Rattle.tc_sets.proofs.Bits.{one_form}
use Rattle.tc_incl.specs.Covers.{Known}
use Rattle.tc_incl.proofs.Holding.{known_of}
use Rattle.tc_incl.proofs.Linked.{are_exact}
use Rattle.tc_incl.proofs.covers.CoversNumberedRows.symbols.Goals as goal

pub returns-clause-exact : goal.returns-clause-exact
returns-clause-exact g c =
    are_exact g.K.Over.is_of c.args.self.now (subst (Known g.K.Over.is_of) c.self.view_is (known_of one_form c.self.inside.both g.K.Over.is_of c.self.inside.hedges.keys c.self.inside.trees.keys c.self.invariant.0))
