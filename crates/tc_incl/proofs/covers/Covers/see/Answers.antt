use Rattle.std.proofs.Common.{subst}
use Rattle.tc_sets.proofs.Bits.{one_form}
use Rattle.tc_incl.specs.Covers.{Known}
use Rattle.tc_incl.proofs.Holding.{known_of}
use Rattle.tc_incl.proofs.covers.Covers.see.Goals as goal

pub returns : goal.returns
returns g c = record {
  known = subst (Known g.K.Over.is_of) c.self.view_is (known_of one_form c.self.inside.both g.K.Over.is_of c.self.inside.hedges.keys c.self.inside.trees.keys c.self.invariant.0);
}
