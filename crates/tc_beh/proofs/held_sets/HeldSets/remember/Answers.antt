use Rattle.std.proofs.Common.{subst, sym}
use Rattle.tc_mat.specs.Held.{Held}
use Rattle.tc_beh.specs.Remembered.{IsProduct}
use Rattle.tc_beh.proofs.held_sets.HeldSets.remember.Goals as goal

pub invariant_of-self : goal.invariant_of-self
invariant_of-self c = (c.keep.ensures c.self.inside.pool c.self.invariant.0 (subst (λ (h : Held). IsProduct h c.args.first c.args.second c.args.product) (sym c.self.view_is) c.requires), c.self.invariant.1, c.self.invariant.2, c.self.invariant.3)
