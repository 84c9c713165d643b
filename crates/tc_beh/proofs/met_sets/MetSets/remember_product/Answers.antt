use Rattle.std.proofs.Common.{subst, sym}
use Rattle.tc_beh.specs.Opening.{Met}
use Rattle.tc_beh.specs.Remembered.{IsProduct}
use Rattle.tc_beh.proofs.met_sets.MetSets.remember_product.Goals as goal

pub invariant_of-self : goal.invariant_of-self
invariant_of-self c =
    let at = c.in-Some-Some-Some in
    let is = subst (λ (v : Met). IsProduct v.held at.first at.second at.product) (sym c.self.view_is) (c.requires at.first at.second at.product at.is-0 at.is-1 at.is-2) in
    (c.self.invariant.0, c.self.invariant.1, c.self.invariant.2, c.self.invariant.3, c.keep.ensures c.self.inside.sets c.self.invariant.4 is)
