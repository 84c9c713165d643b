use Rattle.std.proofs.Common.{subst}
use Rattle.tc_mat.specs.Held.{Held}
use Rattle.tc_beh.specs.Remembered.{IsProduct}
use Rattle.tc_beh.proofs.Passing.{if_some_map}
use Rattle.tc_beh.proofs.held_sets.HeldSets.product.Goals as goal

pub returns : goal.returns
returns c = if_some_map c.get.result _ _ (λ k known. subst (λ (h : Held). IsProduct h c.args.first c.args.second k) c.self.view_is (known c.self.inside.pool c.self.invariant.0)) c.get.ensures
