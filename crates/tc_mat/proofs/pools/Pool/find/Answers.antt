use Rattle.std.proofs.Common.{◌≡◌, subst, rules, slice_get, Some}
use Rattle.tc_mat.specs.Held.{Held, IsHeld}
use Rattle.tc_mat.proofs.Keys.{found_at, not_held}
use Rattle.tc_mat.proofs.pools.Pool.find.Goals as goal

pub returns-in-Some : goal.returns-in-Some
returns-in-Some c =
    subst (λ (p : Held). slice_get p.matrices c.in-Some.i ≡ Some c.args.mat.now) c.self.view_is
    (found_at c.args.mat.now c.self.inside.keys.keys c.in-Some.i (search rules))

pub returns-in-None : goal.returns-in-None
returns-in-None c =
    subst (λ (p : Held). IsHeld p c.args.mat.now → ⊥) c.self.view_is
    (not_held c.args.mat.now c.self.inside.keys.keys (search rules))
