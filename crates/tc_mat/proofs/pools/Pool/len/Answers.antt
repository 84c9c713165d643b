use Rattle.std.proofs.Common.{subst}
use Rattle.tc_mat.specs.Held.{AreDifferent}
use Rattle.tc_mat.proofs.Keys.{different_sets}
use Rattle.tc_mat.proofs.pools.Pool.len.Goals as goal

pub returns-clause-different : goal.returns-clause-different
returns-clause-different c =
    subst AreDifferent c.self.view_is (different_sets c.self.inside.n c.self.inside.keys.keys c.len.ensures.unique c.self.invariant.1)
