use Rattle.std.proofs.Common.{subst}
use Rattle.tc_rows.specs.Counts.{AreDifferent}
use Rattle.tc_close.proofs.Keys.{different}
use Rattle.tc_close.proofs.lists.Lists.count.Goals as goal

pub returns-clause-different : goal.returns-clause-different
returns-clause-different c = subst AreDifferent c.self.view_is (different (λ v. v.items) c.self.inside.keys.keys c.len.ensures.unique)
