use Rattle.tc_close.proofs.OnceLaws.{once_on}
use Rattle.tc_close.proofs.once.OnceRows.wrap_new.Goals as goal

pub invariant_of-self : goal.invariant_of-self
invariant_of-self g c = once_on g.K.Over.is_of c.self.inside.alike.firsts.items c.self.inside.free c.self.inside.wraps c.self.inside.rows c.wrap.new.self c.wrap.ensures.grows c.self.invariant
