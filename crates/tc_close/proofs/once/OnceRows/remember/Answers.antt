use Rattle.std.proofs.Common.{◌<◌, length, sym, subst}
use Rattle.tc_settle.specs.Held.{IsWrapAt}
use Rattle.tc_close.specs.RowState.{RowState, held_of}
use Rattle.tc_close.proofs.OnceLaws.{once_more}
use Rattle.tc_close.proofs.once.OnceRows.remember.Goals as goal

pub invariant_of-self : goal.invariant_of-self
invariant_of-self g c =
    let of = g.K.Over.is_of in
    once_more of c.self.inside.alike.firsts.items c.self.inside.free c.self.inside.wraps c.self.inside.rows c.self.invariant c.put.new.self c.args.symbol c.args.hedge c.args.tree c.put.ensures
    (subst (λ (s : RowState). c.args.symbol < s.symbols) (sym c.self.view_is) c.requires.symbol) (subst (λ (s : RowState). c.args.hedge < length s.hedges) (sym c.self.view_is) c.requires.hedge)
    (subst (λ (s : RowState). IsWrapAt (held_of of s) c.args.symbol c.args.hedge c.args.tree) (sym c.self.view_is) c.requires.told)
