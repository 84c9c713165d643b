use Rattle.std.proofs.Common.{◌↔◌, subst}
use Rattle.tc_settle.specs.Held.{IsWrapAt}
use Rattle.tc_close.specs.RowState.{RowState, held_of}
use Rattle.tc_close.proofs.OnceLaws.{wrap_agree}
use Rattle.tc_close.proofs.once.OnceRows.like.Goals as goal

pub returns-then-is_free-clause-like : goal.returns-then-is_free-clause-like
returns-then-is_free-clause-like g c = λ u.
    let of = g.K.Over.is_of in
    subst (λ (s : RowState). IsWrapAt (held_of of s) c.args.symbol c.core.result u ↔ IsWrapAt (held_of of s) c.args.symbol c.args.hedge u) c.self.view_is
    (wrap_agree of c.self.inside.rows c.args.symbol c.core.result c.args.hedge u (λ x o. c.is_free.ensures c.if-is_free.true x (c.self.invariant.free x o)) c.core.ensures.agree)
