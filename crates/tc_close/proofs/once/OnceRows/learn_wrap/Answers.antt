use Rattle.std.proofs.Common.{sym, subst}
use Rattle.tc_settle.specs.Held.{IsWrapAt}
use Rattle.tc_close.specs.RowState.{RowState, held_of}
use Rattle.tc_close.proofs.once.OnceRows.learn_wrap.Goals as goal

pub remember-requires-clause-told : goal.remember-requires-clause-told
remember-requires-clause-told g c =
    let of = g.K.Over.is_of in
    subst (λ (s : RowState). IsWrapAt (held_of of s) c.args.symbol c.like-like.result c.args.tree) (sym c.like-like.ensures.same)
    ((c.like-like.ensures.like c.args.tree).1 (subst (λ (s : RowState). IsWrapAt (held_of of s) c.args.symbol c.args.hedge c.args.tree) (sym c.find_free.ensures) c.requires.told))
