use Rattle.std.proofs.Common.{◌∙◌, subst}
use Rattle.tc_beh.proofs.Passing.{if_some_map}
use Rattle.tc_settle.specs.Held.{IsWrapAt}
use Rattle.tc_close.specs.RowState.{RowState, held_of}
use Rattle.tc_close.proofs.once.OnceRows.known_wrap.Goals as goal

pub returns-clause-told : goal.returns-clause-told
returns-clause-told g c =
    let of = g.K.Over.is_of in
    if_some_map c.get.result _ _
    (λ u has. (c.like-like.ensures.like u).0 (subst (λ (s : RowState). IsWrapAt (held_of of s) c.args.symbol c.like-like.result u) (c.self.view_is ∙ c.like-like.ensures.same) (c.self.invariant.known c.args.symbol c.like-like.result u has).2))
    c.get.ensures
