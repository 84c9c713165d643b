use Rattle.std.proofs.Common.{◌<◌, ◌∙◌, length, get_or, [], sym, subst}
use Rattle.tc_close.specs.Kinds.{AreAlike}
use Rattle.tc_close.specs.LookFree.{AgreeButLooks}
use Rattle.tc_close.specs.RowState.{RowState, hedge_at}
use Rattle.tc_close.proofs.FreeWraps.{core_agrees}
use Rattle.tc_close.proofs.KindLaws.{learned_core}
use Rattle.tc_close.proofs.held.HeldRows.core.Goals as goal

pub core-requires-clause-hedge : goal.core-requires-clause-hedge
core-requires-clause-hedge g c = subst (λ (s : RowState). c.args.hedge < length s.hedges) (sym c.self.view_is) c.requires

pub core-requires-clause-fit : goal.core-requires-clause-fit
core-requires-clause-fit g c = c.self.invariant.1.kinds.fit.of_cores

pub invariant_of-self : goal.invariant_of-self
invariant_of-self g c = (c.self.invariant.0, record { appends = c.self.invariant.1.appends; kinds = learned_core c.self.invariant.1.kinds c.core.new.self c.core.ensures.learns })

pub returns-clause-low : goal.returns-clause-low
returns-clause-low g c = subst (λ (s : RowState). c.core.result < length s.hedges) c.self.view_is c.core.ensures.core.like.0

pub returns-clause-agree : goal.returns-clause-agree
returns-clause-agree g c = λ x o.
    let hedges = c.self.inside.hedges in
    let is = c.core.ensures.core in
    let flags = c.core.ensures.learns.core_stays ∙ c.self.invariant.1.kinds.core x o in
    subst (λ (s : RowState). AgreeButLooks (hedge_at x s c.core.result) (hedge_at x s c.args.hedge)) c.self.view_is
    (core_agrees x c.self.inside.rows.outputs.matrices (get_or hedges c.core.result []) (get_or hedges c.args.hedge [])
    (subst (λ n. AreAlike n (get_or hedges c.core.result []) (get_or hedges c.args.hedge [])) flags is.like.1) is.bears)
