use Rattle.std.proofs.Common.{◌<◌, length, subst, sym}
use Rattle.tc_settle.specs.Held.{IsAppendAt}
use Rattle.tc_close.specs.HeldRows.{state_of}
use Rattle.tc_close.specs.RowState.{RowState, held_of}
use Rattle.tc_close.proofs.AppendLaws.{told_more}
use Rattle.tc_close.proofs.held.HeldRows.learn_append.Goals as goal

pub learn-requires-clause-kept : goal.learn-requires-clause-kept
learn-requires-clause-kept g c = c.self.invariant.1.appends.kept

pub learn-requires-clause-hedge : goal.learn-requires-clause-hedge
learn-requires-clause-hedge g c = subst (λ (s : RowState). c.args.hedge < length s.hedges) (sym c.self.view_is) c.requires.hedge

pub learn-requires-clause-tree : goal.learn-requires-clause-tree
learn-requires-clause-tree g c = subst (λ (s : RowState). c.args.tree < length s.trees) (sym c.self.view_is) c.requires.tree

pub learn-requires-clause-made : goal.learn-requires-clause-made
learn-requires-clause-made g c = subst (λ (s : RowState). c.args.made < length s.hedges) (sym c.self.view_is) c.requires.told.0

pub invariant_of-self : goal.invariant_of-self
invariant_of-self g c =
    let s = state_of c.self.inside.rows c.self.inside.hedges c.self.inside.trees c.self.inside.is_whole in
    let told = subst (λ r. IsAppendAt (held_of g.K.Over.is_of r) c.args.hedge c.args.tree c.args.made) (sym c.self.view_is) c.requires.told in
    (c.self.invariant.0, record { kinds = c.self.invariant.1.kinds; appends = told_more s c.self.invariant.1.appends c.learn.new.self c.args.hedge c.args.tree c.args.made c.learn.ensures.kept c.learn.ensures.shape c.learn.ensures.comes told.1 })
