use Rattle.std.proofs.Common.{◌<◌, length, subst, sym}
use Rattle.tc_beh.proofs.Passing.{if_some_map}
use Rattle.tc_settle.specs.Held.{IsAppendAt}
use Rattle.tc_close.specs.HeldRows.{state_of}
use Rattle.tc_close.specs.RowState.{RowState, held_of}
use Rattle.tc_close.proofs.AppendLaws.{told_append}
use Rattle.tc_close.proofs.held.HeldRows.known_append.Goals as goal

pub known-requires-clause-kept : goal.known-requires-clause-kept
known-requires-clause-kept g c = c.self.invariant.1.appends.kept

pub known-requires-clause-hedge : goal.known-requires-clause-hedge
known-requires-clause-hedge g c = subst (λ (s : RowState). c.args.hedge < length s.hedges) (sym c.self.view_is) c.requires.hedge

pub known-requires-clause-tree : goal.known-requires-clause-tree
known-requires-clause-tree g c = subst (λ (s : RowState). c.args.tree < length s.trees) (sym c.self.view_is) c.requires.tree

pub returns : goal.returns
returns g c =
    let s = state_of c.self.inside.rows c.self.inside.hedges c.self.inside.trees c.self.inside.is_whole in
    let held = c.self.invariant.0 in
    let are = c.self.invariant.1.appends in
    if_some_map c.known.result _ _
    (λ u told. subst (λ r. IsAppendAt (held_of g.K.Over.is_of r) c.args.hedge c.args.tree u) c.self.view_is ((are.kept.even_hedges u told.low_made).0, λ x o. told_append s are told x o (held.good x (held.over x o)))) c.known.ensures
