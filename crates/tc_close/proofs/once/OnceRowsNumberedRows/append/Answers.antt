use Rattle.std.proofs.Common.{subst, sym, length, IfOk, MatchOption}
use Rattle.tc_settle.specs.Held.{Grows, IsHeldAs, IsUnchanged, IsAppendAt}
use Rattle.tc_close.specs.RowState.{RowState, held_of}
use Rattle.tc_close.proofs.OnceLaws.{once_on}
use Rattle.tc_close.proofs.once.OnceRowsNumberedRows.append.Goals as goal

pub invariant_of-self : goal.invariant_of-self
invariant_of-self g c =
    let of = g.K.Over.is_of in
    once_on of c.self.inside.alike.firsts.items c.self.inside.free c.self.inside.wraps c.self.inside.rows c.learn_append.new.self (subst (λ (s : RowState). Grows (held_of of c.self.inside.rows) (held_of of s)) (sym c.learn_append.ensures) c.append-appended.ensures.grows) c.self.invariant

pub invariant_of-self-in_default-appended : goal.invariant_of-self-in_default-appended
invariant_of-self-in_default-appended g c = once_on g.K.Over.is_of c.self.inside.alike.firsts.items c.self.inside.free c.self.inside.wraps c.self.inside.rows c.append-appended.new.self c.append-appended.ensures.grows c.self.invariant

pub invariant_of-self-in_default-appended-2 : goal.invariant_of-self-in_default-appended-2
invariant_of-self-in_default-appended-2 g c = once_on g.K.Over.is_of c.self.inside.alike.firsts.items c.self.inside.free c.self.inside.wraps c.self.inside.rows c.append-appended.new.self c.append-appended.ensures.grows c.self.invariant

pub returns-in-Ok-Some-clause-made : goal.returns-in-Ok-Some-clause-made
returns-in-Ok-Some-clause-made g c =
    let of = g.K.Over.is_of in
    let Made : RowState → RowState → Type 0 =
    λ old new. IfOk c.append-appended.result (λ o. MatchOption o ((held_of of new).no_append c.args.hedge c.args.tree × IsUnchanged (held_of of old) (held_of of new)) (λ u. IsAppendAt (held_of of new) c.args.hedge c.args.tree u × IsHeldAs (length old.hedges) (length new.hedges) u)) in
    subst (λ s. Made s c.learn_append.new.self) c.self.view_is (subst (Made c.self.inside.rows) (sym c.learn_append.ensures) c.append-appended.ensures.made)
