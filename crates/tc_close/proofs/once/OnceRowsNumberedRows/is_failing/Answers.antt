use Rattle.std.proofs.Common.{subst, MatchBool}
use Rattle.tc_settle.specs.Held.{SameRows}
use Rattle.tc_close.specs.RowState.{RowState, held_of}
use Rattle.tc_close.proofs.OnceLaws.{once_on}
use Rattle.tc_close.proofs.once.OnceRowsNumberedRows.is_failing.Goals as goal

pub invariant_of-self : goal.invariant_of-self
invariant_of-self g c = once_on g.K.Over.is_of c.self.inside.alike.firsts.items c.self.inside.free c.self.inside.wraps c.self.inside.rows c.is_failing.new.self c.is_failing.ensures.same.0 c.self.invariant

pub returns-clause-fails : goal.returns-clause-fails
returns-clause-fails g c =
    let of = g.K.Over.is_of in
    let new = c.is_failing.new.self in
    subst (λ (s : RowState). MatchBool c.is_failing.result ((held_of of s).fails c.args.tree) ((held_of of s).passes c.args.tree)) c.self.view_is c.is_failing.ensures.fails

pub returns-clause-same : goal.returns-clause-same
returns-clause-same g c =
    let of = g.K.Over.is_of in
    let new = c.is_failing.new.self in
    subst (λ (s : RowState). SameRows (held_of of s) (held_of of new)) c.self.view_is c.is_failing.ensures.same
