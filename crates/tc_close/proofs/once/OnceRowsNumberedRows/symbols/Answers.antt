use Rattle.std.proofs.Common.{subst}
use Rattle.tc_settle.specs.Held.{IsExact}
use Rattle.tc_close.specs.RowState.{RowState, held_of}
use Rattle.tc_close.proofs.once.OnceRowsNumberedRows.symbols.Goals as goal

pub returns-clause-exact : goal.returns-clause-exact
returns-clause-exact g c = subst (λ (s : RowState). IsExact (held_of g.K.Over.is_of s)) c.self.view_is c.symbols.ensures.exact
