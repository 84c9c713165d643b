use Rattle.std.proofs.Common.{subst}
use Rattle.tc_close.specs.RowState.{RowState, held_of}
use Rattle.tc_close.proofs.once.OnceRows.is_dead.Goals as goal

pub returns : goal.returns
returns g c = λ e. subst (λ (s : RowState). (held_of g.K.Over.is_of s).no_wrap c.args.symbol c.args.hedge) c.self.view_is (c.is_dead_wrap.ensures e)
