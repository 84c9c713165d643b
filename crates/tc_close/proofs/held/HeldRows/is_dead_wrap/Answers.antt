use Rattle.std.proofs.Common.{subst}
use Rattle.tc_rows.specs.Arithmetic.{IsLiveWrap}
use Rattle.tc_close.specs.RowState.{RowState, hedge_at}
use Rattle.tc_close.proofs.KindLaws.{known_wrap}
use Rattle.tc_close.proofs.held.HeldRows.is_dead_wrap.Goals as goal

pub returns : goal.returns
returns g c = λ e x o. subst (λ (s : RowState). IsLiveWrap x c.args.symbol (hedge_at x s c.args.hedge) → ⊥) c.self.view_is (known_wrap c.self.invariant.1.kinds c.args.symbol c.args.hedge (c.is_dead_wrap.ensures e) x o c.self.inside.rows.outputs.matrices)
