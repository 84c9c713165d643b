use Rattle.std.proofs.Common.{◌≤◌, refl, sym, subst, ◌∙◌, arith}
use Rattle.std.proofs.Math.Nat.{le_refl}
use Rattle.tc_io.specs.Faults.{Rose}
use Rattle.tc_io.specs.RealSink.{Reaches}
use Rattle.tc_io.proofs.Fronts.{on_err, success_says_nothing}
use Rattle.tc_io.proofs.Counted.{reaches_front, reaches_whole}
use Rattle.tc_io.proofs.Rooms.{raised_rose, raised_more}
use Rattle.tc_io.proofs.real.RealSinkSink.write.Goals as goal

pub returns-then-is_err-clause-count : goal.returns-then-is_err-clause-count
returns-then-is_err-clause-count g c = subst (λ s. s.faults ≤ c.saturating_add-self-inside.result) c.self.view_is (raised_more c.self.inside.faults c.saturating_add-self-inside.result (omega arith) c.saturating_add-self-inside.ensures)

pub returns-then-is_err-clause-rose : goal.returns-then-is_err-clause-rose
returns-then-is_err-clause-rose g c = on_err c.write_all-written.result (subst (λ s. Rose s.faults c.saturating_add-self-inside.result) c.self.view_is (raised_rose c.self.inside.faults c.saturating_add-self-inside.result c.saturating_add-self-inside.ensures))

pub returns-else-is_err-clause-count : goal.returns-else-is_err-clause-count
returns-else-is_err-clause-count g c = subst (λ s. s.faults ≤ c.self.inside.faults) c.self.view_is (le_refl _)

pub returns-else-is_err-clause-rose : goal.returns-else-is_err-clause-rose
returns-else-is_err-clause-rose g c = success_says_nothing c.write_all-written.result _ (sym c.is_err.ensures.value ∙ c.if-is_err.false)

pub returns-then-is_err-clause-gives : goal.returns-then-is_err-clause-gives
returns-then-is_err-clause-gives g c =
    subst (λ s. Reaches g.W.Write.contents s c.args.piece.now c.write_all-written.result (record { out = c.write_all-written.new.out; faults = c.saturating_add-self-inside.result })) c.self.view_is
    (reaches_front g.W.Write.contents _ _ c.args.piece.now c.write_all-written.result (sym c.is_err.ensures.value ∙ c.if-is_err.true) c.saturating_add-self-inside.ensures c.write_all-written.ensures.front)

pub returns-else-is_err-clause-gives : goal.returns-else-is_err-clause-gives
returns-else-is_err-clause-gives g c =
    subst (λ s. Reaches g.W.Write.contents s c.args.piece.now c.write_all-written.result (record { out = c.write_all-written.new.out; faults = c.self.inside.faults })) c.self.view_is
    (reaches_whole g.W.Write.contents _ _ c.args.piece.now c.write_all-written.result (sym c.is_err.ensures.value ∙ c.if-is_err.false) refl c.write_all-written.ensures.reaches)
