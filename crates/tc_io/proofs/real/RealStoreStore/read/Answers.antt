use Rattle.std.proofs.Common.{◌≤◌, sym, subst, ◌∙◌, arith, inl, inr}
use Rattle.std.proofs.Math.Nat.{le_refl}
use Rattle.tc_io.specs.Faults.{Rose}
use Rattle.tc_io.proofs.Counted.{counted_error, counted_bytes, no_error}
use Rattle.tc_io.proofs.Files.{not_told}
use Rattle.tc_io.proofs.Rooms.{raised_rose, raised_more}
use Rattle.tc_io.proofs.real.RealStoreStore.read.Goals as goal

pub returns-then-is_err-clause-gives : goal.returns-then-is_err-clause-gives
returns-then-is_err-clause-gives g c = counted_error c.read_file-read.result c.args.name.now (sym c.is_err.ensures.value ∙ c.if-is_err.true) c.self.view_is c.saturating_add-self-inside.ensures

pub returns-then-is_err-clause-count : goal.returns-then-is_err-clause-count
returns-then-is_err-clause-count g c = subst (λ n. n ≤ c.saturating_add-self-inside.result) c.self.view_is (raised_more c.self.inside.faults _ (omega arith) c.saturating_add-self-inside.ensures)

pub returns-then-is_err-clause-bound : goal.returns-then-is_err-clause-bound
returns-then-is_err-clause-bound g c = c.read_file-read.ensures

pub returns-then-is_err-clause-told : goal.returns-then-is_err-clause-told
returns-then-is_err-clause-told g c = λ files e. not_told _ (sym e)

pub returns-then-is_err-clause-missing : goal.returns-then-is_err-clause-missing
returns-then-is_err-clause-missing g c = λ files e. not_told _ (sym e)

pub returns-then-is_err-clause-too_long : goal.returns-then-is_err-clause-too_long
returns-then-is_err-clause-too_long g c = λ files e. not_told _ (sym e)

pub returns-then-is_err-clause-failed : goal.returns-then-is_err-clause-failed
returns-then-is_err-clause-failed g c = λ cause. subst (λ n. Rose n c.saturating_add-self-inside.result) c.self.view_is (raised_rose c.self.inside.faults _ c.saturating_add-self-inside.ensures)

pub returns-then-is_err-clause-untold : goal.returns-then-is_err-clause-untold
returns-then-is_err-clause-untold g c = λ cause. subst (λ n. Rose n c.saturating_add-self-inside.result) c.self.view_is (raised_rose c.self.inside.faults _ c.saturating_add-self-inside.ensures)

pub returns-else-is_err-clause-gives : goal.returns-else-is_err-clause-gives
returns-else-is_err-clause-gives g c = counted_bytes c.read_file-read.result c.args.self.now c.args.name.now (sym c.is_err.ensures.value ∙ c.if-is_err.false)

pub returns-else-is_err-clause-count : goal.returns-else-is_err-clause-count
returns-else-is_err-clause-count g c = le_refl _

pub returns-else-is_err-clause-bound : goal.returns-else-is_err-clause-bound
returns-else-is_err-clause-bound g c = c.read_file-read.ensures

pub returns-else-is_err-clause-told : goal.returns-else-is_err-clause-told
returns-else-is_err-clause-told g c = λ files e. not_told _ (sym e)

pub returns-else-is_err-clause-missing : goal.returns-else-is_err-clause-missing
returns-else-is_err-clause-missing g c = λ files e. not_told _ (sym e)

pub returns-else-is_err-clause-too_long : goal.returns-else-is_err-clause-too_long
returns-else-is_err-clause-too_long g c = λ files e. not_told _ (sym e)

pub returns-else-is_err-clause-failed : goal.returns-else-is_err-clause-failed
returns-else-is_err-clause-failed g c = λ cause. no_error c.read_file-read.result (sym c.is_err.ensures.value ∙ c.if-is_err.false) cause

pub returns-else-is_err-clause-untold : goal.returns-else-is_err-clause-untold
returns-else-is_err-clause-untold g c = λ cause. elim cause [ inl e ↦ no_error c.read_file-read.result (sym c.is_err.ensures.value ∙ c.if-is_err.false) e | inr e ↦ no_error c.read_file-read.result (sym c.is_err.ensures.value ∙ c.if-is_err.false) e ]
