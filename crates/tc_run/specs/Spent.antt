-- What a call that puts out answers: all is put out within the limits, or a limit is passed.
use Rattle.std.specs.Prelude.{◌≡◌, ◌+◌, ◌<◌, ◌≤◌, ℕ, Result, Ok, Err}
use Rattle.tc_base.specs.declared.limits.TheConstants.{MOST_OPEN, MOST_WORK}
use Rattle.tc_model.specs.Outcomes.{Outcome}
use Rattle.tc_run.specs.Taken.{Takes}
use Rattle.tc_run.specs.declared.RunFault.{RunFault}
use Rattle.tc_run.specs.declared.RunFault.TheVariants.{TooMuchWork, TooOpen, NoMemory}
use Rattle.tc_run.specs.declared.output.Output.{Output}

abbrev pub most_work : ℕ
most_work = MOST_WORK

abbrev pub most_open : ℕ
most_open = MOST_OPEN

-- within so many bodies and instructions all of this was put out, and the limits are kept
pub record Spends (around : ℕ) (old new : Output) (o : Outcome) : Type 0 where
  pub out : Takes old.taken o.out new.taken
  pub work : new.work ≡ old.work + o.work
  pub few : new.work ≤ most_work
  pub low : around + o.nesting ≤ most_open

-- what is named is passed
abbrev pub IsPassed : RunFault → ℕ → ℕ → Type 0
IsPassed TooMuchWork work nesting = most_work < work
IsPassed TooOpen work nesting = most_open < nesting
IsPassed NoMemory work nesting = Unit {0}

abbrev pub Answers : {T : Type 0} → ℕ → Output → Output → Result T RunFault → Outcome → Type 0
Answers around old new (Ok x) o = Spends around old new o
Answers around old new (Err e) o = IsPassed e (old.work + o.work) (around + o.nesting)
