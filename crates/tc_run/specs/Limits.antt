-- The limits of a run: the work that a stylesheet does on a document, and how many bodies and instructions stand within one another.
use Rattle.std.specs.Prelude.{◌≡◌, ◌≤◌, ℕ, List}
use Rattle.tc_model.specs.Trees.{Trees}
use Rattle.tc_model.specs.Sheets.{Sheet}
use Rattle.tc_model.specs.Outcomes.{Outcome}
use Rattle.tc_model.specs.Printed.{printed}
use Rattle.tc_model.specs.Safety.{Transforms, IsResultOf}
use Rattle.tc_run.specs.Spent.{most_work, most_open, IsPassed}
use Rattle.tc_run.specs.Taken.{Takes}
use Rattle.tc_run.specs.declared.RunFault.{RunFault}
use Rattle.tc_run.specs.declared.output.Taken.{Taken}

-- both are kept
abbrev pub KeepsLimits : Sheet → Trees → Type 0
KeepsLimits s doc = (o : Outcome) × Transforms s doc o × (o.work ≤ most_work) × (o.nesting ≤ most_open)

-- the one that is named is passed
abbrev pub IsCause : Sheet → Trees → RunFault → Type 0
IsCause s doc e = (o : Outcome) × Transforms s doc o × IsPassed e o.work o.nesting

-- all that a stylesheet puts out on a document was taken, within both
pub record IsPutOut (s : Sheet) (doc : Trees) (old new : Taken) : Type 0 where
  pub outcome : Outcome
  pub transforms : Transforms s doc outcome
  pub takes : Takes old outcome.out new
  pub few : outcome.work ≤ most_work
  pub low : outcome.nesting ≤ most_open

-- the text of the result of a document
abbrev pub IsTextOfResult : Sheet → Trees → List ℕ → Type 0
IsTextOfResult s doc bytes = (result : Trees) × IsResultOf s doc result × (bytes ≡ printed result)
