use Rattle.std.proofs.Common.{◌≡◌, List, drop}
use Rattle.tc_model.specs.Machine.{CallFreeJob, takes_in}
use Rattle.tc_model.specs.Outcomes.{Outcome}
use Rattle.tc_model.specs.Views as see
use Rattle.tc_model.specs.Sheets.{CallFreeBody, CallFreeBranches, BranchesInline, otherwise}
use Rattle.tc_rules.specs.States.{Going}
use Rattle.tc_rules.specs.Parts.{ArePartBranches}
use Rattle.tc_run.specs.Running.{machine, sheet_by}
use Rattle.tc_run.specs.Sights.{AreSeenBy}
use Rattle.tc_run.specs.Views.{node}
use Rattle.tc_run.proofs.bodies.chosen_branch.Given as goal

-- no test so far holds
abbrev pub invariant-loop-branch : goal.invariant-loop-branch
invariant-loop-branch l =
    AreSeenBy l.runner l.known × ArePartBranches (sheet_by l.runner) (see.branches (drop l.branch-index l.branches) (otherwise (see.body l.last)))
    × ((x : CallFreeBranches) → BranchesInline (sheet_by l.runner).named (see.branches l.branches (otherwise (see.body l.last))) x
    → (y : CallFreeBranches) × BranchesInline (sheet_by l.runner).named (see.branches (drop l.branch-index l.branches) (otherwise (see.body l.last))) y
    × ((bodies : List CallFreeBody) (outs : CallFreeJob → Going → Outcome) → takes_in (machine l.runner bodies) x (node l.here) outs ≡ takes_in (machine l.runner bodies) y (node l.here) outs))
