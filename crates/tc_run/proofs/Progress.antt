-- How far loops over instructions and over nodes have come: what was put out, and what is left.
use Rattle.std.proofs.Common.{◌≡◌, ◌+◌, ◌*◌, ◌-◌, ℕ, List, max, suc}
use Rattle.tc_model.specs.Trees.{Trees, none, text, element}
use Rattle.tc_model.specs.Sheets.{Body, CallFreeBody, Inlines}
use Rattle.tc_model.specs.Outcomes.{Outcome, join}
use Rattle.tc_rules.specs.States.{Going}
use Rattle.tc_run.specs.Running.{sheet_by}
use Rattle.tc_run.specs.Spent.{Spends}
use Rattle.tc_run.specs.Tasks.{does, outputs_on}
use Rattle.tc_run.specs.declared.bodies.Context.{Context}
use Rattle.tc_run.specs.declared.output.Output.{Output}
use Rattle.tc_run.specs.declared.runner.Runner.{Runner}

pub record BodySoFar (r : Runner) (bodies : List CallFreeBody) (h : Context) (nesting : ℕ) (old now : Output) (p : CallFreeBody) (left : Body) : Type 0 where
  pub done : Outcome
  pub rest : CallFreeBody
  pub spent : Spends nesting old now done
  pub of_rest : Inlines (sheet_by r).named left rest
  pub whole : does r bodies p h ≡ join done (does r bodies rest h)

pub record HitsSoFar (r : Runner) (bodies : List CallFreeBody) (above nesting : ℕ) (old now : Output) (g : Going) (all left : Trees) : Type 0 where
  pub done : Outcome
  pub spent : Spends nesting old now done
  pub whole : outputs_on r bodies all above g ≡ join done (outputs_on r bodies left above g)

-- how deep elements and texts stand within one another
abbrev pub height : Trees → ℕ
height none = 0
height (text s rest) = max 1 (height rest)
height (element n kids rest) = max (suc (height kids)) (height rest)

-- what is left to go deeper: bodies and instructions, or elements; of two calls of one depth the one of lower rank comes later
abbrev pub left_at : ℕ → Trees → ℕ → ℕ
left_at nesting h rank = 16 * ((8000 - nesting) + height h) + rank
