-- Instructions that put nothing out on a node, and the body that is instantiated there.
use Rattle.std.specs.Borrow.{Bor}
use Rattle.std.specs.Prelude.{◌≡◌, ◌<◌, ℕ, List}
use Rattle.tc_model.specs.Chains.{children}
use Rattle.tc_model.specs.Outcomes.{nothing, within}
use Rattle.tc_model.specs.Sheets.{Body, CallFreeBody, Inlines, Sheet}
use Rattle.tc_model.specs.Views as see
use Rattle.tc_model.specs.declared.sheet.Instr.{Instr}
use Rattle.tc_rules.specs.Parts.{IsPart}
use Rattle.tc_run.specs.Leaves.{AreAlike}
use Rattle.tc_run.specs.Lettered.{bare}
use Rattle.tc_run.specs.Running.{sheet_by}
use Rattle.tc_run.specs.Spent.{most_open}
use Rattle.tc_run.specs.Tasks.{does}
use Rattle.tc_run.specs.Views.{trees, node}
use Rattle.tc_run.specs.declared.bodies.Context.{Context}
use Rattle.tc_run.specs.declared.leaves.Bodies.{Bodies}
use Rattle.tc_run.specs.declared.runner.Runner.{Runner}

-- an instruction puts nothing out on a node, whatever stylesheet it is part of, and one more may stand within so many
pub record IsIdleOn (h : Context) (around : ℕ) (b : Body) : Type 0 where
  pub idle : (r : Runner) (bodies : List CallFreeBody) (p : CallFreeBody) → bare (trees h.kids.now) ≡ children (node h) → Inlines (sheet_by r).named b p
      → does r bodies p h ≡ within nothing
  pub low : around < most_open

-- what is instantiated on a node is part of what its body is part of, and does what that does there
pub record IsBodyOn (x : Bodies) (h : Context) (b : Bor (List Instr)) : Type 0 where
  pub part : AreAlike (see.body x.whole.now) (see.body x.on_leaf.now) → (s : Sheet) → IsPart s (see.body x.whole.now) → IsPart s (see.body b.now)
  pub same : AreAlike (see.body x.whole.now) (see.body x.on_leaf.now) → (r : Runner) (bodies : List CallFreeBody) (p : CallFreeBody) → bare (trees h.kids.now) ≡ children (node h)
      → Inlines (sheet_by r).named (see.body x.whole.now) p
      → (q : CallFreeBody) × Inlines (sheet_by r).named (see.body b.now) q × (does r bodies p h ≡ does r bodies q h)
