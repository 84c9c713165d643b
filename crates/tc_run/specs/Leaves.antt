-- Bodies for nodes without children.
use Rattle.std.specs.Prelude.{◌≡◌, ℕ, List, Some, slice_get}
use Rattle.std.specs.Borrow.{Bor}
use Rattle.tc_model.specs.Chains.{Node, children}
use Rattle.tc_model.specs.Machine.{does_in}
use Rattle.tc_model.specs.Outcomes.{Outcome, nothing, within}
use Rattle.tc_model.specs.Sheets.{Body, CallFreeBody, Inlines, Rule, Sheet}
use Rattle.tc_model.specs.Trees.{none}
use Rattle.tc_model.specs.Views as see
use Rattle.tc_model.specs.declared.sheet.Instr.{Instr}
use Rattle.tc_rules.specs.Parts.{IsPart}
use Rattle.tc_run.specs.Running.{machine}
use Rattle.tc_run.specs.declared.leaves.Leaves.{Leaves}
use Rattle.tc_run.specs.declared.runner.Runner.{Runner}

-- what a body puts out on a node where nothing is selected below
abbrev pub on_leaf : Runner → List CallFreeBody → CallFreeBody → Node → Outcome
on_leaf r bodies p n = does_in (machine r bodies) p n (λ i u. nothing)

-- on nodes without children a body does what another does, with calls in place
pub record IsAlso (named : List Body) (b : Body) (p : CallFreeBody) : Type 0 where
  pub plain : CallFreeBody
  pub unfolds : Inlines named b plain
  pub same : (r : Runner) (bodies : List CallFreeBody) (n : Node) → children n ≡ none → on_leaf r bodies p n ≡ on_leaf r bodies plain n

-- the second does on nodes without children what the first does
pub record AreAlike (a b : Body) : Type 0 where
  pub part : (s : Sheet) → IsPart s a → IsPart s b
  pub also : (named : List Body) (p : CallFreeBody) → Inlines named a p → IsAlso named b p

-- an instruction puts nothing out there
abbrev pub IsIdleOnLeaves : Body → Type 0
IsIdleOnLeaves b = (named : List Body) (p : CallFreeBody) → Inlines named b p → (r : Runner) (bodies : List CallFreeBody) (n : Node) → children n ≡ none → on_leaf r bodies p n ≡ within nothing

-- what is kept of a rule is right
pub record AreLeaves (s : Sheet) (x : Leaves) : Type 0 where
  pub leaf : (i : ℕ) (b : Bor (List Instr)) (rule : Rule) → slice_get x.bodies.items i ≡ Some b → slice_get s.rules i ≡ Some rule → AreAlike rule.body (see.body b.now)
