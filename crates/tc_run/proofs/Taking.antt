-- Which branch is taken, and the parts of bodies and branches in loops.
use Rattle.std.proofs.Common.{◌≡◌, ℕ, ◌+◌, ◌<◌, List, refl, ap, ◌∙◌, sym, subst, Bool, true, false, cond, length, get_or, drop, []}
use Rattle.std.proofs.lemmas.Option.{get_or_from_slice_get, slice_get-get_or}
use Rattle.tc_model.specs.Chains.{children}
use Rattle.tc_model.specs.Machine.{CallFreeJob, holds_in, does_in, takes_in}
use Rattle.tc_model.specs.Outcomes.{Outcome}
use Rattle.tc_model.specs.Views as see
use Rattle.tc_model.specs.Sheets.{Test, Body, Branches, otherwise, branch, no_instruction, Sheet, CallFreeBody, CallFreeBranches, Inlines, BranchesInline, u_otherwise, u_branch}
use Rattle.tc_model.specs.declared.sheet.Branch.{Branch, roll-Branch}
use Rattle.tc_model.specs.declared.sheet.Test.{True}
use Rattle.tc_model.specs.declared.sheet.Instr.{Instr}
use Rattle.tc_model.proofs.ViewsBody.{left_instruction, left_branch}
use Rattle.tc_rules.specs.States.{Going}
use Rattle.tc_run.specs.Lettered.{bare}
use Rattle.tc_rules.specs.Parts.{IsPart, IsPartTest, ArePartBranches}
use Rattle.tc_run.specs.Running.{sheet_by, symbols_by, predicates_by, machine, looking}
use Rattle.tc_run.specs.Views.{trees, node}
use Rattle.tc_run.specs.declared.bodies.Context.{Context}
use Rattle.tc_run.specs.declared.output.Output.{Output}
use Rattle.tc_run.specs.declared.runner.Runner.{Runner}
use Rattle.tc_rules.proofs.Looking.{holds_alike}
use Rattle.tc_rules.proofs.PartsOf.{part_first}
use Rattle.tc_run.proofs.Progress.{BodySoFar}

-- what stands past the end of branches
abbrev pub no_branch : Branch
no_branch = roll-Branch (record { test = True; body = record { ref_ptr = (0, 0); now = [] } })

pub branch_is : (bs : List Branch) (k : ℕ) (d : Branch) → k < length bs → get_or bs k d ≡ get_or bs k (get_or bs k d)
branch_is bs k d h = sym (get_or_from_slice_get bs k (get_or bs k d) (get_or bs k d) (slice_get-get_or bs k d h))

module _ (r : Runner) (here : Context) (named : List Body) where
  -- a test holds in the machine as it does by looks
  pub test_holds : (w : Test) (b : Bool) → bare (trees here.kids.now) ≡ children (node here) → b ≡ holds_in (looking r) w (bare (trees here.kids.now))
      → (bodies : List CallFreeBody) → holds_in (machine r bodies) w (children (node here)) ≡ b
  test_holds w b e h bodies =
      ap (holds_in (machine r bodies) w) (sym e) ∙ (holds_alike (symbols_by r) (predicates_by r) (sheet_by r).rules bodies w (bare (trees here.kids.now)) ∙ sym h)

  -- one that does not hold is passed over
  pub branch_not : (w : Test) (b : Body) (x : Branches) {y : CallFreeBranches} → BranchesInline named (branch w b x) y
      → ((bodies : List CallFreeBody) → holds_in (machine r bodies) w (children (node here)) ≡ false)
      → (z : CallFreeBranches) × BranchesInline named x z
      × ((bodies : List CallFreeBody) (outs : CallFreeJob → Going → Outcome) → takes_in (machine r bodies) y (node here) outs ≡ takes_in (machine r bodies) z (node here) outs)
  branch_not w b x (u_branch {p} {y = z} v k) f =
      (z, k, λ bodies outs. ap (λ c. cond c (does_in (machine r bodies) p (node here) outs) (takes_in (machine r bodies) z (node here) outs)) (f bodies))

  pub branch_this : (w : Test) (b : Body) (x : Branches) {y : CallFreeBranches} → BranchesInline named (branch w b x) y
      → ((bodies : List CallFreeBody) → holds_in (machine r bodies) w (children (node here)) ≡ true)
      → (p : CallFreeBody) × Inlines named b p
      × ((bodies : List CallFreeBody) (outs : CallFreeJob → Going → Outcome) → takes_in (machine r bodies) y (node here) outs ≡ does_in (machine r bodies) p (node here) outs)
  branch_this w b x (u_branch {p} {y = z} v k) f =
      (p, v, λ bodies outs. ap (λ c. cond c (does_in (machine r bodies) p (node here) outs) (takes_in (machine r bodies) z (node here) outs)) (f bodies))

  pub branch_last : (b : Body) {y : CallFreeBranches} → BranchesInline named (otherwise b) y
      → (p : CallFreeBody) × Inlines named b p
      × ((bodies : List CallFreeBody) (outs : CallFreeJob → Going → Outcome) → takes_in (machine r bodies) y (node here) outs ≡ does_in (machine r bodies) p (node here) outs)
  branch_last b (u_otherwise {p} v) = (p, v, λ bodies outs. refl)

module _ (x : Sheet) where
  -- the instruction that comes next in a loop, and those after it
  pub part_at : (is : List Instr) (k : ℕ) (i : Instr) → k < length is → i ≡ get_or is k i → IsPart x (see.body (drop k is))
      → IsPart x (see.instruction i no_instruction) × IsPart x (see.body (drop (k + 1) is))
  part_at is k i h e p = part_first x i (see.body (drop (k + 1) is)) (subst (IsPart x) (left_instruction is k i h e) p)

  -- the branch that comes next
  pub branch_part_at : (bs : List Branch) (k : ℕ) (b : Branch) (rest : Branches) → k < length bs → b ≡ get_or bs k b → ArePartBranches x (see.branches (drop k bs) rest)
      → IsPartTest x (see.test b.test) × IsPart x (see.body b.body.now) × ArePartBranches x (see.branches (drop (k + 1) bs) rest)
  branch_part_at bs k b rest h e p = subst (ArePartBranches x) (left_branch bs k b rest h e) p

-- what is left of a body begins with an instruction
pub so_far_at : (r : Runner) (bodies : List CallFreeBody) (h : Context) (nesting : ℕ) (old now : Output) (p : CallFreeBody) (is : List Instr) (k : ℕ) (i : Instr)
    → k < length is → i ≡ get_or is k i → BodySoFar r bodies h nesting old now p (see.body (drop k is))
    → BodySoFar r bodies h nesting old now p (see.instruction i (see.body (drop (k + 1) is)))
so_far_at r bodies h nesting old now p is k i l e s = subst (λ b. BodySoFar r bodies h nesting old now p b) (left_instruction is k i l e) s
