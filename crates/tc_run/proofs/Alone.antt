-- What one instruction alone puts out.
use Rattle.std.proofs.Common.{◌≡◌, ℕ, List, subst, Some, slice_get}
use Rattle.tc_model.specs.Names.{ExpandedName}
use Rattle.tc_model.specs.Chains.{children, string_value}
use Rattle.tc_model.specs.Sheets.{Path, Body, no_instruction, put_text, put_element, copy, apply, call, for_each, value, value_of_self, choose, Branches, CallFreeBody, CallFreeBranches, Inlines, u_done, u_text, u_element, u_copy, u_apply, u_call, u_value, u_self, u_choose, u_each, BranchesInline}
use Rattle.tc_model.specs.Outcomes.{Outcome, within, counted, put, put_around, copied}
use Rattle.tc_model.specs.Meaning.{value_of_first}
use Rattle.tc_model.specs.Machine.{in_mode, in_body, first_hit, takes_in, outputs}
use Rattle.tc_model.proofs.TotalJoin.{join_none}
use Rattle.tc_rules.specs.RulesView.{ancestor}
use Rattle.tc_run.specs.Running.{told_by, machine}
use Rattle.tc_run.specs.Views.{node}
use Rattle.tc_rules.specs.Tasks.{going_from, looking_from}
use Rattle.tc_run.specs.Tasks.{does, outputs_on}
use Rattle.tc_run.specs.declared.bodies.Context.{Context}
use Rattle.tc_run.specs.declared.runner.Runner.{Runner}

module _ (r : Runner) (bodies : List CallFreeBody) (h : Context) (named : List Body) where
  pub text_alone : {x : List ℕ} {p : CallFreeBody} → Inlines named (put_text x no_instruction) p → does r bodies p h ≡ within (put x)
  text_alone {x} (u_text u_done) = join_none (within (put x))

  -- of a body inside, what it puts out and what the instruction does
  pub record Inside (inner : Body) (f : Outcome → Outcome) (p : CallFreeBody) : Type 0 where
    pub plain : CallFreeBody
    pub unfolds : Inlines named inner plain
    pub outcome : does r bodies p h ≡ within (f (does r bodies plain h))

  pub element_alone : {n : ExpandedName} {i : Body} {p : CallFreeBody} → Inlines named (put_element n i no_instruction) p → Inside i (put_around n) p
  element_alone {n} (u_element {o} v u_done) = record { plain = o; unfolds = v; outcome = join_none (within (put_around n (does r bodies o h))) }

  pub copy_alone : {i : Body} {p : CallFreeBody} → Inlines named (copy i no_instruction) p → Inside i (copied (node h)) p
  copy_alone (u_copy {o} v u_done) = record { plain = o; unfolds = v; outcome = join_none (within (copied (node h) (does r bodies o h))) }

  pub call_alone : {n : ℕ} {i : Body} {p : CallFreeBody} → slice_get named n ≡ Some i → Inlines named (call n no_instruction) p → Inside i counted p
  call_alone {i} e (u_call {i = j} {o} f v u_done) =
      let same : j ≡ i = cc in
      record { plain = o; unfolds = subst (λ b. Inlines named b o) same v; outcome = join_none (within (counted (does r bodies o h))) }

  pub apply_alone : {w : Path} {m : ℕ} {p : CallFreeBody} → Inlines named (apply w m no_instruction) p
      → does r bodies p h ≡ within (outputs_on r bodies (children (node h)) h.above (going_from (in_mode m) w))
  apply_alone {w} {m} (u_apply u_done) = join_none (within (outputs_on r bodies (children (node h)) h.above (going_from (in_mode m) w)))

  pub value_alone : {w : Path} {p : CallFreeBody} → Inlines named (value w no_instruction) p
      → does r bodies p h ≡ within (put (value_of_first (first_hit (machine r bodies) (children (node h)) (looking_from w))))
  value_alone {w} (u_value u_done) = join_none (within (put (value_of_first (first_hit (machine r bodies) (children (node h)) (looking_from w)))))

  pub self_alone : {p : CallFreeBody} → Inlines named (value_of_self no_instruction) p → does r bodies p h ≡ within (put (string_value (node h)))
  self_alone (u_self u_done) = join_none (within (put (string_value (node h))))

  pub record Choice (x : Branches) (p : CallFreeBody) : Type 0 where
    pub branches : CallFreeBranches
    pub unfolds : BranchesInline named x branches
    pub outcome : does r bodies p h
        ≡ within (takes_in (machine r bodies) branches (node h) (λ i u. outputs (machine r bodies) (children (node h)) i (ancestor (told_by r) h.above) u))

  pub choose_alone : {x : Branches} {p : CallFreeBody} → Inlines named (choose x no_instruction) p → Choice x p
  choose_alone (u_choose {y} v u_done) =
      record {
        branches = y;
        unfolds = v;
        outcome = join_none (within (takes_in (machine r bodies) y (node h) (λ i u. outputs (machine r bodies) (children (node h)) i (ancestor (told_by r) h.above) u)));
      }

  pub record Repeated (e : ℕ) (w : Path) (inner : Body) (p : CallFreeBody) : Type 0 where
    pub plain : CallFreeBody
    pub unfolds : Inlines named inner plain
    pub outcome : does r bodies p h ≡ within (outputs_on r bodies (children (node h)) h.above (going_from (in_body plain) w))

  pub each_alone : {e : ℕ} {w : Path} {i : Body} {p : CallFreeBody} → Inlines named (for_each e w i no_instruction) p → Repeated e w i p
  each_alone {w} (u_each {o} v u_done) =
      record { plain = o; unfolds = v; outcome = join_none (within (outputs_on r bodies (children (node h)) h.above (going_from (in_body o) w))) }
