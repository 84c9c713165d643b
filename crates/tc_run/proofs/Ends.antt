-- Where loops begin and end, and what stands around.
use Rattle.std.proofs.Common.{◌≡◌, ℕ, ◌+◌, ◌≤◌, List, refl, ap, ◌∙◌, sym, subst, drop, length, Result, Ok, Err}
use Rattle.std.proofs.lemmas.List.{drop_all}
use Rattle.std.specs.Prelude.{OnOk, IfErr}
use Rattle.tc_model.specs.Names.{ExpandedName}
use Rattle.tc_model.specs.Outcomes.{Outcome, join, put_around}
use Rattle.tc_model.specs.Views as see
use Rattle.tc_model.specs.Sheets.{Body, no_instruction, CallFreeBody, p_done, Inlines, u_done}
use Rattle.tc_model.specs.declared.sheet.Instr.{Instr}
use Rattle.tc_model.proofs.TotalJoin.{join_none}
use Rattle.tc_run.specs.Running.{sheet_by}
use Rattle.tc_run.specs.Spent.{Spends, IsPassed, Answers}
use Rattle.tc_run.specs.Taken.{Starts, Ends}
use Rattle.tc_run.specs.Tasks.{does}
use Rattle.tc_run.specs.declared.RunFault.{RunFault}
use Rattle.tc_run.specs.declared.RunFault.TheVariants.{NoMemory}
use Rattle.tc_run.specs.declared.bodies.Context.{Context}
use Rattle.tc_run.specs.declared.output.Outside.{Outside}
use Rattle.tc_run.specs.declared.output.Output.{Output}
use Rattle.tc_run.specs.declared.runner.Runner.{Runner}
use Rattle.tc_run.proofs.Progress.{BodySoFar}
use Rattle.tc_run.proofs.Putting.{spends_around}

done_is : (named : List Body) (p : CallFreeBody) → Inlines named no_instruction p → p ≡ p_done
done_is named p u_done = refl

pub no_instruction_left : (is : List Instr) (k : ℕ) → length is ≤ k → see.body (drop k is) ≡ no_instruction
no_instruction_left is k h = ap see.body (drop_all k is h)

module _ (r : Runner) (bodies : List CallFreeBody) (h : Context) (nesting : ℕ) (p : CallFreeBody) where
  pub body_end : (old now : Output) (left : Body) → left ≡ no_instruction → BodySoFar r bodies h nesting old now p left → Spends nesting old now (does r bodies p h)
  body_end old now left empty s =
      let e : s.rest ≡ p_done = done_is (sheet_by r).named s.rest (subst (λ b. Inlines (sheet_by r).named b s.rest) empty s.of_rest) in
      subst (Spends nesting old now) (sym (s.whole ∙ (ap (λ w. join s.done (does r bodies w h)) e ∙ join_none s.done))) s.spent

-- going back outside an element
pub left_around : {T : Type 0} (around : ℕ) (x inside y z : Output) (n : ExpandedName) (o : Outcome) (outside : Outside) (r : Result T RunFault)
    → Starts x.taken n outside inside.taken → (inside.work ≡ x.work + 1) × (inside.work ≤ 4000000) → Spends around inside y o
    → OnOk r (Ends y.taken n outside z.taken) → OnOk r (z.work ≡ y.work) → IfErr r (λ e. e ≡ NoMemory)
    → Answers around x z r (put_around n o)
left_around around x inside y z n o outside (Ok v) b f s g h k = spends_around around x inside y z n outside o b f.0 s g h
left_around around x inside y z n o outside (Err e) b f s g h k = subst (λ w. IsPassed w (x.work + (put_around n o).work) (around + (put_around n o).nesting)) (sym k) tt
