-- Where no child is, nothing is selected: instructions that put nothing out there.
use Rattle.std.proofs.Common.{◌≡◌, ℕ, ◌+◌, ◌<◌, ◌≤◌, List, [], refl, ap, ◌∙◌, sym, subst, Bor, arith}
use Rattle.tc_model.specs.Chains.{children, string_value, joined_texts}
use Rattle.tc_model.specs.Machine.{in_mode, in_body, first_hit}
use Rattle.tc_model.specs.Meaning.{value_of_first}
use Rattle.tc_model.specs.Outcomes.{Outcome, nothing, within, put}
use Rattle.tc_model.specs.Sheets.{Body, CallFreeBody, Inlines, no_instruction}
use Rattle.tc_model.specs.Trees.{Trees, none}
use Rattle.tc_model.specs.Views as see
use Rattle.tc_model.specs.declared.sheet.Instr.{Instr}
use Rattle.tc_model.specs.declared.sheet.Instr.TheVariants as v
use Rattle.tc_model.specs.declared.sheet.Path.{Path}
use Rattle.tc_rules.specs.Tasks.{going_from, looking_from}
use Rattle.tc_run.specs.Idle.{IsIdleOn}
use Rattle.tc_run.specs.Lettered.{bare}
use Rattle.tc_run.specs.Running.{sheet_by, machine}
use Rattle.tc_run.specs.Spent.{Spends}
use Rattle.tc_run.specs.Tasks.{does, outputs_on}
use Rattle.tc_run.specs.Views.{trees, node}
use Rattle.tc_run.specs.declared.bodies.Context.{Context}
use Rattle.tc_run.specs.declared.bodies.Shape.TheVariants as shapes
use Rattle.tc_run.specs.declared.letters.Lettered.{Lettered}
use Rattle.tc_run.specs.declared.output.Output.{Output}
use Rattle.tc_run.specs.declared.runner.Runner.{Runner}
use Rattle.tc_run.proofs.Alone.{apply_alone, each_alone, value_alone, self_alone}
use Rattle.tc_run.proofs.BuiltIn.{joined_self}
use Rattle.tc_run.proofs.Instructions.{apply_seen, for_each_seen, value_of_seen, self_seen}
use Rattle.tc_run.proofs.Taken.{takes_nothing}

no_tree : (kids : List Lettered) → kids ≡ [] → bare (trees kids) ≡ none
no_tree kids e = ap (λ ns. bare (trees ns)) e

module _ (h : Context) (around : ℕ) (empty : h.kids.now ≡ []) (low : around < 8000) where
  -- there is none
  no_child : bare (trees h.kids.now) ≡ children (node h) → children (node h) ≡ none
  no_child e = sym e ∙ no_tree h.kids.now empty

  pub apply_idle : (i : Instr) (w : Path) (mode : ℕ) → i ≡ v.Apply w mode → IsIdleOn h around (see.instruction i no_instruction)
  apply_idle i w mode is = record {
    low = low;
    idle = λ r bodies p e u.
        apply_alone r bodies h (sheet_by r).named (subst (λ b. Inlines (sheet_by r).named b p) (apply_seen i w mode is) u)
        ∙ ap (λ x. within (outputs_on r bodies x h.above (going_from (in_mode mode) (see.path w)))) (no_child e);
  }

  pub each_idle : (i : Instr) (n : ℕ) (w : Path) (b : Bor (List Instr)) → i ≡ v.ForEach n w b → IsIdleOn h around (see.instruction i no_instruction)
  each_idle i n w b is = record {
    low = low;
    idle = λ r bodies p e u.
        let k = each_alone r bodies h (sheet_by r).named (subst (λ c. Inlines (sheet_by r).named c p) (for_each_seen i n w b is) u) in
        k.outcome ∙ ap (λ x. within (outputs_on r bodies x h.above (going_from (in_body k.plain) (see.path w)))) (no_child e);
  }

  pub value_idle : (i : Instr) (w : Path) → i ≡ v.ValueOf w → IsIdleOn h around (see.instruction i no_instruction)
  value_idle i w is = record {
    low = low;
    idle = λ r bodies p e u.
        value_alone r bodies h (sheet_by r).named (subst (λ c. Inlines (sheet_by r).named c p) (value_of_seen i w is) u)
        ∙ ap (λ x. within (put (value_of_first (first_hit (machine r bodies) x (looking_from (see.path w)))))) (no_child e);
  }

  pub self_idle : (i : Instr) → i ≡ v.ValueOfSelf → ((x : Bor (List ℕ)) → h.shape ≡ shapes.Text x → ⊥) → IsIdleOn h around (see.instruction i no_instruction)
  self_idle i is other = record {
    low = low;
    idle = λ r bodies p e u.
        self_alone r bodies h (sheet_by r).named (subst (λ c. Inlines (sheet_by r).named c p) (self_seen i is) u)
        ∙ ap (λ s. within (put s)) (sym (joined_self h other) ∙ ap joined_texts (no_tree h.kids.now empty));
  }

-- it is passed over
pub idle_spends : (h : Context) (around : ℕ) (b : Body) (r : Runner) (bodies : List CallFreeBody) (p : CallFreeBody) (x : Output) → IsIdleOn h around b → x.work ≤ 4000000
    → bare (trees h.kids.now) ≡ children (node h) → Inlines (sheet_by r).named b p → Spends around x x (does r bodies p h)
idle_spends h around b r bodies p x is few e u =
    let low = is.low in
    subst (Spends around x x) (sym (is.idle r bodies p e u)) (record { out = takes_nothing x.taken; work = omega arith; few = few; low = omega (arith, low) })
