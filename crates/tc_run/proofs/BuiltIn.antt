-- What the built-in rules and single instructions do on a node.
use Rattle.std.proofs.Common.{◌≡◌, ℕ, ◌≤◌, List, refl, ap, ◌∙◌, sym, subst, Option, Some, None, Bor, arith}
use Rattle.tc_model.specs.Chains.{an_element, Node, whole, one, children, joined_texts, string_value}
use Rattle.tc_model.specs.Machine.{Machine, CallFreeJob, in_mode, does_in, outputs, first_hit}
use Rattle.tc_model.specs.Meaning.{all_children, value_of_first}
use Rattle.tc_model.specs.Outcomes.{Outcome, within, put, put_around, copied}
use Rattle.tc_model.specs.Views as see
use Rattle.tc_model.specs.Views.{name}
use Rattle.tc_model.specs.Sheets.{Path, Body, no_instruction, put_text, put_element, copy, apply, call, for_each, value, value_of_self, choose, CallFreeBody, Inlines, u_text, u_element, u_copy, u_apply, u_call, u_value, u_self, u_choose, u_each}
use Rattle.tc_model.specs.Trees.{Trees}
use Rattle.tc_model.specs.declared.tree.Name.{Name}
use Rattle.tc_model.specs.declared.sheet.Branch.{Branch}
use Rattle.tc_model.specs.declared.sheet.Instr.{Instr, Instr-F}
use Rattle.tc_model.specs.declared.sheet.Instr.TheOpen as parts
use Rattle.tc_model.specs.declared.sheet.Instr.TheVariants as v
use Rattle.tc_model.specs.declared.sheet.Instr.TheViews.{roll-Instr, out-Instr, roll-out-Instr}
use Rattle.tc_model.proofs.TotalJoin.{join_none}
use Rattle.tc_rules.specs.RulesView.{ancestor}
use Rattle.tc_run.specs.Hits.{value_of}
use Rattle.tc_run.specs.Lettered.{bare}
use Rattle.tc_run.specs.Running.{told_by, symbols_by, predicates_by, sheet_by, machine, looking}
use Rattle.tc_run.specs.Views.{trees, node, node_of}
use Rattle.tc_rules.specs.Tasks.{going_from, looking_from}
use Rattle.tc_run.specs.Tasks.{built_in, does, outputs_on}
use Rattle.tc_run.specs.declared.bodies.Context.{Context}
use Rattle.tc_run.specs.declared.bodies.Shape.{Shape}
use Rattle.tc_run.specs.declared.bodies.Shape.TheVariants as shapes
use Rattle.tc_run.specs.declared.looks.Hit.{Hit}
use Rattle.tc_run.specs.declared.runner.Runner.{Runner}
use Rattle.tc_run.proofs.Instructions.{text_seen, self_seen, elem_seen, copy_seen, apply_seen, call_seen, value_of_seen, choose_seen, for_each_seen}
use Rattle.tc_run.proofs.FirstHits.{Answered, answered_none, answered_value}
use Rattle.tc_rules.proofs.Looking.{first_alike}

module _ (r : Runner) (bodies : List CallFreeBody) (mode : ℕ) where
  abbrev by_built_in : ℕ → Node → Outcome
  by_built_in above n = does_in (machine r bodies) (built_in mode n) n (λ i u. outputs (machine r bodies) (children n) i (ancestor (told_by r) above) u)

  abbrev of_children : ℕ → Node → Outcome
  of_children above n = outputs_on r bodies (children n) above (going_from (in_mode mode) all_children)

  children_by : (s : Shape) (kids : Trees) (above : ℕ) → ((x : Bor (List ℕ)) → s ≡ shapes.Text x → ⊥) → by_built_in above (node_of s kids) ≡ within (of_children above (node_of s kids))
  children_by shapes.Root kids above other = join_none (within (of_children above (whole kids)))
  children_by (shapes.Elem n) kids above other = join_none (within (of_children above (one (an_element (name n) kids))))
  children_by (shapes.Text x) kids above other = absurd (other x refl)

  pub built_in_children : (h : Context) → ((x : Bor (List ℕ)) → h.shape ≡ shapes.Text x → ⊥)
      → does r bodies (built_in mode (node h)) h ≡ within (outputs_on r bodies (children (node h)) h.above (going_from (in_mode mode) all_children))
  built_in_children h other = children_by h.shape (bare (trees h.kids.now)) h.above other

-- the string-value of a node that is no text
joined_by : (s : Shape) (kids : Trees) → ((x : Bor (List ℕ)) → s ≡ shapes.Text x → ⊥) → joined_texts kids ≡ string_value (node_of s kids)
joined_by shapes.Root kids other = refl
joined_by (shapes.Elem n) kids other = refl
joined_by (shapes.Text x) kids other = absurd (other x refl)

pub joined_self : (h : Context) → ((x : Bor (List ℕ)) → h.shape ≡ shapes.Text x → ⊥) → joined_texts (bare (trees h.kids.now)) ≡ string_value (node h)
joined_self h other = joined_by h.shape (bare (trees h.kids.now)) other

-- some instruction
abbrev pub HasOne : Body → Type 0
HasOne no_instruction = ⊥
HasOne (put_text x b) = Unit {0}
HasOne (put_element n inner b) = Unit {0}
HasOne (copy inner b) = Unit {0}
HasOne (apply p m b) = Unit {0}
HasOne (call n b) = Unit {0}
HasOne (value p b) = Unit {0}
HasOne (value_of_self b) = Unit {0}
HasOne (choose x b) = Unit {0}
HasOne (for_each e p inner b) = Unit {0}

abbrev IsSeen : Instr → Type 0
IsSeen i = HasOne (see.instruction i no_instruction)

seen_by : (f : Instr-F Instr Branch) → IsSeen (roll-Instr f)
seen_by (parts.Text x) = subst HasOne (sym (text_seen (roll-Instr (parts.Text x)) x (v.rolls-Text x))) tt
seen_by (parts.Elem n b) = subst HasOne (sym (elem_seen (roll-Instr (parts.Elem n b)) n b (v.rolls-Elem n b))) tt
seen_by (parts.Copy b) = subst HasOne (sym (copy_seen (roll-Instr (parts.Copy b)) b (v.rolls-Copy b))) tt
seen_by (parts.Apply p mode) = subst HasOne (sym (apply_seen (roll-Instr (parts.Apply p mode)) p mode (v.rolls-Apply p mode))) tt
seen_by (parts.Call n) = subst HasOne (sym (call_seen (roll-Instr (parts.Call n)) n (v.rolls-Call n))) tt
seen_by (parts.ValueOf p) = subst HasOne (sym (value_of_seen (roll-Instr (parts.ValueOf p)) p (v.rolls-ValueOf p))) tt
seen_by parts.ValueOfSelf = subst HasOne (sym (self_seen (roll-Instr parts.ValueOfSelf) v.rolls-ValueOfSelf)) tt
seen_by (parts.Choose bs b) = subst HasOne (sym (choose_seen (roll-Instr (parts.Choose bs b)) bs b (v.rolls-Choose bs b))) tt
seen_by (parts.ForEach n p b) = subst HasOne (sym (for_each_seen (roll-Instr (parts.ForEach n p b)) n p b (v.rolls-ForEach n p b))) tt

pub is_seen : (i : Instr) → IsSeen i
is_seen i = subst IsSeen (roll-out-Instr i) (seen_by (out-Instr i))

module _ (m : Machine) (n : Node) (outs : CallFreeJob → m.Move → Outcome) (named : List Body) where
  pub deep_in : (b : Body) (p : CallFreeBody) → HasOne b → Inlines named b p → 1 ≤ (does_in m p n outs).nesting
  deep_in no_instruction p k u = absurd k
  deep_in (put_text x b) p k (u_text u) = omega arith
  deep_in (put_element n i b) p k (u_element w u) = omega arith
  deep_in (copy i b) p k (u_copy w u) = omega arith
  deep_in (apply q j b) p k (u_apply u) = omega arith
  deep_in (call n b) p k (u_call e w u) = omega arith
  deep_in (value q b) p k (u_value u) = omega arith
  deep_in (value_of_self b) p k (u_self u) = omega arith
  deep_in (choose x b) p k (u_choose w u) = omega arith
  deep_in (for_each e q i b) p k (u_each w u) = omega arith

module _ (r : Runner) (bodies : List CallFreeBody) (h : Context) (named : List Body) where
  -- an instruction stands within a body
  pub one_deep : (i : Instr) (p : CallFreeBody) → Inlines named (see.instruction i no_instruction) p → 1 ≤ (does r bodies p h).nesting
  one_deep i p u =
      deep_in (machine r bodies) (node h) (λ j w. outputs (machine r bodies) (children (node h)) j (ancestor (told_by r) h.above) w) named (see.instruction i no_instruction) p (is_seen i) u

  -- the value of the node that a look selects first
  pub value_same : (p : Path) (s : List ℕ) → bare (trees h.kids.now) ≡ children (node h) → s ≡ value_of_first (first_hit (looking r) (bare (trees h.kids.now)) (looking_from p))
      → put (value_of_first (first_hit (machine r bodies) (children (node h)) (looking_from p))) ≡ put s
  value_same p s k e =
      ap (λ w. put (value_of_first (first_hit (machine r bodies) w (looking_from p)))) (sym k)
      ∙ (ap (λ w. put (value_of_first w)) (first_alike (symbols_by r) (predicates_by r) (sheet_by r).rules bodies (bare (trees h.kids.now)) (looking_from p)) ∙ ap put (sym e))

-- a copy, by what the node is
pub copy_root : (h : Context) (a : Outcome) → h.shape ≡ shapes.Root → copied (node h) a ≡ a
copy_root h a e = ap (λ s. copied (node_of s (bare (trees h.kids.now))) a) e

pub copy_elem : (h : Context) (n : Name) (a : Outcome) → h.shape ≡ shapes.Elem n → copied (node h) a ≡ put_around (name n) a
copy_elem h n a e = ap (λ s. copied (node_of s (bare (trees h.kids.now))) a) e

-- the value of what was found, or else none
pub value_found : (found : Option Hit) (hit : Option Node) → Answered found hit → value_of found ≡ value_of_first hit
value_found None hit a = sym (answered_none hit a)
value_found (Some y) hit a = answered_value y hit a
