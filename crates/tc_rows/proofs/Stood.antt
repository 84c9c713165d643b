-- What a number stands for is one state, and a mode has one task.
use Rattle.std.proofs.Common.{◌≡◌, ℕ, List, refl, ap, ◌∙◌, sym, subst, Bool, true, false, ◌&&◌, Option, Some, None, slice_get, arith}
use Rattle.std.proofs.lemmas.Bool.{eqb-true}
use Rattle.std.proofs.lemmas.Option.{same_Some}
use Rattle.tc_model.specs.Sheets.{Body, Branches, Sheet, CallFreeBody, CallFreeBranches, Inlines, u_done, u_text, u_element, u_copy, u_apply, u_call, u_value, u_self, u_choose, u_each, BranchesInline, u_otherwise, u_branch}
use Rattle.tc_model.specs.Machine.{CallFreeJob, in_body}
use Rattle.tc_model.specs.PathStates.{State, same_state}
use Rattle.tc_model.specs.SameTests.{same_path}
use Rattle.tc_model.specs.StateCounts.{PathUse}
use Rattle.tc_model.specs.WellFormed.{IsSheet}
use Rattle.tc_rules.specs.States.{Going, Looking}
use Rattle.tc_rules.specs.Tasks.{IsTaskOf, of_mode, of_each, IsMoveAt, IsLookAt}
use Rattle.tc_rules.specs.RulesView.{IsStateOf}
use Rattle.tc_rules.proofs.Counts.{state_counted}
use Rattle.tc_rules.proofs.Sameness.{path_same}
use Rattle.tc_rules.proofs.SameRows.{state_same}
use Rattle.tc_rows.specs.Triples.{Triple, IsTriple, Select, sheet, selects, number, same_mode, same_use, same_select}
use Rattle.tc_rows.proofs.Numbers.{number_finds, with_state}
use Rattle.tc_rows.proofs.States.{state_number, all_selects}

module _ {named : List Body} where
  mutual
    pub inlines_one : {b : Body} {p q : CallFreeBody} → Inlines named b p → Inlines named b q → p ≡ q
    inlines_one u_done u_done = refl
    inlines_one (u_text d) (u_text e) = let rest = inlines_one d e in cc
    inlines_one (u_element i d) (u_element j e) = let inner = inlines_one i j in let rest = inlines_one d e in cc
    inlines_one (u_copy i d) (u_copy j e) = let inner = inlines_one i j in let rest = inlines_one d e in cc
    inlines_one (u_apply d) (u_apply e) = let rest = inlines_one d e in cc
    inlines_one (u_call {i} at o d) (u_call {i = j} {o = o2} at2 u e) =
        let same : j ≡ i = cc in
        let inner = inlines_one o (subst (λ w. Inlines named w o2) same u) in let rest = inlines_one d e in cc
    inlines_one (u_value d) (u_value e) = let rest = inlines_one d e in cc
    inlines_one (u_self d) (u_self e) = let rest = inlines_one d e in cc
    inlines_one (u_choose i d) (u_choose j e) = let inner = branches_one i j in let rest = inlines_one d e in cc
    inlines_one (u_each i d) (u_each j e) = let inner = inlines_one i j in let rest = inlines_one d e in cc

    branches_one : {y : Branches} {p q : CallFreeBranches} → BranchesInline named y p → BranchesInline named y q → p ≡ q
    branches_one (u_otherwise d) (u_otherwise e) = let rest = inlines_one d e in cc
    branches_one (u_branch d y) (u_branch e z) = let first = inlines_one d e in let rest = branches_one y z in cc

-- the task of a mode
pub task_one : (s : Sheet) → IsSheet s → (n : ℕ) (j k : CallFreeJob) → IsTaskOf s n j → IsTaskOf s n k → j ≡ k
task_one s is n j k (of_mode l) (of_mode m) = refl
task_one s is n j k (of_mode l) (of_each e c u) = absurd (omega (arith, l, e))
task_one s is n j k (of_each e c u) (of_mode l) = absurd (omega (arith, l, e))
task_one s is n j k (of_each {f} {p} e c u) (of_each {f = g} {p = q} a b v) =
    let numbers : f.number ≡ g.number = omega (arith, e, a) in
    let same : f ≡ g = is.same_eaches f g c b numbers in
    ap in_body (inlines_one u (subst (λ w. Inlines s.named w q) (ap (λ w. w.body) (sym same)) v))

parts : (a b : Bool) → (a && b) ≡ true → (a ≡ true) × (b ≡ true)
parts true true e = (refl, refl)
parts true false e = cc
parts false b e = cc

mode_same : (m n : Option ℕ) → same_mode m n ≡ true → m ≡ n
mode_same None None e = refl
mode_same None (Some n) e = cc
mode_same (Some m) None e = cc
mode_same (Some m) (Some n) e = ap Some (eqb-true m n e)

use_same : (a b : PathUse) → same_use a b ≡ true → a ≡ b
use_same a b e =
    let (m, p) = parts (same_mode a.mode b.mode) (same_path a.path b.path) e in
    let path = path_same a.path b.path p in
    let mode = mode_same a.mode b.mode m in
    λ i. record { path = path i; mode = mode i }

select_same : (a b : Select) → same_select a b ≡ true → a ≡ b
select_same a b e =
    let (u, s) = parts (same_use a.by b.by) (same_state a.state b.state) e in
    let by = use_same a.by b.by u in
    let state = state_same a.state b.state s in
    λ i. record { by = by i; state = state i }

module _ (x : Triple) (is : IsTriple x) where
  -- it stands at its number
  pub selected_at : (k : ℕ) (b : PathUse) (s : State) → IsStateOf x.rules k b s → slice_get (selects x) k ≡ Some (with_state b s)
  selected_at k b s st =
      let same : number x (with_state b s) ≡ k = state_number x is k b s st in
      let (z, at, alike) = number_finds same_select (with_state b s) (selects x) (omega (arith, same, state_counted x.rules k b s st, all_selects x is)) in
      subst (λ n. slice_get (selects x) n ≡ Some (with_state b s)) same (at ∙ ap Some (sym (select_same (with_state b s) z alike)))

  pub stands_once : (k : ℕ) (b c : PathUse) (s u : State) → IsStateOf x.rules k b s → IsStateOf x.rules k c u → with_state b s ≡ with_state c u
  stands_once k b c s u a d = same_Some (with_state b s) (with_state c u) (sym (selected_at k b s a) ∙ selected_at k c u d)

  some_mode : (m n : ℕ) → Some m ≡ Some n → m ≡ n
  some_mode m n e = same_Some m n e

  pub move_once : (k : ℕ) (g h : Going) → IsMoveAt x.rules k g → IsMoveAt x.rules k h → g ≡ h
  move_once k g h a b =
      let same = stands_once k (record { path = g.path; mode = Some a.mode }) (record { path = h.path; mode = Some b.mode }) g.state h.state a.state b.state in
      let path : g.path ≡ h.path = ap (λ (w : Select). w.by.path) same in
      let state : g.state ≡ h.state = ap (λ (w : Select). w.state) same in
      let mode : a.mode ≡ b.mode = some_mode a.mode b.mode (ap (λ (w : Select). w.by.mode) same) in
      let task : g.task ≡ h.task = task_one (sheet x) is.rules.well_formed b.mode g.task h.task (subst (λ w. IsTaskOf (sheet x) w g.task) mode a.task) b.task in
      λ i. record { task = task i; path = path i; state = state i }

  -- a move's number has one mode
  pub mode_once : (k : ℕ) (g h : Going) (a : IsMoveAt x.rules k g) (b : IsMoveAt x.rules k h) → a.mode ≡ b.mode
  mode_once k g h a b =
      some_mode a.mode b.mode (ap (λ (w : Select). w.by.mode) (stands_once k (record { path = g.path; mode = Some a.mode }) (record { path = h.path; mode = Some b.mode }) g.state h.state a.state b.state))

  pub look_once : (k : ℕ) (s u : Looking) → IsLookAt x.rules k s → IsLookAt x.rules k u → s ≡ u
  look_once k s u a b =
      let same = stands_once k (record { path = s.path; mode = None }) (record { path = u.path; mode = None }) s.state u.state a b in
      let path : s.path ≡ u.path = ap (λ (w : Select). w.by.path) same in
      let state : s.state ≡ u.state = ap (λ (w : Select). w.state) same in
      λ i. record { path = path i; state = state i }
