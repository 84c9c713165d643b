-- A body whose calls end puts out exactly what it puts out by states.
use Rattle.std.proofs.Common.{◌≡◌, ℕ, List, [], ◌∷◌, ◌++◌, refl, ap, ◌∙◌, sym, subst, Bool, true, false, cond, Some, slice_get}
use Rattle.tc_model.specs.Trees.{Trees, none, text, element}
use Rattle.tc_model.specs.Chains.{Tree, an_element, a_text, Chain, under, below, found, nodes_where, Node, whole, one, node_of, children, string_value}
use Rattle.tc_model.specs.Sheets.{Test, Body, copy, apply, for_each, value, Branches, branch, Rule, CallFreeBody, p_copy, Inlines, u_done, u_text, u_element, u_copy, u_apply, u_call, u_each, u_value, u_self, u_choose, CallFreeBranches, BranchesInline, u_otherwise, u_branch}
use Rattle.tc_model.specs.Outcomes.{Outcome, join, within, counted, put, put_around, copied}
use Rattle.tc_model.specs.Paths.{holds, selected}
use Rattle.tc_model.specs.Meaning.{value_of_first, Job, by_mode, by_body, body_of, Does, Each, does_no_instruction, does_text, does_element, does_copy, does_copy_text, IsInner, does_apply, does_call, does_for_each, does_value, does_self, does_choose, Takes, takes_last, takes_this, takes_later, on_none, on_one}
use Rattle.tc_model.specs.Machine.{Machine, above, holds_in, outputs, does_at, plain_at, CallFreeJob, in_mode, in_body, JobInlines, u_mode, u_body, takes_in, known, known_branches, known_task, IsMachineOf}
use Rattle.tc_model.proofs.TotalSelected.{found_text, found_element}
use Rattle.tc_model.proofs.TotalByStates.{first_selected, test_holds, all_at, all_selected}

module _ (rules : List Rule) (named : List Body) (m : Machine) (of : IsMachineOf m rules named) where
  same_body : (n : ℕ) (i j : Body) → slice_get named n ≡ Some i → slice_get named n ≡ Some j → j ≡ i
  same_body n i j e f = cc

  abbrev takes_at : CallFreeBranches → Chain → Outcome
  takes_at y c = takes_in m y (node_of c) (λ i u. outputs m (children (node_of c)) i (above m c) u)

  joined : (a b c d : Outcome) → a ≡ b → c ≡ d → join (within a) c ≡ join (within b) d
  joined a b c d e f = λ i. join (within (e i)) (f i)

  mutual
    pub does_sound : {b : Body} {c : Chain} {h : Outcome} {p : CallFreeBody} → Does rules named b c h → Inlines named b p → known m.KnownMove m.KnownLook p → h ≡ does_at m p c
    does_sound does_no_instruction u_done n = refl
    does_sound (does_text {x} d) (u_text u) n = ap (join (within (put x))) (does_sound d u n)
    does_sound (does_element {n = a} i d) (u_element v u) n = joined _ _ _ _ (ap (put_around a) (does_sound i v n.0)) (does_sound d u n.1)
    does_sound (does_copy {c} in_it i d) (u_copy v u) n = joined _ _ _ _ (ap (copied (node_of c)) (does_sound i v n.0)) (does_sound d u n.1)
    does_sound (does_copy_text {c} e d) (u_copy {o} v u) n = joined _ _ _ _ (ap (λ w. copied w (does_at m o c)) (sym e)) (does_sound d u n.1)
    does_sound (does_apply {c} e d) (u_apply {w} {m = k} u) n = joined _ _ _ _ (each_sound e u_mode tt ∙ all_selected rules named m of (in_mode k) w n.0 c) (does_sound d u n.1)
    does_sound (does_call i at e d) (u_call {i = j} {o} is v u) n = joined _ _ _ _ (ap counted (does_sound e (subst (λ w. Inlines named w o) (same_body _ i j at is) v) n.0)) (does_sound d u n.1)
    does_sound (does_for_each {c} e d) (u_each {w} {o} v u) n = joined _ _ _ _ (each_sound e (u_body v) n.1 ∙ all_selected rules named m of (in_body o) w n.0 c) (does_sound d u n.2)
    does_sound (does_value {c} d) (u_value {w} u) n = joined _ _ _ _ (ap (λ w. put (value_of_first w)) (first_selected rules named m of w n.0 c)) (does_sound d u n.1)
    does_sound (does_self {c} d) (u_self u) n = ap (join (within (put (string_value (node_of c))))) (does_sound d u n)
    does_sound (does_choose i d) (u_choose v u) n = joined _ _ _ _ (takes_sound i v n.0) (does_sound d u n.1)

    takes_sound : {x : Branches} {c : Chain} {h : Outcome} {y : CallFreeBranches} → Takes rules named x c h → BranchesInline named x y → known_branches m.KnownMove m.KnownLook y → h ≡ takes_at y c
    takes_sound (takes_last d) (u_otherwise u) n = does_sound d u n
    takes_sound (takes_this {t} {c} e d) (u_branch {p} {y} u v) n = does_sound d u n.1 ∙ ap (λ w. cond w (does_at m p c) (takes_at y c)) (sym e ∙ test_holds rules named m of t n.0 c)
    takes_sound (takes_later {t} {c} e d) (u_branch {p} {y} u v) n = takes_sound d v n.2 ∙ ap (λ w. cond w (does_at m p c) (takes_at y c)) (sym e ∙ test_holds rules named m of t n.0 c)

    pub each_sound : {j : Job} {cs : List Chain} {h : Outcome} {k : CallFreeJob} → Each rules named j cs h → JobInlines named j k → known_task m.KnownMove m.KnownLook k → h ≡ all_at rules named m of k cs
    each_sound on_none u n = refl
    each_sound {k = j} (on_one {c} {cs} {h} {k} d e) u n =
        ap (λ w. join (counted w) k) (does_sound d (of.ruled _ j c u) (of.knows j c n)) ∙ ap (join (counted (does_at m (plain_at m j c) c))) (each_sound e u n)

  -- there is an output on each of several nodes
  abbrev pub AllDo : Job → CallFreeJob → List Chain → Type 0
  AllDo j k [] = Unit {0}
  AllDo j k (c ∷ cs) = Does rules named (body_of rules j c) c (does_at m (plain_at m k c) c) × AllDo j k cs

  all_do : (j : Job) (k : CallFreeJob) (cs : List Chain) → AllDo j k cs → Each rules named j cs (all_at rules named m of k cs)
  all_do j k [] a = on_none
  all_do j k (c ∷ cs) a = on_one a.0 (all_do j k cs a.1)

  do_append : (j : Job) (k : CallFreeJob) (cs ds : List Chain) → AllDo j k cs → AllDo j k ds → AllDo j k (cs ++ ds)
  do_append j k [] ds a b = b
  do_append j k (c ∷ cs) ds a b = (a.0, do_append j k cs ds a.1 b)

  do_cond : (b : Bool) (j : Job) (k : CallFreeJob) (c : Chain) → Does rules named (body_of rules j c) c (does_at m (plain_at m k c) c) → AllDo j k (cond b (c ∷ []) [])
  do_cond true j k c d = (d, tt)
  do_cond false j k c d = tt

  copy_total : (i b : Body) (o p : CallFreeBody) (c : Chain) (w : Node) → node_of c ≡ w → Does rules named i c (does_at m o c) → Does rules named b c (does_at m p c) → Does rules named (copy i b) c (does_at m (p_copy o p) c)
  copy_total i b o p c (whole doc) e d f = does_copy (subst IsInner (sym e) tt) d f
  copy_total i b o p c (one (an_element n h)) e d f = does_copy (subst IsInner (sym e) tt) d f
  copy_total i b o p c (one (a_text x)) e d f =
      subst (λ w. Does rules named (copy i b) c (join (within w) (does_at m p c))) (ap (λ w. copied w (does_at m o c)) (sym e)) (does_copy_text e f)

  takes_chosen : (w : Bool) (t : Test) (b : Body) (x : Branches) (p : CallFreeBody) (y : CallFreeBranches) (c : Chain) → holds t c ≡ w
      → Does rules named b c (does_at m p c) → Takes rules named x c (takes_at y c) → Takes rules named (branch t b x) c (cond w (does_at m p c) (takes_at y c))
  takes_chosen true t b x p y c e d f = takes_this e d
  takes_chosen false t b x p y c e d f = takes_later e f

  module _ (c : Chain) (a : (j : Job) (k : CallFreeJob) → JobInlines named j k → known_task m.KnownMove m.KnownLook k → (p : List Tree → Bool) → AllDo j k (nodes_where p c)) where
    mutual
      does_total : {b : Body} {p : CallFreeBody} → Inlines named b p → known m.KnownMove m.KnownLook p → Does rules named b c (does_at m p c)
      does_total u_done n = does_no_instruction
      does_total (u_text u) n = does_text (does_total u n)
      does_total (u_element v u) n = does_element (does_total v n.0) (does_total u n.1)
      does_total (u_copy {i} {b} {o} {p} v u) n = copy_total i b o p c (node_of c) refl (does_total v n.0) (does_total u n.1)
      does_total (u_apply {w} {m = k} {b} {p} u) n =
          subst (λ x. Does rules named (apply w k b) c (join (within x) (does_at m p c))) (all_selected rules named m of (in_mode k) w n.0 c)
          (does_apply (all_do (by_mode k) (in_mode k) (selected w c) (a (by_mode k) (in_mode k) u_mode tt _)) (does_total u n.1))
      does_total (u_call {i = i} at v u) n = does_call i at (does_total v n.0) (does_total u n.1)
      does_total (u_each {e} {w} {i} {b} {o} {p} v u) n =
          subst (λ x. Does rules named (for_each e w i b) c (join (within x) (does_at m p c))) (all_selected rules named m of (in_body o) w n.0 c)
          (does_for_each (all_do (by_body i) (in_body o) (selected w c) (a (by_body i) (in_body o) (u_body v) n.1 _)) (does_total u n.2))
      does_total (u_value {w} {b} {p} u) n =
          subst (λ x. Does rules named (value w b) c (join (within (put (value_of_first x))) (does_at m p c))) (first_selected rules named m of w n.0 c) (does_value (does_total u n.1))
      does_total (u_self u) n = does_self (does_total u n)
      does_total (u_choose v u) n = does_choose (takes_total v n.0) (does_total u n.1)

      takes_total : {x : Branches} {y : CallFreeBranches} → BranchesInline named x y → known_branches m.KnownMove m.KnownLook y → Takes rules named x c (takes_at y c)
      takes_total (u_otherwise u) n = takes_last (does_total u n)
      takes_total (u_branch {t} {b} {x} {p} {y} u v) n =
          takes_chosen (holds_in m t (children (node_of c))) t b x p y c (test_holds rules named m of t n.0 c) (does_total u n.1) (takes_total v n.2)

  below_total : (h : Trees) (j : Job) (k : CallFreeJob) → JobInlines named j k → known_task m.KnownMove m.KnownLook k → (c : Chain) (p : List Tree → Bool) → AllDo j k (found p c (below h))
  below_total none j k u n c p = tt
  below_total (text x rest) j k u n c p =
      let t = a_text x in
      subst (AllDo j k) (sym (found_text p c x rest))
      (do_append j k (cond (p (t ∷ [])) (under c t ∷ []) []) (found p c (below rest))
      (do_cond (p (t ∷ [])) j k (under c t) (does_total (under c t) (λ i l v o q. tt) (of.ruled j k (under c t) u) (of.knows k (under c t) n)))
      (below_total rest j k u n c p))
  below_total (element a h rest) j k u n c p =
      let t = an_element a h in
      subst (AllDo j k) (sym (found_element p c a h rest))
      (do_append j k (cond (p (t ∷ [])) (under c t ∷ []) []) (found (λ d. p (t ∷ d)) (under c t) (below h) ++ found p c (below rest))
      (do_cond (p (t ∷ [])) j k (under c t) (does_total (under c t) (λ i l v o q. below_total h i l v o (under c t) q) (of.ruled j k (under c t) u) (of.knows k (under c t) n)))
      (do_append j k (found (λ d. p (t ∷ d)) (under c t) (below h)) (found p c (below rest)) (below_total h j k u n (under c t) (λ d. p (t ∷ d))) (below_total rest j k u n c p)))

  pub does_complete : (b : Body) (p : CallFreeBody) (c : Chain) → Inlines named b p → known m.KnownMove m.KnownLook p → Does rules named b c (does_at m p c)
  does_complete b p c u n = does_total c (λ j k v o q. below_total (children (node_of c)) j k v o c q) u n
