-- A body puts out one thing on a node.
use Rattle.std.proofs.Common.{◌≡◌, ℕ, List, refl, ap, ◌∙◌, sym, subst}
use Rattle.tc_model.specs.Trees.{Trees, normal_form}
use Rattle.tc_model.specs.Chains.{Chain, top, one, a_text, node_of}
use Rattle.tc_model.specs.Sheets.{Body, Branches, Rule, Sheet}
use Rattle.tc_model.specs.Outcomes.{Outcome, counted}
use Rattle.tc_model.specs.Meaning.{Job, by_mode, IsInner, Does, Takes, Each, does_no_instruction, does_text, does_element, does_copy, does_copy_text, does_apply, does_call, does_value, does_self, does_choose, does_for_each, takes_last, takes_this, takes_later, on_none, on_one}
use Rattle.tc_model.specs.Safety.{Instantiates, IsResultOf}

not_inner : (c : Chain) (x : List ℕ) → node_of c ≡ one (a_text x) → IsInner (node_of c) → ⊥
not_inner c x e i = subst IsInner e i

module _ {rules : List Rule} {named : List Body} where
  mutual
    pub does_unique : {b : Body} {c : Chain} {x y : Outcome} → Does rules named b c x → Does rules named b c y → x ≡ y
    does_unique does_no_instruction does_no_instruction = refl
    does_unique (does_text d) (does_text e) = let rest = does_unique d e in cc
    does_unique (does_element i d) (does_element j e) = let inner = does_unique i j in let rest = does_unique d e in cc
    does_unique (does_copy o i d) (does_copy p j e) = let inner = does_unique i j in let rest = does_unique d e in cc
    does_unique (does_copy {c} o i d) (does_copy_text {x} t e) = absurd (not_inner c x t o)
    does_unique (does_copy_text {c} {x} t d) (does_copy o j e) = absurd (not_inner c x t o)
    does_unique (does_copy_text t d) (does_copy_text u e) = let rest = does_unique d e in cc
    does_unique (does_apply i d) (does_apply j e) = let inner = each_unique i j in let rest = does_unique d e in cc
    does_unique {c} (does_call i at d e) (does_call {k = k2} j at2 f g) =
        let same : j ≡ i = cc in
        let inner = does_unique d (subst (λ w. Does rules named w c k2) same f) in let rest = does_unique e g in cc
    does_unique (does_value d) (does_value e) = let rest = does_unique d e in cc
    does_unique (does_self d) (does_self e) = let rest = does_unique d e in cc
    does_unique (does_choose i d) (does_choose j e) = let inner = takes_unique i j in let rest = does_unique d e in cc
    does_unique (does_for_each i d) (does_for_each j e) = let inner = each_unique i j in let rest = does_unique d e in cc

    pub takes_unique : {b : Branches} {c : Chain} {x y : Outcome} → Takes rules named b c x → Takes rules named b c y → x ≡ y
    takes_unique (takes_last d) (takes_last e) = does_unique d e
    takes_unique (takes_this t d) (takes_this u e) = does_unique d e
    takes_unique (takes_this t d) (takes_later u e) = cc
    takes_unique (takes_later t d) (takes_this u e) = cc
    takes_unique (takes_later t d) (takes_later u e) = takes_unique d e

    pub each_unique : {j : Job} {cs : List Chain} {x y : Outcome} → Each rules named j cs x → Each rules named j cs y → x ≡ y
    each_unique on_none on_none = refl
    each_unique (on_one d ds) (on_one e es) = let first = does_unique d e in let rest = each_unique ds es in cc

pub instantiates_unique : (s : Sheet) (j : Job) (c : Chain) (x y : Outcome) → Instantiates s j c x → Instantiates s j c y → x ≡ y
instantiates_unique s j c x y d e = d.2 ∙ (ap counted (does_unique d.1 e.1) ∙ sym e.2)

pub result_unique : (s : Sheet) (doc x y : Trees) → IsResultOf s doc x → IsResultOf s doc y → x ≡ y
result_unique s doc x y d e = d.2 ∙ (ap (λ (w : Outcome). normal_form w.out) (instantiates_unique s (by_mode 0) (top doc) d.0 e.0 d.1 e.1) ∙ sym e.2)
