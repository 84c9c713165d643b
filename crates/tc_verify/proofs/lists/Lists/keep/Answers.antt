use Rattle.std.proofs.Common.{◌≡◌, ◌++◌, ◌∷◌, [], List, ℕ, map, ap, sym, ◌∙◌, subst}
use Rattle.std.specs.List.{Contains}
use Rattle.tc_verify.proofs.Keys.{grown, one_more}
use Rattle.tc_verify.proofs.HandedOn.{not_done}
use Rattle.tc_verify.proofs.lists.Lists.keep.Goals as goal

pub returns : goal.returns
returns c =
    let ks = c.self.inside.keys.keys in
    let copy = c.in_ok-copy.copy in
    let same : copy.items ≡ c.args.numbers.now = c.in_ok-copy.ensures.items in
    let out : Contains c.args.self.now c.args.numbers.now → ⊥ = λ h. let t = c.has.ensures.1 h in let f = c.if-has.false in cc in
    let absent = subst (λ (l : List ℕ). Contains (map (λ v. v.items) ks) l → ⊥) (sym same) (subst (λ (p : List (List ℕ)). Contains p c.args.numbers.now → ⊥) (sym c.self.view_is) out) in
    one_more c.args.self.now (map (λ v. v.items) c.insert.new.self.keys) c.args.numbers.now
    (ap (map (λ v. v.items)) c.in_ok-insert.ensures.keys
    ∙ (grown (λ v. v.items) copy ks absent ∙ (ap (λ (p : List (List ℕ)). p ++ copy.items ∷ []) c.self.view_is ∙ ap (λ (l : List ℕ). c.args.self.now ++ l ∷ []) same)))

pub returns-in_err-copy : goal.returns-in_err-copy
returns-in_err-copy c = not_done c.from_residual.result _ _ c.from_residual.ensures.1

pub returns-in_err-insert : goal.returns-in_err-insert
returns-in_err-insert c = not_done c.from_residual-in_err-insert.result _ _ c.from_residual-in_err-insert.ensures.1
