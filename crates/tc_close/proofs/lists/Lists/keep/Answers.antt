use Rattle.std.proofs.Common.{◌≡◌, ◌++◌, ◌∷◌, [], inr, Some, slice_get, length, map, List, ℕ, ap, sym, ◌∙◌, subst}
use Rattle.std.specs.List.{Contains}
use Rattle.std.proofs.lemmas.List.{length-map}
use Rattle.tc_close.proofs.Keys.{last_at, grown}
use Rattle.tc_close.proofs.HandedOn.{no_value}
use Rattle.tc_close.proofs.lists.Lists.keep.Goals as goal

-- the lists with the one that came last
last : (c : goal.In_ok-insert) → map (λ v. v.items) c.insert.new.self.keys ≡ c.args.self.now ++ c.args.numbers.now ∷ []
last c =
    let ks = c.self.inside.keys.keys in
    let copy = c.in_ok-copy.copy in
    let same : copy.items ≡ c.args.numbers.now = c.in_ok-copy.ensures.items in
    let absent = subst (λ (l : List ℕ). Contains (map (λ v. v.items) ks) l → ⊥) (sym same) (subst (λ (p : List (List ℕ)). Contains p c.args.numbers.now → ⊥) (sym c.self.view_is) c.in_default.ensures) in
    ap (map (λ v. v.items)) c.in_ok-insert.ensures.keys
    ∙ (grown (λ v. v.items) copy ks absent ∙ (ap (λ (p : List (List ℕ)). p ++ copy.items ∷ []) c.self.view_is ∙ ap (λ (l : List ℕ). c.args.self.now ++ l ∷ []) same))

pub returns-clause-place : goal.returns-clause-place
returns-clause-place c =
    let old : List (List ℕ) = c.args.self.now in
    let ns = c.args.numbers.now in
    let k : c.len-place.result ≡ length old = c.len-place.ensures.len ∙ (sym (length-map c.self.inside.keys.keys (λ v. v.items)) ∙ ap length c.self.view_is) in
    subst (λ (l : List (List ℕ)). slice_get l c.len-place.result ≡ Some ns) (sym (last c)) (subst (λ n. slice_get (old ++ ns ∷ []) n ≡ Some ns) (sym k) (last_at ns old))

pub returns-clause-grows : goal.returns-clause-grows
returns-clause-grows c =
    let k : c.len-place.result ≡ length c.args.self.now = c.len-place.ensures.len ∙ (sym (length-map c.self.inside.keys.keys (λ v. v.items)) ∙ ap length c.self.view_is) in
    inr (k, last c)

pub returns-in_err-copy-clause-place : goal.returns-in_err-copy-clause-place
returns-in_err-copy-clause-place c = no_value c.from_residual.result _ _ c.from_residual.ensures.1

pub returns-in_err-copy-clause-grows : goal.returns-in_err-copy-clause-grows
returns-in_err-copy-clause-grows c = no_value c.from_residual.result _ _ c.from_residual.ensures.1

pub returns-in_err-insert-clause-place : goal.returns-in_err-insert-clause-place
returns-in_err-insert-clause-place c = no_value c.from_residual-in_err-insert.result _ _ c.from_residual-in_err-insert.ensures.1

pub returns-in_err-insert-clause-grows : goal.returns-in_err-insert-clause-grows
returns-in_err-insert-clause-grows c = no_value c.from_residual-in_err-insert.result _ _ c.from_residual-in_err-insert.ensures.1
