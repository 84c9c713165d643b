use Rattle.std.proofs.Common.{◌≡◌, ℕ, ◌+◌, ◌<◌, ◌∙◌, Bool, true, false, Some, List, if◌then◌else◌, ap, bytes_eq, drop, get_or, length, map, refl, sym}
use Rattle.std.proofs.lemmas.List.{drop_all, drop_more}
use Rattle.tc_model.specs.Views.{bound}
use Rattle.tc_model.specs.XmlTextScopes.{uri_of}
use Rattle.tc_model.specs.declared.tree.Binding.{Binding}
use Rattle.tc_sheet.proofs.attributes.namespace_of.Goals as goal

-- one step of the loop over bindings
left : (bs : List Binding) (k : ℕ) (d : Binding) (prefix : List ℕ) → k < length bs → (b : Bool) → b ≡ bytes_eq (get_or bs k d).prefix.now prefix
    → uri_of (map bound (drop k bs)) prefix ≡ (if b then Some (get_or bs k d).uri.now else uri_of (map bound (drop (k + 1) bs)) prefix)
left bs k d prefix lt b e = ap (λ z. uri_of (map bound z) prefix) (drop_more bs k d lt) ∙ ap (λ (b : Bool). if b then Some (get_or bs k d).uri.now else uri_of (map bound (drop (k + 1) bs)) prefix) (sym e)

pub loop-binding-init : goal.loop-binding-init
loop-binding-init c = refl

pub loop-binding-preserved : goal.loop-binding-preserved
loop-binding-preserved c = sym (left c.args.scope.now c.loop-binding.binding-index _ c.args.prefix.now c.loop-binding-test.true false c.if-eq.ensures) ∙ c.loop-binding.invariant

pub returns-then-eq : goal.returns-then-eq
returns-then-eq c = sym c.loop-binding.invariant ∙ left c.args.scope.now c.loop-binding.binding-index _ c.args.prefix.now c.loop-binding-test.true true c.if-eq.ensures

pub returns : goal.returns
returns c = sym c.loop-binding.invariant ∙ ap (λ z. uri_of (map bound z) c.args.prefix.now) (drop_all c.loop-binding.binding-index c.args.scope.now c.loop-binding-test.false)
