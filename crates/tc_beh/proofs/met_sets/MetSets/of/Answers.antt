use Rattle.std.proofs.Common.{◌≡◌, ◌∙◌, ℕ, List, Option, Some, None, replicate, length, IfSome, subst, sym, ap, refl}
use Rattle.tc_beh.specs.Opening.{IsElement, AreElements}
use Rattle.tc_beh.specs.declared.met_sets.Element.{Element}
use Rattle.std.proofs.lemmas.List.{length-replicate}
use Rattle.std.proofs.lemmas.List.Elements.{All-replicate}
use Rattle.tc_beh.proofs.met_sets.MetSets.of.Goals as goal

-- what can't be remembered is nothing
nothing_else : (IsOne : Option Element → Type 0) → ((p : Element) → IsOne (Some p) → ⊥) → (o : Option Element) → IsOne o → o ≡ None
nothing_else IsOne none None is = refl
nothing_else IsOne none (Some p) is = absurd (none p is)

count_none : (n : ℕ) (es : List (Option Element)) → es ≡ replicate n None → length es ≡ n
count_none n es same = ap length same ∙ length-replicate n None

pub invariant_of-result : goal.invariant_of-result
invariant_of-result c =
    let first = c.in_ok-first.ensures in
    let elements : c.in_ok-elements.elements.items ≡ replicate 4096 None = c.in_ok-elements.ensures.items_if_clones_equal (nothing_else _ (λ p e. e)) in
    (count_none 4096 c.in_ok-elements.elements.items elements, first.text.0, first.nothing.0, first.nothing.1, c.in_ok-products.ensures _)

pub returns-clause-remembers : goal.returns-clause-remembers
returns-clause-remembers c = λ m.
    let elements : c.in_ok-elements.elements.items ≡ replicate 4096 None = c.in_ok-elements.ensures.items_if_clones_equal (nothing_else _ (λ p e. e)) in
    subst (AreElements m c.in_ok-first.first.0) (sym elements) (All-replicate (λ (o : Option Element). IfSome o (λ e. IsElement m c.in_ok-first.first.0 e.symbol e.inner e.element)) 4096 None tt)

pub returns-clause-text : goal.returns-clause-text
returns-clause-text c = c.in_ok-first.ensures.text.1

pub returns-clause-size : goal.returns-clause-size
returns-clause-size c = c.in_ok-first.ensures.size
